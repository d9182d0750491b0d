-- What a request that was read asks.
use Rattle.std.specs.Prelude.{◌≡◌, ℕ, ◌+◌, ◌*◌, ◌≤◌, Bool, List, length, drop, Ok, Err, Result}
use Rattle.device.specs.declared.types.Device.{Device}
use Rattle.memory.specs.Meaning.{Meaning}
use Rattle.wire.specs.declared.code.Code.{Code}
use Rattle.wire.specs.Numbers.{per_byte, number_in}
use Rattle.wire.specs.Points.{bits_size}
use Rattle.frame.specs.declared.fault.Cause.{Cause}
use Rattle.frame.specs.declared.fault.Fault.{Fault}
use Rattle.frame.specs.declared.header.Header.{Header}
use Rattle.frame.specs.Faults.{fault}
use Rattle.request.specs.declared.types.Request.{Request}
use Rattle.request.specs.declared.types.Request.TheVariants.{ReadBits, ReadWords, WriteBits, WriteWords, ReadRandom, Register, Monitor, WriteRandomBits, WriteRandom}
use Rattle.request.specs.Fields.{list_in, bits_in}
use Rattle.request.specs.Requests.{Asked, read_bits, read_words, write_bits, write_words, random_read, register, monitor, random_bits, random_write, Command, command_of}
use Rattle.request.specs.Judging.{judged}
use Rattle.request.specs.Entries.{access_in, setting_in}

-- a request that was read, with the bytes that it holds of the frame and their place
pub data Held : Type 0 where
  held_read_bits : Device → ℕ → ℕ → Held
  held_read_words : Device → ℕ → ℕ → Held
  held_write_bits : Device → ℕ → ℕ → List ℕ → ℕ → Held
  held_write_words : Device → ℕ → ℕ → List ℕ → ℕ → Held
  held_random_read : ℕ → ℕ → List ℕ → ℕ → Held
  held_register : ℕ → ℕ → List ℕ → ℕ → Held
  held_monitor : Held
  held_random_bits : ℕ → List ℕ → ℕ → Held
  held_random_write : ℕ → ℕ → List ℕ → ℕ → Held

abbrev pub held : Result Request Fault → Result Held Fault
held (Ok (ReadBits d i n)) = Ok (held_read_bits d i n)
held (Ok (ReadWords d i n)) = Ok (held_read_words d i n)
held (Ok (WriteBits d i n bytes place)) = Ok (held_write_bits d i n bytes.now place)
held (Ok (WriteWords d i n bytes place)) = Ok (held_write_words d i n bytes.now place)
held (Ok (ReadRandom w d bytes place)) = Ok (held_random_read w d bytes.now place)
held (Ok (Register w d bytes place)) = Ok (held_register w d bytes.now place)
held (Ok Monitor) = Ok held_monitor
held (Ok (WriteRandomBits n bytes place)) = Ok (held_random_bits n bytes.now place)
held (Ok (WriteRandom w d bytes place)) = Ok (held_random_write w d bytes.now place)
held (Err e) = Err e

-- what a request that is held asks, in no code; double words stand behind the words
abbrev pub asked_of : Code → Held → Asked
asked_of code (held_read_bits d i n) = read_bits d i n
asked_of code (held_read_words d i n) = read_words d i n
asked_of code (held_write_bits d i n bytes place) = write_bits d i (bits_in code bytes 0 n)
asked_of code (held_write_words d i n bytes place) = write_words d i (list_in (number_in code 2) n bytes)
asked_of code (held_random_read w d bytes place) = random_read (list_in (access_in code) w bytes) (list_in (access_in code) d (drop (w * (4 * per_byte code)) bytes))
asked_of code (held_register w d bytes place) = register (list_in (access_in code) w bytes) (list_in (access_in code) d (drop (w * (4 * per_byte code)) bytes))
asked_of code held_monitor = monitor
asked_of code (held_random_bits n bytes place) = random_bits (list_in (setting_in code 1) n bytes)
asked_of code (held_random_write w d bytes place) = random_write (list_in (setting_in code 2) w bytes) (list_in (setting_in code 4) d (drop (w * (6 * per_byte code)) bytes))

abbrev pub asked : Code → Result Held Fault → Result Asked Fault
asked code (Ok q) = Ok (asked_of code q)
asked code (Err e) = Err e

-- what was read, in no code
abbrev pub said : Code → Result Request Fault → Result Asked Fault
said code r = asked code (held r)

-- the bytes that a request holds have all of its entries
abbrev pub Whole : Code → Held → Type 0
Whole code (held_read_bits d i n) = Unit {0}
Whole code (held_read_words d i n) = Unit {0}
Whole code (held_write_bits d i n bytes place) = bits_size code n ≤ length bytes
Whole code (held_write_words d i n bytes place) = length (list_in (number_in code 2) n bytes) ≡ n
Whole code (held_random_read w d bytes place) = (length (list_in (access_in code) w bytes) ≡ w) × (length (list_in (access_in code) d (drop (w * (4 * per_byte code)) bytes)) ≡ d)
Whole code (held_register w d bytes place) = (length (list_in (access_in code) w bytes) ≡ w) × (length (list_in (access_in code) d (drop (w * (4 * per_byte code)) bytes)) ≡ d)
Whole code held_monitor = Unit {0}
Whole code (held_random_bits n bytes place) = length (list_in (setting_in code 1) n bytes) ≡ n
Whole code (held_random_write w d bytes place) = (length (list_in (setting_in code 2) w bytes) ≡ w) × (length (list_in (setting_in code 4) d (drop (w * (6 * per_byte code)) bytes)) ≡ d)

-- the bytes that a request holds are those of the frame from its place on: behind the device and the count of a batch, or behind the counts of a list
abbrev pub Stands : Code → List ℕ → ℕ → Held → Type 0
Stands code frame at (held_read_bits d i n) = Unit {0}
Stands code frame at (held_read_words d i n) = Unit {0}
Stands code frame at (held_write_bits d i n bytes place) = (place ≡ at + 6 * per_byte code) × (bytes ≡ drop place frame)
Stands code frame at (held_write_words d i n bytes place) = (place ≡ at + 6 * per_byte code) × (bytes ≡ drop place frame)
Stands code frame at (held_random_read w d bytes place) = (place ≡ at + 2 * per_byte code) × (bytes ≡ drop place frame)
Stands code frame at (held_register w d bytes place) = (place ≡ at + 2 * per_byte code) × (bytes ≡ drop place frame)
Stands code frame at held_monitor = Unit {0}
Stands code frame at (held_random_bits n bytes place) = (place ≡ at + 1 * per_byte code) × (bytes ≡ drop place frame)
Stands code frame at (held_random_write w d bytes place) = (place ≡ at + 2 * per_byte code) × (bytes ≡ drop place frame)

-- the data of a command that is served; the fault of one that is not is at the command
abbrev pub judged_by : Code → Meaning → Header → List ℕ → Result Command Cause → Result Asked Fault
judged_by code m h frame (Ok c) = judged code m c frame h.data_at
judged_by code m h frame (Err e) = Err (fault e h.command_at)

-- the request of a frame: the command first, then its data
abbrev pub request_in : Code → Meaning → Bool → Header → List ℕ → Result Asked Fault
request_in code m flag h frame = judged_by code m h frame (command_of h.command h.subcommand flag)
