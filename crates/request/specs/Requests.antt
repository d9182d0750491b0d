-- What a request asks, and the commands that are served.
use Rattle.std.specs.Prelude.{ℕ, Bool, true, false, cond, ◌&&◌, List, Ok, Err, Result, ◌==◌}
use Rattle.device.specs.declared.types.Device.{Device}
use Rattle.frame.specs.declared.fault.Cause.{Cause}
use Rattle.frame.specs.declared.fault.Cause.TheVariants.{WriteOff, UnknownCommand}

-- a device and a number
abbrev pub Access : Type 0
Access = Device × ℕ

-- an access and the value that it is to get
abbrev pub Setting : Type 0
Setting = Access × ℕ

-- a request in no code: its command and its field values
pub data Asked : Type 0 where
  -- device, first number, points in bits
  read_bits : Device → ℕ → ℕ → Asked
  -- device, first number, points in words
  read_words : Device → ℕ → ℕ → Asked
  -- device, first number, a value for each point
  write_bits : Device → ℕ → List ℕ → Asked
  -- device, first number, a value for each word
  write_words : Device → ℕ → List ℕ → Asked
  -- words, double words
  random_read : List Access → List Access → Asked
  -- words, double words
  register : List Access → List Access → Asked
  -- what is registered
  monitor : Asked
  -- points in bits
  random_bits : List Setting → Asked
  -- words, double words
  random_write : List Setting → List Setting → Asked

-- a command with its subcommand
pub data Command : Type 0 where
  ReadBits : Command
  ReadWords : Command
  WriteBits : Command
  WriteWords : Command
  RandomRead : Command
  Register : Command
  Monitor : Command
  RandomBits : Command
  RandomWrite : Command

-- a command that writes is served while the write flag is on
abbrev pub while_on : Bool → Command → Result Command Cause
while_on true c = Ok c
while_on false c = Err WriteOff

-- the commands that are served
abbrev pub command_of : ℕ → ℕ → Bool → Result Command Cause
command_of c s flag =
    cond (c == 0x0401 && s == 1) (Ok ReadBits)
    (cond (c == 0x0401 && s == 0) (Ok ReadWords)
    (cond (c == 0x1401 && s == 1) (while_on flag WriteBits)
    (cond (c == 0x1401 && s == 0) (while_on flag WriteWords)
    (cond (c == 0x0403 && s == 0) (Ok RandomRead)
    (cond (c == 0x0801 && s == 0) (Ok Register)
    (cond (c == 0x0802 && s == 0) (Ok Monitor)
    (cond (c == 0x1402 && s == 1) (while_on flag RandomBits)
    (cond (c == 0x1402 && s == 0) (while_on flag RandomWrite)
    (Err UnknownCommand)))))))))
