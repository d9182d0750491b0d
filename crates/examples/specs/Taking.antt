-- How an example is put to the definition of the server, and how what comes of it is compared.
use Rattle.std.specs.Prelude.{ℕ, Bool, true, cond, ◌&&◌, List, [], ◌∷◌, length, drop, Some, None, bytes_eq, Option, ◌==◌}
use Rattle.device.specs.declared.types.Device.{Device}
use Rattle.memory.specs.Meaning.{Meaning, same_point}
use Rattle.wire.specs.declared.code.Code.{Code}
use Rattle.frame.specs.declared.fault.Fault.{Fault}
use Rattle.frame.specs.Faults.{number_of}
use Rattle.server.specs.Serves.{Served, served}

-- the value of a point where these points hold these values, and 0 elsewhere
abbrev pub value_among : List (Device × ℕ × ℕ) → Device → ℕ → ℕ
value_among [] d n = 0
value_among (p ∷ ps) d n = cond (same_point p.0 p.1 d n) p.2 (value_among ps d n)

-- a memory of 64 points a device, all open, with these values
abbrev pub memory_of : List (Device × ℕ × ℕ) → Meaning
memory_of ps = record { extent = λ d. 64; value = value_among ps; opened = λ d n. true }

-- taking a frame with reply space 4,096, the write flag on and nothing registered
abbrev pub take : Code → List (Device × ℕ × ℕ) → List ℕ → Served
take code ps xs = served code xs 4096 (memory_of ps) true None

-- the number of the fault that was met, 0 for none
abbrev pub met : Option Fault → ℕ
met None = 0
met (Some f) = number_of f.cause

-- whether a frame is taken whole and draws this reply
abbrev pub replies : Code → List (Device × ℕ × ℕ) → List ℕ → List ℕ → Bool
replies code ps xs reply = bytes_eq (take code ps xs).bytes reply && (take code ps xs).taken == length xs

-- whether a frame is accepted, and behind so many bytes of head its reply has these data
abbrev pub reads_as : Code → ℕ → List (Device × ℕ × ℕ) → List ℕ → List ℕ → Bool
reads_as code head ps xs bytes = bytes_eq (drop head (take code ps xs).bytes) bytes && met (take code ps xs).fault_met == 0

-- whether a frame meets the fault of this number
abbrev pub meets : Code → List (Device × ℕ × ℕ) → List ℕ → ℕ → Bool
meets code ps xs number = met (take code ps xs).fault_met == number
