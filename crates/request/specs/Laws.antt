-- What the reading of a request keeps to, whatever its code.
use Rattle.std.specs.Prelude.{◌≡◌, ℕ, ◌+◌, ◌*◌, ◌≤◌, Bool, List, ◌++◌, length, IfOk, Ok, Result}
use Rattle.device.specs.Devices.{kind_of}
use Rattle.memory.specs.Meaning.{Meaning}
use Rattle.wire.specs.declared.code.Code.{Code}
use Rattle.frame.specs.declared.fault.Fault.{Fault}
use Rattle.frame.specs.declared.header.Header.{Header}
use Rattle.request.specs.Limits.{points}
use Rattle.request.specs.Requests.{Asked, command_of}
use Rattle.request.specs.Readings.{Held, held_read_bits, held_read_words, held_write_bits, held_write_words, held_random_read, held_register, held_monitor, held_random_bits, held_random_write}
use Rattle.request.specs.Verdicts.{command, verdict, forget}
use Rattle.request.specs.Writing.{writing, FitsBoth}

-- an answer to the writing of a request is the verdict on its field values, whatever stands in front of it and in whichever code it is written; and an accepted request was read as itself
abbrev pub Alike : Code → Meaning → Bool → Header → List ℕ → Result Asked Fault → Type 0
Alike code m flag h frame r =
    (a : Asked) (front : List ℕ) → FitsBoth a → frame ≡ front ++ writing code a → length front ≡ h.data_at → command_of h.command h.subcommand flag ≡ Ok (command a)
    → (forget r ≡ verdict m a) × ((b : Asked) → r ≡ Ok b → b ≡ a)

-- what was accepted passed every test
abbrev pub Passed : Meaning → Result Asked Fault → Type 0
Passed m r = IfOk r (λ a. verdict m a ≡ Ok a)

-- the counts of a request that was accepted, and the span of a batch
abbrev pub Bounded : Meaning → Held → Type 0
Bounded m (held_read_bits d i n) = (1 ≤ n) × (n ≤ 3584) × (i + n ≤ m.extent d)
Bounded m (held_read_words d i n) = (1 ≤ n) × (n ≤ 960) × (i + points (kind_of d) n ≤ m.extent d)
Bounded m (held_write_bits d i n bytes place) = (1 ≤ n) × (n ≤ 3584) × (i + n ≤ m.extent d)
Bounded m (held_write_words d i n bytes place) = (1 ≤ n) × (n ≤ 960) × (i + points (kind_of d) n ≤ m.extent d)
Bounded m (held_random_read w d bytes place) = (1 ≤ w + d) × (w + d ≤ 192)
Bounded m (held_register w d bytes place) = (1 ≤ w + d) × (w + d ≤ 192)
Bounded m held_monitor = Unit {0}
Bounded m (held_random_bits n bytes place) = (1 ≤ n) × (n ≤ 188)
Bounded m (held_random_write w d bytes place) = (1 ≤ 12 * w + 14 * d) × (12 * w + 14 * d ≤ 1920)
