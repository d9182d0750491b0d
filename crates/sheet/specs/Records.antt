-- The records of a sheet and their tests.
use Rattle.std.specs.Prelude.{ℕ, ◌+◌, ◌*◌, cond, List, length, take, drop, Some, None, Ok, Err, Option, Result, nat_le, nat_lt, slice_index}
use Rattle.wire.specs.declared.code.Code.{Code}
use Rattle.wire.specs.Numbers.{then}
use Rattle.frame.specs.declared.fault.Cause.TheVariants.{BadRecord}
use Rattle.frame.specs.declared.fault.Fault.{Fault}
use Rattle.frame.specs.Faults.{fault}
use Rattle.frame.specs.Headers.{tested}

-- the length that a record begins with: two bytes, the high byte first
abbrev pub said_size : List ℕ → ℕ → ℕ
said_size sheet at = slice_index sheet at * 256 + slice_index sheet (at + 1)

-- the length of the record at a place, and none where the record is cut off
abbrev pub record_size : List ℕ → ℕ → Option ℕ
record_size sheet at =
    cond (nat_le (at + 2) (length sheet))
    (cond (nat_le (at + 2 + said_size sheet at) (length sheet)) (Some (said_size sheet at)) None)
    None

-- the bytes of a record behind its length
abbrev pub record_bytes : List ℕ → ℕ → ℕ → List ℕ
record_bytes sheet at size = take size (drop (at + 2) sheet)

-- the length of a record at a place, if no bytes stand after its frame, which has so many
abbrev pub frame_alone : ℕ → ℕ → ℕ → Result ℕ Fault
frame_alone at size used = cond (nat_lt used size) (Err (fault BadRecord (at + 2 + used))) (Ok size)

-- the tests of a record of a known length, if it is all there
abbrev pub tested_part : Code → ℕ → List ℕ → ℕ → Option ℕ → Result ℕ Fault
tested_part code space sheet at None = Err (fault BadRecord at)
tested_part code space sheet at (Some size) = then (tested code space (record_bytes sheet at size)) (λ h. frame_alone at size h.size)

-- the first test that the record at a place fails, or its length
unfoldable pub tested_record : Code → ℕ → List ℕ → ℕ → Result ℕ Fault
tested_record code space sheet at = tested_part code space sheet at (record_size sheet at)
