use Rattle.std.proofs.Common.{◌+◌, ◌-◌, ◌*◌, ◌^◌, drop}
use Rattle.wire.specs.Numbers.{digits_run}
use Rattle.wire.proofs.Gathered.{Gathered}
use Rattle.wire.proofs.ascii.read_good_digits.Given as goal

abbrev pub invariant-loop-byte : goal.invariant-loop-byte
invariant-loop-byte l =
    Gathered l.good l.value (16 ^ l.byte-index) (digits_run l.fn.notation (l.size * 2 - l.byte-index) (l.at + l.byte-index) l.value (drop (l.at + l.byte-index) l.bytes)) (digits_run l.fn.notation (l.size * 2) l.at 0 (drop l.at l.bytes))
