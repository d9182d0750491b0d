use Rattle.std.proofs.Common.{◌≡◌, ◌+◌, ◌-◌, ◌*◌, ◌^◌, ◌<◌, drop}
use Rattle.wire.specs.Numbers.{digits_run}
use Rattle.wire.proofs.ascii.read_each_digit.Given as goal

abbrev pub invariant-loop-i : goal.invariant-loop-i
invariant-loop-i l = (digits_run l.notation (l.size * 2 - l.i) (l.at + l.i) l.value (drop (l.at + l.i) l.bytes) ≡ digits_run l.notation (l.size * 2) l.at 0 (drop l.at l.bytes)) × (l.value < 16 ^ l.i)
