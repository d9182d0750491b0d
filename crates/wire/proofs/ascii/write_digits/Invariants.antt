use Rattle.std.proofs.Common.{◌≡◌, ◌+◌, ◌-◌, ◌*◌, ◌/◌, ◌^◌}
use lib.Seq.{sets}
use Rattle.wire.specs.Numbers.{base, digit_chars}
use Rattle.wire.proofs.ascii.write_digits.Given as goal

abbrev pub invariant-loop-i : goal.invariant-loop-i
invariant-loop-i l = (l.out ≡ sets l.initial.out (l.at + l.i) (digit_chars l.fn.notation (l.size * 2 - l.i) l.value)) × (l.rest ≡ l.value / base l.fn.notation ^ (l.size * 2 - l.i))
