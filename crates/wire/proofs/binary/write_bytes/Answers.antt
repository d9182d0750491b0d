use Rattle.std.proofs.Common.{◌≡◌, ◌+◌, ◌-◌, length, take, drop, ◌∙◌, arith, length-take, length-drop}
use Rattle.wire.specs.Numbers.{low_bytes}
use Rattle.wire.proofs.Places.{part_sets, sets_all}
use Rattle.wire.proofs.RoundTrip.{length_low}
use Rattle.wire.proofs.Turns.{low_put_turn}
use Rattle.wire.proofs.binary.write_bytes.Goals as goal

pub loop-byte-preserved : goal.loop-byte-preserved
loop-byte-preserved c = rw (c.low_digit.ensures.value, c.higher_digits-rest.ensures) (low_put_turn c.loop-byte.byte-items c.loop-byte.byte-index c.args.size c.loop-byte.rest (omega arith) ∙ c.loop-byte.invariant)

pub returns : goal.returns
returns c =
    let at = c.args.at in
    let size = c.args.size in
    let out = c.args.out.now in
    let vs = low_bytes size c.args.value in
    let k = at + size - at in
    let none : size - c.loop-byte.byte-index ≡ 0 = omega arith in
    let stored = rw none at c.loop-byte.invariant in
    let long : length vs ≡ length (take k (drop at out)) = simp (length-take, length-drop) (omega (arith, length_low size c.args.value)) in
    part_sets out at k vs c.loop-byte.byte-items (omega (arith, length_low size c.args.value)) (omega arith) (stored ∙ sets_all vs (take k (drop at out)) long)
