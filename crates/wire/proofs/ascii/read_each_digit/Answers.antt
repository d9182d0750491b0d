use Rattle.std.proofs.Common.{◌≡◌, ◌+◌, ◌-◌, ◌*◌, ap, sym, ◌∙◌, arith}
use Rattle.std.proofs.lemmas.Result.{err_from_is_err_and}
use Rattle.wire.specs.Numbers.{digit_of}
use Rattle.wire.proofs.Numbers.{digit_more, eight_digits, two_a_byte}
use Rattle.wire.proofs.Places.{part_at}
use Rattle.wire.proofs.Turns.{digits_turn, digits_stop}
use Rattle.wire.proofs.ascii.read_each_digit.Goals as goal

pub returns-in_err-digit : goal.returns-in_err-digit
returns-in_err-digit c =
    let p = err_from_is_err_and c.from_residual.result c.from_residual.ensures.1 in
    let t = c.args.notation in
    let at = c.args.at in
    let i = c.loop-i.i in
    let bytes = c.args.bytes.now in
    let bad = c.in_err-digit.ensures ∙ ap (digit_of t (at + i)) (part_at bytes at (at + c.field_size-count.result - at) i 0 (omega arith)) in
    let stop = digits_stop t bytes at i (c.args.size * 2) c.loop-i.value c.in_err-digit.field-0.0 (omega arith) (omega arith) bad in
    rw (p.1, p.2) (record { value = sym (sym c.loop-i.invariant.0 ∙ stop); below = tt })

pub with_digit-value-requires : goal.with_digit-value-requires
with_digit-value-requires c =
    let place = c.args.at + c.loop-i.i in
    let more = digit_more c.args.notation place _ c.in_ok-digit.digit c.loop-i.value c.loop-i.i c.in_ok-digit.ensures c.loop-i.invariant.1 in
    rw c.base-base.ensures.value (omega (arith, more, eight_digits (c.loop-i.i + 1) (omega arith)))

pub loop-i-preserved : goal.loop-i-preserved
loop-i-preserved c =
    let t = c.args.notation in
    let at = c.args.at in
    let i = c.loop-i.i in
    let bytes = c.args.bytes.now in
    let good = c.in_ok-digit.ensures ∙ ap (digit_of t (at + i)) (part_at bytes at (at + c.field_size-count.result - at) i 0 (omega arith)) in
    rw (c.with_digit-value.ensures, c.base-base.ensures.value) (
      digits_turn t bytes at i (c.args.size * 2) c.loop-i.value c.in_ok-digit.digit (omega arith) (omega arith) good ∙ c.loop-i.invariant.0,
      digit_more t (at + i) _ c.in_ok-digit.digit c.loop-i.value i c.in_ok-digit.ensures c.loop-i.invariant.1,
    )

pub returns : goal.returns
returns c =
    let size = c.args.size in
    let none : size * 2 - c.loop-i.i ≡ 0 = omega arith in
    let all : c.loop-i.i ≡ size * 2 = omega arith in
    record { value = rw none at c.loop-i.invariant.0; below = rw (all, two_a_byte size) at c.loop-i.invariant.1 }
