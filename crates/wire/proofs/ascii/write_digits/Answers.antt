use Rattle.std.proofs.Common.{◌≡◌, ◌-◌, ◌*◌, ◌/◌, ◌%◌, ◌^◌, ◌∙◌, arith}
use Rattle.wire.specs.Numbers.{base}
use Rattle.wire.proofs.Turns.{digit_put_turn, higher_turn}
use Rattle.wire.proofs.ascii.write_digits.Goals as goal

pub loop-i-preserved : goal.loop-i-preserved
loop-i-preserved c =
    let t = c.args.notation in
    let i = c.loop-i.i in
    let b = base t in
    let low : c.low_digit.result ≡ c.args.value / b ^ (c.args.size * 2 - i) % b = c.low_digit.ensures.value ∙ (λ j. c.loop-i.invariant.1 j % c.base-base.ensures.value j) in
    let rest : c.higher_digits-rest.result ≡ c.args.value / b ^ (c.args.size * 2 - i) / b = c.higher_digits-rest.ensures ∙ (λ j. c.loop-i.invariant.1 j / c.base-base.ensures.value j) in
    rw (c.loop-i.invariant.0, c.hex_char.ensures, low) (
      digit_put_turn t c.args.out.now c.args.at i (c.args.size * 2) c.args.value (omega arith) (omega arith),
      rest ∙ higher_turn t c.args.value i (c.args.size * 2) (omega arith) (omega arith),
    )
