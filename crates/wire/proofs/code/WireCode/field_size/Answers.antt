use Rattle.std.proofs.Common.{◌≡◌, ◌*◌, ap, ◌∙◌, arith}
use Rattle.wire.specs.Numbers.{per_byte}
use Rattle.wire.proofs.Numbers.{two_most}
use Rattle.wire.proofs.code.WireCode.field_size.Goals as goal

pub overflow_mul-result : goal.overflow_mul-result
overflow_mul-result g c =
    let each : c.WIRE_BYTES.result ≡ per_byte g.Self.WireCode.which = c.WIRE_BYTES.ensures ∙ g.Self.WireCode.each in
    rw each (omega (arith, two_most g.Self.WireCode.which c.args.bytes (omega arith)))

pub returns : goal.returns
returns g c = ap (λ n. c.args.bytes * n) (c.WIRE_BYTES.ensures ∙ g.Self.WireCode.each)
