use Rattle.std.proofs.Common.{drop, ap, ◌∙◌, arith}
use Rattle.wire.specs.Fields.{device_in}
use Rattle.wire.proofs.RoundTrip.{device_stored}
use Rattle.wire.proofs.code.WireCode.write_device.Goals as goal

pub returns-clause-back : goal.returns-clause-back
returns-clause-back g c = λ below.
    ap (λ l. device_in g.Self.WireCode.which (drop c.args.at l)) c.write_device_field.ensures
    ∙ device_stored g.Self.WireCode.which c.args.device c.args.number c.args.out.now c.args.at (omega arith) below
