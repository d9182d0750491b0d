use Rattle.std.proofs.Common.{drop, ap, ◌∙◌, arith}
use Rattle.wire.specs.Numbers.{number_in}
use Rattle.wire.proofs.RoundTrip.{number_stored}
use Rattle.wire.proofs.code.WireCode.write_number.Goals as goal

pub returns-clause-back : goal.returns-clause-back
returns-clause-back g c = λ below.
    ap (λ l. number_in g.Self.WireCode.which c.args.size (drop c.args.at l)) c.write_value.ensures
    ∙ number_stored g.Self.WireCode.which c.args.size c.args.value c.args.out.now c.args.at (omega arith) below
