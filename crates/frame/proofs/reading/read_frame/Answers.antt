use Rattle.std.proofs.Common.{rules}
use Rattle.frame.proofs.Written.{so_taken_up}
use Rattle.frame.proofs.reading.read_frame.Goals as goal

pub returns-in_err-form-clause-back : goal.returns-in_err-form-clause-back
returns-in_err-form-clause-back g c = so_taken_up g.C.WireCode.which c.args.space c.args.frame.now c.from_residual.result (search rules)

pub returns-clause-back : goal.returns-clause-back
returns-clause-back g c = so_taken_up g.C.WireCode.which c.args.space c.args.frame.now c.read_fields.result (search rules)
