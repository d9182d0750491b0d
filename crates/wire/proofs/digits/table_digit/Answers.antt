use Rattle.std.proofs.Common.{get_or, ap, ◌∙◌, arith}
use Rattle.wire.specs.declared.digits.TheConstants.{DIGITS}
use Rattle.wire.proofs.Tables.{digit_at}
use Rattle.wire.proofs.digits.table_digit.Goals as goal

pub returns : goal.returns
returns c = ap (λ i. get_or DIGITS i 0) c.from.ensures ∙ digit_at c.args.byte (omega arith)
