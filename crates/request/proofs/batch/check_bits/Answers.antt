use Rattle.std.proofs.Common.{arith, rules}
use Rattle.request.specs.Fields.{half_at}
use Rattle.request.proofs.Turns.{can_count}
use Rattle.request.proofs.batch.check_bits.Goals as goal

pub list_end-requires : goal.list_end-requires
list_end-requires g c = can_count _ _ c.args.count (search rules) (λ i h. (search rules, λ r k. search rules)) _ _ (omega arith)

pub returns : goal.returns
returns g c = c.list_end.ensures.value (half_at g.C.WireCode.which c.args.bytes.now c.args.at) (λ i y k. search rules)
