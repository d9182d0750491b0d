use Rattle.std.proofs.Common.{leb, refl, ◌∙◌, arith, rules, tests}
use Rattle.std.proofs.lemmas.Iterator.{YieldsList-from_range}
use Rattle.std.proofs.lemmas.Iterator.Search.{all_from_yields_List}
use Rattle.request.specs.Fields.{bit_in}
use Rattle.request.proofs.Turns.{all_bits_from}
use Rattle.request.proofs.batch.are_bits.Goals as goal

pub returns : goal.returns
returns g c =
    let code = g.C.WireCode.which in
    all_from_yields_List (λ k. leb (bit_in code c.args.bytes.now k) 1) _ _ _ c.all.ensures.ran (YieldsList-from_range 0 c.args.count c.args.count refl (omega arith)) (λ x b q k. search (rules, tests))
    ∙ all_bits_from code c.args.bytes.now 0 c.args.count
