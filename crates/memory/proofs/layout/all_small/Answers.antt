use Rattle.std.proofs.Common.{◌∙◌, arith, rules}
use Rattle.std.proofs.lemmas.Iterator.{YieldsList-from_slice, YieldsList-from_zip}
use Rattle.std.proofs.lemmas.Iterator.Search.{all_from_yields_List}
use borrow.Author.Tests.{tests}
use Rattle.device.specs.Devices.{rows}
use Rattle.memory.proofs.Pairs.{small_in, small_pairs}
use Rattle.memory.proofs.layout.all_small.Goals as goal

pub returns : goal.returns
returns c =
    let es = c.args.extents.now in
    all_from_yields_List small_in c.all.new.self _ c.all.result c.all.ensures.ran (YieldsList-from_zip (YieldsList-from_slice rows cc) (YieldsList-from_slice es cc)) (λ x b q k. search (rules, tests))
    ∙ small_pairs es (omega arith) 12 (omega arith)
