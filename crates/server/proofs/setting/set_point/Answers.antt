use Rattle.std.proofs.Common.{ap, ◌∙◌}
use Rattle.memory.specs.Meaning.{written as after_write}
use Rattle.server.specs.Histories.{written, with_meaning}
use Rattle.server.proofs.Onward.{carries_on}
use Rattle.server.proofs.setting.set_point.Goals as goal

pub returns-clause-carries : goal.returns-clause-carries
returns-clause-carries g c =
    let w = c.give.ensures in
    let a = c.args in
    let m = g.M.ReadableMemory.means a.memory.now in
    λ s. carries_on _ _ _ _ (ap written w.answer) (ap (λ n. with_meaning n s) (w.meaning ∙ ap (λ r. after_write r m a.device a.number a.value) w.answer))
