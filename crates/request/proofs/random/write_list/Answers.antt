use Rattle.std.proofs.Common.{rules}
use Rattle.request.specs.Limits.{random_write_ok}
use Rattle.request.specs.Entries.{setting_at}
use Rattle.request.proofs.random.write_list.Goals as goal

pub returns-clause-value : goal.returns-clause-value
returns-clause-value g c =
    let code = g.C.WireCode.which in
    let m = g.M.ReadableMemory.means c.args.memory.now in
    c.two_lists.ensures.value random_write_ok (setting_at code m 1 c.args.place.frame.now) (setting_at code m 2 c.args.place.frame.now) (λ w d b k. search rules) (λ at y k. search rules) (λ at y k. search rules)
