use Rattle.std.proofs.Common.{rules}
use Rattle.request.specs.Limits.{random_ok}
use Rattle.request.specs.Entries.{access_at}
use Rattle.request.proofs.random.random_list.Goals as goal

pub returns-clause-value : goal.returns-clause-value
returns-clause-value g c =
    let code = g.C.WireCode.which in
    let m = g.M.ReadableMemory.means c.args.memory.now in
    c.two_lists.ensures.value random_ok (access_at code m 1 c.args.place.frame.now) (access_at code m 2 c.args.place.frame.now) (λ w d b k. search rules) (λ at y k. search rules) (λ at y k. search rules)
