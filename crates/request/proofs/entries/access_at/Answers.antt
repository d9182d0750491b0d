use Rattle.std.proofs.Common.{sym, arith}
use Rattle.request.proofs.Past.{access_past}
use Rattle.request.proofs.entries.access_at.Goals as goal

pub returns-then-at-list : goal.returns-then-at-list
returns-then-at-list g c = record { value = sym (access_past g.C.WireCode.which c.args.list.now c.args.at (omega arith)); within = tt }
