use Rattle.std.proofs.Common.{sym, arith}
use Rattle.request.proofs.Past.{setting_past}
use Rattle.request.proofs.entries.setting_at.Goals as goal

pub returns-then-at-list : goal.returns-then-at-list
returns-then-at-list g c = record { value = sym (setting_past g.C.WireCode.which c.args.list.now c.args.at (omega arith) c.args.size); within = tt }
