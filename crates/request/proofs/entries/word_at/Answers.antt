use Rattle.std.proofs.Common.{sym, arith}
use Rattle.request.proofs.Past.{word_past}
use Rattle.request.proofs.entries.word_at.Goals as goal

pub returns-then-at-bytes : goal.returns-then-at-bytes
returns-then-at-bytes g c = record { value = sym (word_past g.C.WireCode.which c.args.bytes.now c.args.at (omega arith)); within = tt }
