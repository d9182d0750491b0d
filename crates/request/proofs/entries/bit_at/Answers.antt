use Rattle.std.proofs.Common.{sym, arith}
use Rattle.request.proofs.Turns.{past_end}
use Rattle.request.proofs.entries.bit_at.Goals as goal

pub returns-then-bytes-bits_size : goal.returns-then-bytes-bits_size
returns-then-bytes-bits_size g c = record { value = sym (past_end g.C.WireCode.which c.args.bytes.now c.args.index (omega arith)) }
