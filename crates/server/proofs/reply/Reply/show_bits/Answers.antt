use Rattle.std.proofs.Common.{None, sym, ap, ◌∙◌}
use Rattle.wire.specs.Points.{bits_bytes, bits_size}
use Rattle.server.specs.Points.{bits}
use Rattle.wire.proofs.Lengths.{length_bits_bytes}
use Rattle.server.proofs.Shows.{length_bits}
use Rattle.server.proofs.Telling.{reply_told}
use Rattle.server.proofs.reply.Reply.show_bits.Goals as goal

pub returns-clause-tells : goal.returns-clause-tells
returns-clause-tells g c =
    let code = g.C.WireCode.which in
    let x = c.args in
    let V = (g.M.ReadableMemory.means x.memory.now).value in
    let vs = bits V x.device x.number x.points in
    let head = c.write_head-at.ensures in
    let done = c.answer.ensures in
    reply_told code x.self.now.header 0 _ c.write_head-at.result None (bits_bytes code vs) x.self.now.space.now c.write_head-at.new.out _ _
    done.taken done.length done.fault
    (length_bits_bytes code vs ∙ ap (bits_size code) (length_bits V x.device x.number x.points) ∙ sym c.bits_size-size.ensures) head.end head.written c.write_bits.ensures
