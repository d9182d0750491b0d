use Rattle.std.proofs.Common.{◌*◌, None, sym, ◌∙◌}
use Rattle.wire.specs.Series.{values_bytes}
use Rattle.server.specs.Points.{words}
use Rattle.wire.proofs.Lengths.{length_values}
use Rattle.server.proofs.Shows.{length_words}
use Rattle.server.proofs.Telling.{reply_told}
use Rattle.server.proofs.reply.Reply.show_words.Goals as goal

pub returns-clause-tells : goal.returns-clause-tells
returns-clause-tells g c =
    let code = g.C.WireCode.which in
    let x = c.args in
    let vs = words (g.M.ReadableMemory.means x.memory.now).value x.device x.number x.points in
    let head = c.write_head-at.ensures in
    let done = c.answer.ensures in
    reply_told code x.self.now.header 0 _ c.write_head-at.result None (values_bytes code 2 vs) x.self.now.space.now c.write_head-at.new.out _ _
    done.taken done.length done.fault
    (length_values code 2 vs ∙ (λ i. length_words (g.M.ReadableMemory.means x.memory.now).value x.device x.number x.points i * sym c.field_size.ensures i)) head.end head.written c.write_words.ensures
