use Rattle.std.proofs.Common.{◌+◌, Some, sym, ap, ◌∙◌}
use lib.Seq.{sets}
use Rattle.frame.specs.Faults.{number_of}
use Rattle.frame.specs.Replies.{head_bytes, error_numbers}
use Rattle.frame.proofs.Heads.{length_error}
use Rattle.wire.specs.Series.{series_bytes}
use Rattle.server.proofs.Telling.{reply_told}
use Rattle.server.proofs.reply.Reply.refuse.Goals as goal

pub returns-clause-tells : goal.returns-clause-tells
returns-clause-tells g c =
    let code = g.C.WireCode.which in
    let h = c.args.self.now.header in
    let size = c.field_size-size.ensures in
    let head = c.write_head-at.ensures in
    let done = c.answer.ensures in
    reply_told code h (number_of c.args.fault.cause) _ c.write_head-at.result (Some c.args.fault) (series_bytes code (error_numbers h)) c.args.self.now.space.now c.write_head-at.new.out _ _
    done.taken (done.length ∙ c.write_error_data-length.ensures.end ∙ ap (λ n. c.write_head-at.result + n) (sym size)) done.fault
    (length_error code h ∙ sym size) head.end
    (head.written ∙ ap (λ e. sets c.args.self.now.space.now 0 (head_bytes code h c.field_size-size.result e)) c.number.ensures) c.write_error_data-length.ensures.written
