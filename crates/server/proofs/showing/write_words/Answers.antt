use Rattle.std.proofs.Common.{◌≡◌, ◌+◌, ◌*◌, ap, ◌∙◌, arith}
use Rattle.device.specs.Devices.{kind_of}
use Rattle.wire.specs.Numbers.{per_byte}
use Rattle.request.specs.Limits.{points}
use Rattle.server.specs.Points.{word}
use Rattle.server.proofs.Shows.{one_of, words_turn}
use Rattle.server.proofs.showing.write_words.Goals as goal

pub loop-i-preserved : goal.loop-i-preserved
loop-i-preserved g c =
    let x = c.args in
    let l = c.loop-i in
    let code = g.C.WireCode.which in
    let V = (g.M.ReadableMemory.means x.memory.now).value in
    let post = c.write_number-place.ensures in
    let value : c.from.result ≡ word V x.device (x.number + l.i * points (kind_of x.device) 1) =
    c.from.ensures ∙ c.word_at-word.ensures ∙ ap (λ p. word V x.device (x.number + l.i * p)) c.word_points-step.ensures.value in (
      rw (post.used, post.written, value) (words_turn code V x.device l.out l.place x.number x.count l.i (omega arith) ∙ l.invariant.0),
      omega (arith, one_of x.count l.i (2 * per_byte code) (omega arith), l.invariant.1, post.used),
    )
