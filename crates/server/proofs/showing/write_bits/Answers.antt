use Rattle.std.proofs.Common.{◌∙◌, arith}
use Rattle.server.proofs.Shows.{bits_turn, bits_left}
use Rattle.server.proofs.showing.write_bits.Goals as goal

pub loop-i-preserved : goal.loop-i-preserved
loop-i-preserved g c =
    let x = c.args in
    let l = c.loop-i in
    let code = g.C.WireCode.which in
    let V = (g.M.ReadableMemory.means x.memory.now).value in
    let post = c.write_two_bits-place.ensures in (
      rw (post.used, post.written, c.value_at-one.ensures, c.value_at-other.ensures) (bits_turn code V x.device l.out l.place x.number x.count l.i (omega arith) ∙ l.invariant.0),
      omega (arith, bits_left code V x.device x.count l.i (omega arith), l.invariant.1, post.used),
    )
