use Rattle.std.proofs.Common.{◌+◌, ◌-◌, ◌<◌, arith}
use Rattle.server.proofs.Packs.{packed_turn, packed_below}
use Rattle.server.proofs.points.sixteen.Goals as goal

pub loop-i-preserved : goal.loop-i-preserved
loop-i-preserved g c =
    let m = g.M.ReadableMemory in
    let x = c.args in
    let i = c.loop-i.i in
    let V = (m.means x.memory.now).value in
    let b = c.value_at.result in
    let bit : b < 2 = rw c.value_at.ensures (m.sound.narrow x.memory.now x.device (x.number + (i - 1)) c.requires.0) in
    rw c.with_bit-word.ensures (
      packed_turn V x.device x.number i c.loop-i.word b (omega arith) (omega arith) c.loop-i.invariant.0 c.value_at.ensures,
      packed_below V x.device x.number i c.loop-i.word b (omega arith) (omega arith) c.loop-i.invariant.1 bit,
    )
