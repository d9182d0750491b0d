use Rattle.server.proofs.Trying.{tries_one}
use Rattle.server.proofs.storing.put_point.Goals as goal

pub returns : goal.returns
returns g c =
    let x = c.args in
    let w = c.write.ensures in
    tries_one g.M.ReadableMemory.means g.M.WritableMemory.leaves x.memory.now c.write.new.self x.device x.number x.value c.write.result w.answer w.meaning w.left
