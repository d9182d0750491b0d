use Rattle.std.proofs.Common.{arith}
use Rattle.server.proofs.Packs.{value_none}
use Rattle.server.proofs.points.access_value.Goals as goal

pub returns-then-number-ge-FAR : goal.returns-then-number-ge-FAR
returns-then-number-ge-FAR g c =
    let x = c.args in
    let m = g.M.ReadableMemory in
    value_none (m.means x.memory.now).value x.device x.width x.number (λ j l. m.sound.outside x.memory.now x.device j (omega (arith, m.sound.small x.memory.now x.device)))
