use Rattle.std.proofs.Common.{subst}
use Rattle.device.specs.declared.types.Kind.{Kind}
use Rattle.memory.specs.Leaving.{Leads, Tries}
use Rattle.server.specs.Writes.{word_write}
use Rattle.server.proofs.storing.put_word.Goals as goal

pub returns-in-Bit : goal.returns-in-Bit
returns-in-Bit g c =
    let x = c.args in
    let R = Tries g.M.ReadableMemory.means g.M.WritableMemory.leaves in
    subst (λ (k : Kind). Leads R x.memory.now (word_write k x.device x.number x.value) c.put_sixteen.new.memory) c.in-Bit.ensures c.put_sixteen.ensures
