use Rattle.std.proofs.Common.{◌+◌, ◌/◌, subst}
use Rattle.memory.specs.Leaving.{Leads, Tries}
use Rattle.server.specs.Writes.{as_word}
use Rattle.server.proofs.Trying.{leads_on}
use Rattle.server.proofs.storing.put_double.Goals as goal

pub returns : goal.returns
returns g c =
    let x = c.args in
    let R = Tries g.M.ReadableMemory.means g.M.WritableMemory.leaves in
    let one = c.put_word in
    let two = c.put_word-2 in
    leads_on R x.memory.now one.new.memory two.new.memory _ _ one.ensures
    (subst (λ p. Leads R one.new.memory (as_word x.device (x.number + p) (x.value / 65536)) two.new.memory) c.word_points.ensures.value two.ensures)
