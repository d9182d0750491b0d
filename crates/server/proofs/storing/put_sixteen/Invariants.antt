use Rattle.std.proofs.Common.{◌+◌, ◌-◌, ◌/◌, ◌^◌}
use Rattle.memory.specs.Leaving.{Tries}
use Rattle.server.specs.Writes.{spread}
use Rattle.server.proofs.Trying.{IsRest}
use Rattle.server.proofs.storing.put_sixteen.Given as goal

abbrev pub invariant-loop-i : goal.invariant-loop-i
invariant-loop-i g l =
    let R = Tries g.M.ReadableMemory.means g.M.WritableMemory.leaves in
    IsRest R l.initial.memory (spread l.device l.number 16 l.value) l.memory (spread l.device (l.number + l.i) (16 - l.i) (l.value / 2 ^ l.i))
