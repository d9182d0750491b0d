use Rattle.std.proofs.Common.{◌≡◌, ◌+◌, ◌-◌, ◌^◌, ◌<◌}
use Rattle.server.specs.Points.{packed}
use Rattle.server.proofs.points.sixteen.Given as goal

abbrev pub invariant-loop-i : goal.invariant-loop-i
invariant-loop-i g l =
    (l.word ≡ packed (g.M.ReadableMemory.means l.memory).value l.device (l.number + l.i) (16 - l.i)) × (l.word < 2 ^ (16 - l.i))
