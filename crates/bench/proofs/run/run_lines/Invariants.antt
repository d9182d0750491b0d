use Rattle.std.proofs.Common.{length}
use Rattle.std.specs.Prelude.{⊤}
use Rattle.bench.proofs.run.run_lines.Given as goal

abbrev pub invariant-loop-making : goal.invariant-loop-making
invariant-loop-making l = ⊤

abbrev pub decreases-loop-making : goal.decreases-loop-making
decreases-loop-making l = length l.rest
