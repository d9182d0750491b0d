use Rattle.std.proofs.Common.{length}
use Rattle.std.specs.Prelude.{⊤}
use Rattle.bench.proofs.run.run_section.Given as goal

abbrev pub invariant-loop-bench : goal.invariant-loop-bench
invariant-loop-bench g l = ⊤

abbrev pub decreases-loop-bench : goal.decreases-loop-bench
decreases-loop-bench g l = length l.rest
