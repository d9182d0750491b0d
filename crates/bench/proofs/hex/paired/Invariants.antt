use Rattle.std.proofs.Common.{◌≡◌, length, vec_items}
use Rattle.bench.specs.Hex.{pairs}
use Rattle.bench.proofs.Digits.{ahead}
use Rattle.bench.proofs.hex.paired.Given as goal

abbrev pub invariant-loop-rest : goal.invariant-loop-rest
invariant-loop-rest l = pairs l.bytes ≡ ahead (vec_items l.words) (pairs l.rest)

abbrev pub decreases-loop-rest : goal.decreases-loop-rest
decreases-loop-rest l = length l.rest
