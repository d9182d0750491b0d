use Rattle.std.proofs.Common.{◌≡◌, length, vec_items}
use Rattle.bench.specs.Hex.{bytes_in}
use Rattle.bench.proofs.Digits.{ahead}
use Rattle.bench.proofs.hex.read_bytes.Given as goal

abbrev pub invariant-loop-rest : goal.invariant-loop-rest
invariant-loop-rest l = bytes_in l.text ≡ ahead (vec_items l.bytes) (bytes_in l.rest)

abbrev pub decreases-loop-rest : goal.decreases-loop-rest
decreases-loop-rest l = length l.rest
