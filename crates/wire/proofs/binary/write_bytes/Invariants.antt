use Rattle.std.proofs.Common.{◌≡◌, ◌-◌}
use lib.Seq.{sets}
use Rattle.wire.specs.Numbers.{low_bytes}
use Rattle.wire.proofs.binary.write_bytes.Given as goal

abbrev pub invariant-loop-byte : goal.invariant-loop-byte
invariant-loop-byte l = sets l.byte-items l.byte-index (low_bytes (l.size - l.byte-index) l.rest) ≡ sets l.initial.byte-items 0 (low_bytes l.size l.value)
