use Rattle.std.proofs.Common.{◌≡◌, ◌-◌, ◌^◌, ◌<◌, length, drop}
use Rattle.wire.specs.Numbers.{low_first}
use Rattle.wire.proofs.binary.read_bytes.Given as goal

abbrev pub invariant-loop-byte : goal.invariant-loop-byte
invariant-loop-byte l =
    (goal.iterator-loop-byte).can_next l.byte-iterator
    × (goal.iterator-loop-byte).is_finite l.byte-iterator
    × (l.value ≡ low_first (length l.yielded) (drop (l.size - length l.yielded) l.bytes))
    × (l.value < 256 ^ length l.yielded)
