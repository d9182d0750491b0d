use Rattle.std.proofs.Common.{◌≡◌, ◌++◌, drop, string_bytes}
use Rattle.bench.specs.Hex.{bytes_text}
use Rattle.bench.proofs.hex.bytes_text.Given as goal

abbrev pub invariant-loop-byte : goal.invariant-loop-byte
invariant-loop-byte l = string_bytes l.text ++ bytes_text (drop l.byte-index l.bytes) ≡ bytes_text l.bytes
