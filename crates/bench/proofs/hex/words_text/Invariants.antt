use Rattle.std.proofs.Common.{◌≡◌, ◌++◌, drop, string_bytes}
use Rattle.bench.specs.Hex.{bytes_text, halves}
use Rattle.bench.proofs.hex.words_text.Given as goal

abbrev pub invariant-loop-word : goal.invariant-loop-word
invariant-loop-word l = string_bytes l.text ++ bytes_text (halves (drop l.word-index l.words)) ≡ bytes_text (halves l.words)
