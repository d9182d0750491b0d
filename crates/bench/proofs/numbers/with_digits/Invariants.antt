use Rattle.std.proofs.Common.{◌≡◌, drop}
use Rattle.bench.specs.Decimals.{with_digits}
use Rattle.bench.proofs.numbers.with_digits.Given as goal

abbrev pub invariant-loop-character : goal.invariant-loop-character
invariant-loop-character l = with_digits l.value (drop l.character-index l.word) ≡ with_digits 0 l.word
