-- How many bytes a value of a width is sent as in a list.
use Rattle.std.specs.Prelude.{ℕ}
use Rattle.bench.specs.declared.width.Width.{Width}
use Rattle.bench.specs.declared.width.Width.TheVariants.{Bit, Word, Double}

abbrev pub sent_bytes : Width → ℕ
sent_bytes Bit = 1
sent_bytes Word = 2
sent_bytes Double = 4
