-- Points read as words and as bits, by the values of a memory.
use Rattle.std.specs.Prelude.{ℕ, zero, suc, ◌+◌, ◌*◌, List, [], ◌∷◌}
use Rattle.device.specs.declared.types.Device.{Device}
use Rattle.device.specs.declared.types.Kind.{Kind}
use Rattle.device.specs.declared.types.Kind.TheVariants.{Bit, Word as Whole}
use Rattle.device.specs.Devices.{kind_of}
use Rattle.request.specs.Limits.{points}
use Rattle.server.specs.declared.points.Width.{Width}
use Rattle.server.specs.declared.points.Width.TheVariants.{Point, Word, Double}

-- the value of each point
abbrev pub Values : Type 0
Values = Device → ℕ → ℕ

-- so many bit points as one number, the lowest number in bit 0
abbrev pub packed : Values → Device → ℕ → ℕ → ℕ
packed V d n zero = 0
packed V d n (suc k) = V d n + 2 * packed V d (n + 1) k

abbrev pub word_of : Kind → Values → Device → ℕ → ℕ
word_of Bit V d n = packed V d n 16
word_of Whole V d n = V d n

-- the word that begins at a point: on a bit device 16 points
abbrev pub word : Values → Device → ℕ → ℕ
word V d n = word_of (kind_of d) V d n

-- so many words, one behind the other
abbrev pub words : Values → Device → ℕ → ℕ → List ℕ
words V d n zero = []
words V d n (suc k) = word V d n ∷ words V d (n + points (kind_of d) 1) k

-- so many points, one behind the other
abbrev pub bits : Values → Device → ℕ → ℕ → List ℕ
bits V d n zero = []
bits V d n (suc k) = V d n ∷ bits V d (n + 1) k

-- the double word that begins at a point: the low word first
abbrev pub double : Values → Device → ℕ → ℕ
double V d n = word V d n + 65536 * word V d (n + points (kind_of d) 1)

-- how many bytes the value of an access has
abbrev pub bytes_of : Width → ℕ
bytes_of Point = 1
bytes_of Word = 2
bytes_of Double = 4

-- the value of an access
abbrev pub value_of : Width → Values → Device → ℕ → ℕ
value_of Point V d n = V d n
value_of Word V d n = word V d n
value_of Double V d n = double V d n

-- the values of a list of accesses
abbrev pub values_of : Width → Values → List (Device × ℕ) → List ℕ
values_of width V [] = []
values_of width V (a ∷ rest) = value_of width V a.0 a.1 ∷ values_of width V rest
