-- What a request's values are tested by: the counts, the spans over a memory, and which points are open.
use Rattle.std.specs.Prelude.{ℕ, zero, suc, ◌+◌, ◌*◌, Bool, true, false, ◌&&◌, List, [], ◌∷◌, nat_le}
use Rattle.device.specs.declared.types.Device.{Device}
use Rattle.device.specs.declared.types.Kind.{Kind}
use Rattle.device.specs.declared.types.Kind.TheVariants.{Bit, Word}
use Rattle.device.specs.Devices.{kind_of}
use Rattle.memory.specs.Meaning.{Meaning}

-- the points of n words: on a bit device a word is 16 points
abbrev pub points : Kind → ℕ → ℕ
points Bit n = 16 * n
points Word n = n

abbrev pub is_bit : Kind → Bool
is_bit Bit = true
is_bit Word = false

-- n points from number i on lie within the extent
abbrev pub within : Meaning → Device → ℕ → ℕ → Bool
within m d i n = nat_le (i + n) (m.extent d)

-- n points from number i on are open
abbrev pub all_open : Meaning → Device → ℕ → ℕ → Bool
all_open m d i zero = true
all_open m d i (suc n) = m.opened d i && all_open m d (i + 1) n

-- n words from number i on lie within the extent
abbrev pub words_within : Meaning → Device → ℕ → ℕ → Bool
words_within m d i n = within m d i (points (kind_of d) n)

-- n words from number i on are open
abbrev pub words_open : Meaning → Device → ℕ → ℕ → Bool
words_open m d i n = all_open m d i (points (kind_of d) n)

-- a batch in bits has 1 to 3,584 points
abbrev pub bits_ok : ℕ → Bool
bits_ok n = nat_le 1 n && nat_le n 3584

-- a batch in words has 1 to 960 points
abbrev pub words_ok : ℕ → Bool
words_ok n = nat_le 1 n && nat_le n 960

-- a random read, and a registration, has 1 to 192 words and double words
abbrev pub random_ok : ℕ → ℕ → Bool
random_ok w d = nat_le 1 (w + d) && nat_le (w + d) 192

-- a random write in bits has 1 to 188 points
abbrev pub random_bits_ok : ℕ → Bool
random_bits_ok n = nat_le 1 n && nat_le n 188

-- a random write counts 12 for a word and 14 for a double word, and 1,920 at most
abbrev pub random_write_ok : ℕ → ℕ → Bool
random_write_ok w d = nat_le 1 (12 * w + 14 * d) && nat_le (12 * w + 14 * d) 1920

-- each value is a bit
abbrev pub all_bits : List ℕ → Bool
all_bits [] = true
all_bits (v ∷ vs) = nat_le v 1 && all_bits vs
