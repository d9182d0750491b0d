-- Points in bits on the wire.
use Rattle.std.specs.Prelude.{ℕ, ◌+◌, ◌*◌, ◌/◌, ◌%◌, Bool, true, cond, List, [], ◌∷◌, map, Ok, Result, ◌==◌, slice_index}
use Rattle.device.specs.declared.types.Notation.TheVariants.{Hexadecimal}
use Rattle.wire.specs.declared.code.Code.{Code}
use Rattle.wire.specs.declared.code.Code.TheVariants.{Binary, Ascii}
use Rattle.wire.specs.declared.code.FieldFault.{FieldFault}
use Rattle.wire.specs.Numbers.{hex_char, digit_of}

-- a half byte a point, the first point high; an odd end is filled by 0
abbrev pub half_bytes : List ℕ → List ℕ
half_bytes [] = []
half_bytes (a ∷ []) = (16 * a) ∷ []
half_bytes (a ∷ b ∷ vs) = (16 * a + b) ∷ half_bytes vs

-- what is sent for points in bits: in ASCII one digit a point
abbrev pub bits_bytes : Code → List ℕ → List ℕ
bits_bytes Binary vs = half_bytes vs
bits_bytes Ascii vs = map hex_char vs

-- the wire bytes of n points in bits
abbrev pub bits_size : Code → ℕ → ℕ
bits_size Binary n = (n + 1) / 2
bits_size Ascii n = n

-- the digit of the point with index i: in binary a half byte, in ASCII one hexadecimal digit, whose fault's place counts from the digit itself
abbrev pub half_in : Code → List ℕ → ℕ → Result ℕ FieldFault
half_in Binary xs i = Ok (cond (i % 2 == 0) (slice_index xs (i / 2) / 16) (slice_index xs (i / 2) % 16))
half_in Ascii xs i = digit_of Hexadecimal 0 (slice_index xs i)

-- whether an odd end of n points is filled by 0; in ASCII there is nothing to fill
abbrev pub filled : Code → List ℕ → ℕ → Bool
filled Binary xs n = cond (n % 2 == 0) true (slice_index xs (n / 2) % 16 == 0)
filled Ascii xs n = true
