-- How long values are that stand one behind the other.
use Rattle.std.proofs.Common.{◌≡◌, ℕ, ◌+◌, ◌*◌, ◌/◌, List, [], ◌∷◌, length, refl, ◌∙◌, arith, length-append}
use Rattle.std.proofs.Math.Nat.{suc-mul}
use Rattle.std.proofs.lemmas.List.{length-map}
use Rattle.wire.specs.declared.code.Code.{Code}
use Rattle.wire.specs.declared.code.Code.TheVariants.{Binary, Ascii}
use Rattle.wire.specs.Numbers.{per_byte, hex_char, encode}
use Rattle.wire.specs.Series.{values_bytes}
use Rattle.wire.specs.Points.{half_bytes, bits_bytes, bits_size}
use Rattle.wire.proofs.RoundTrip.{length_encode}

-- values of so many bytes
pub length_values : (code : Code) (size : ℕ) (vs : List ℕ) → length (values_bytes code size vs) ≡ length vs * (size * per_byte code)
length_values code size [] = omega arith
length_values code size (v ∷ vs) =
    length-append (encode code size v) (values_bytes code size vs)
    ∙ omega (arith, length_encode code size v, length_values code size vs, suc-mul (length vs) (size * per_byte code))

length_half_bytes : (vs : List ℕ) → length (half_bytes vs) ≡ (length vs + 1) / 2
length_half_bytes [] = refl
length_half_bytes (a ∷ []) = refl
length_half_bytes (a ∷ b ∷ vs) = omega (arith, length_half_bytes vs)

-- points in bits
pub length_bits_bytes : (code : Code) (vs : List ℕ) → length (bits_bytes code vs) ≡ bits_size code (length vs)
length_bits_bytes Binary vs = length_half_bytes vs
length_bits_bytes Ascii vs = length-map vs hex_char
