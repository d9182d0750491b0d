-- Numbers on the wire, in two codes.
use Rattle.std.specs.Prelude.{ℕ, zero, suc, ◌+◌, ◌-◌, ◌*◌, ◌/◌, ◌%◌, ◌^◌, ◌<◌, cond, ◌&&◌, List, [], ◌∷◌, length, Some, None, Ok, Err, Option, Result, nat_le, slice_index}
use Rattle.device.specs.declared.types.Notation.{Notation}
use Rattle.device.specs.declared.types.Notation.TheVariants.{Decimal, Hexadecimal}
use Rattle.wire.specs.declared.code.Code.{Code}
use Rattle.wire.specs.declared.code.Code.TheVariants.{Binary, Ascii}
use Rattle.wire.specs.declared.code.FieldFault.{FieldFault}
use Rattle.wire.specs.declared.code.FieldFault.TheVariants.{Missing, Digit}

-- what comes next where the first part went well
abbrev pub then : {X Y E : Type 0} → Result X E → (X → Result Y E) → Result Y E
then (Ok x) f = f x
then (Err e) f = Err e

-- wire bytes for each byte of a number
abbrev pub per_byte : Code → ℕ
per_byte Binary = 1
per_byte Ascii = 2

-- every byte is below 256
abbrev pub AllBytes : List ℕ → Type 0
AllBytes xs = (i : ℕ) → slice_index xs i < 256

-- the number in the first n bytes, low byte first
abbrev pub low_first : ℕ → List ℕ → ℕ
low_first zero xs = 0
low_first (suc n) [] = 0
low_first (suc n) (x ∷ xs) = x + 256 * low_first n xs

-- the base of a notation
abbrev pub base : Notation → ℕ
base Decimal = 10
base Hexadecimal = 16

-- the digit that a character stands for: '0' to '9', and in hexadecimal 'A' to 'F'; any other is a fault at its place
abbrev pub digit_of : Notation → ℕ → ℕ → Result ℕ FieldFault
digit_of Decimal place c = cond (nat_le 48 c && nat_le c 57) (Ok (c - 48)) (Err (Digit place))
digit_of Hexadecimal place c = cond (nat_le 48 c && nat_le c 57) (Ok (c - 48)) (cond (nat_le 65 c && nat_le c 70) (Ok (c - 55)) (Err (Digit place)))

-- the value of a hexadecimal digit, and none of any other character
abbrev pub hex_value : ℕ → Option ℕ
hex_value c = cond (nat_le 48 c && nat_le c 57) (Some (c - 48)) (cond (nat_le 65 c && nat_le c 70) (Some (c - 55)) None)

-- n digits, the highest first, after the number acc; the first stands at `place`
abbrev pub digits_run : Notation → ℕ → ℕ → ℕ → List ℕ → Result ℕ FieldFault
digits_run notation zero place acc xs = Ok acc
digits_run notation (suc n) place acc [] = Err Missing
digits_run notation (suc n) place acc (c ∷ cs) = then (digit_of notation place c) (λ d. digits_run notation n (place + 1) (acc * base notation + d) cs)

-- the value of a number of `size` bytes that is all there
abbrev pub value_sent : Code → ℕ → List ℕ → Result ℕ FieldFault
value_sent Binary size xs = Ok (low_first size xs)
value_sent Ascii size xs = digits_run Hexadecimal (size * 2) 0 0 xs

-- the number of `size` bytes at the front, and the wire bytes that it takes; a bad digit's place counts from the front
abbrev pub number_in : Code → ℕ → List ℕ → Result (ℕ × ℕ) FieldFault
number_in code size xs =
    cond (nat_le (size * per_byte code) (length xs))
    (then (value_sent code size xs) (λ v. Ok (v, size * per_byte code)))
    (Err Missing)

-- the n lowest bytes of a number, low byte first
abbrev pub low_bytes : ℕ → ℕ → List ℕ
low_bytes zero v = []
low_bytes (suc n) v = v % 256 ∷ low_bytes n (v / 256)

-- the character of a digit below 16
abbrev pub hex_char : ℕ → ℕ
hex_char d = cond (nat_le d 9) (48 + d) (55 + d)

-- the n lowest digits of a number in a notation, the highest first
abbrev pub digit_chars : Notation → ℕ → ℕ → List ℕ
digit_chars notation zero v = []
digit_chars notation (suc n) v = hex_char (v / base notation ^ n % base notation) ∷ digit_chars notation n v

-- the n lowest hexadecimal digits of a number, the highest first
abbrev pub hex_digits : ℕ → ℕ → List ℕ
hex_digits n v = digit_chars Hexadecimal n v

-- what is sent for a number of `size` bytes
abbrev pub encode : Code → ℕ → ℕ → List ℕ
encode Binary size v = low_bytes size v
encode Ascii size v = hex_digits (size * 2) v
