-- Numbers by their bytes and by their digits.
use Rattle.std.proofs.Common.{◌≡◌, ℕ, zero, suc, ◌+◌, ◌*◌, ◌/◌, ◌%◌, ◌^◌, ◌<◌, ◌≤◌, Ok, sym, refl, mul_comm, pow-suc, add-one, arith, lit<, pow-add}
use native.Mathlib.Nat.{pow-le-pow_right, one-le-pow}
use lib.Arith.{mod-mul}
use Rattle.std.proofs.lemmas.Bool.Decides.{nat_tests}
use Rattle.device.specs.declared.types.Notation.{Notation}
use Rattle.device.specs.declared.types.Notation.TheVariants.{Decimal, Hexadecimal}
use Rattle.wire.specs.declared.code.Code.{Code}
use Rattle.wire.specs.declared.code.Code.TheVariants.{Binary, Ascii}
use Rattle.wire.specs.Numbers.{per_byte, base, hex_char, digit_of}

pub base_pos : (t : Notation) → 0 < base t
base_pos Decimal = lit< tt
base_pos Hexadecimal = lit< tt

-- a digit that was read is below its base
pub digit_below : (t : Notation) (place c d : ℕ) → digit_of t place c ≡ Ok d → d < base t
digit_below Decimal place c d e = grind (arith, nat_tests)
digit_below Hexadecimal place c d e = grind (arith, nat_tests)

-- a digit that was written reads as itself, at any place
pub digit_back : (t : Notation) (place d : ℕ) → d < base t → digit_of t place (hex_char d) ≡ Ok d
digit_back Decimal place d h = grind (arith, nat_tests)
digit_back Hexadecimal place d h = grind (arith, nat_tests)

-- a number with a digit more that was read is below the next power
pub digit_more : (t : Notation) (place c d v k : ℕ) → Ok d ≡ digit_of t place c → v < 16 ^ k → v * base t + d < 16 ^ (k + 1)
digit_more t place c d v k e h = go t (digit_below t place c d (sym e))
  where
    go : (n : Notation) → d < base n → v * base n + d < 16 ^ (k + 1)
    go Decimal g = rw (add-one k, pow-suc 16 k) (omega arith)
    go Hexadecimal g = rw (add-one k, pow-suc 16 k) (omega arith)

-- one byte more is below the next power
pub byte_more : (v b k m : ℕ) → m ≡ k + 1 → v < 256 ^ k → b < 256 → v * 256 + b < 256 ^ m
byte_more v b k m e h g = rw (e, add-one k, pow-suc 256 k) (omega arith)

pub three_bytes : (k : ℕ) → k ≤ 3 → 256 ^ k ≤ 16777216
three_bytes k h = pow-le-pow_right (lit< tt) h

pub eight_digits : (k : ℕ) → k ≤ 8 → 16 ^ k ≤ 4294967296
eight_digits k h = pow-le-pow_right (lit< tt) h

-- a byte is two hexadecimal digits
pub two_a_byte : (n : ℕ) → 16 ^ (n * 2) ≡ 256 ^ n
two_a_byte zero = refl
two_a_byte (suc n) =
    let more : suc n * 2 ≡ n * 2 + 2 = omega arith in
    rw (more, pow-add 16 (n * 2) 2, pow-suc 256 n, two_a_byte n)

-- the highest of n + 1 digits, and the others
pub high_digit : (t : Notation) (v n : ℕ) → v % base t ^ suc n ≡ (v / base t ^ n % base t) * base t ^ n + v % base t ^ n
high_digit t v n =
    let b = base t in
    rw (pow-suc b n, mul_comm (b ^ n) b) (mod-mul v (base_pos t) (one-le-pow n b (base_pos t)))

-- a field of so few bytes has a size
pub two_most : (code : Code) (n : ℕ) → n < 65536 → n * per_byte code < 2 ^ 64
two_most Binary n h = omega arith
two_most Ascii n h = omega arith
