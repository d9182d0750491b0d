-- A number or a device field that was written reads as itself, in either code.
use Rattle.std.proofs.Common.{◌≡◌, ℕ, zero, suc, ◌+◌, ◌*◌, ◌/◌, ◌%◌, ◌^◌, ◌<◌, ◌≤◌, Bool, true, false, cond, leb, List, [], ◌∷◌, ◌++◌, length, get_or, drop, Ok, Err, Result, refl, ap, ◌∙◌, mod-lt, mod-eq_of_lt, mul_assoc, mul_comm, add-mul, pow-suc, arith, length-append, le-leb}
use native.Mathlib.Nat.{pow-zero, mod-add-div}
use lib.Seq.{sets}
use Rattle.std.specs.Prelude.{ok_or}
use Rattle.device.specs.declared.types.Device.{Device}
use Rattle.device.specs.declared.types.Device.TheVariants.{M, SM, L, X, Y, B, D, SD, ZR, W, TS, TN}
use Rattle.device.specs.declared.types.Notation.{Notation}
use Rattle.device.specs.declared.types.Notation.TheVariants.{Hexadecimal}
use Rattle.device.specs.Devices.{code_of, symbol_of, notation_of}
use Rattle.device.proofs.Found.{code_back, symbol_back}
use Rattle.wire.specs.declared.code.Code.{Code}
use Rattle.wire.specs.declared.code.Code.TheVariants.{Binary, Ascii}
use Rattle.wire.specs.declared.code.FieldFault.{FieldFault}
use Rattle.wire.specs.declared.code.FieldFault.TheVariants.{Missing, Unknown}
use Rattle.wire.specs.Numbers.{then, per_byte, low_first, low_bytes, base, digits_run, digit_chars, value_sent, number_in, encode}
use Rattle.wire.specs.Fields.{device_named, device_number, device_in, encode_device, number_limit}
use Rattle.wire.proofs.Numbers.{base_pos, digit_back, two_a_byte, high_digit}
use Rattle.wire.proofs.Places.{drop_sets}

low_back : (n v : ℕ) (rest : List ℕ) → v < 256 ^ n → low_first n (low_bytes n v ++ rest) ≡ v
low_back zero v rest h = omega arith
low_back (suc n) v rest h =
    let below : v / 256 < 256 ^ n = omega (arith, rw (pow-suc 256 n) at h) in
    rw (low_back n (v / 256) rest below) (mod-add-div v 256)

digits_back : (t : Notation) (n place acc v : ℕ) (rest : List ℕ) → digits_run t n place acc (digit_chars t n v ++ rest) ≡ Ok (acc * base t ^ n + v % base t ^ n)
digits_back t zero place acc v rest = rw (pow-zero (base t)) (ap Ok (omega arith))
digits_back t (suc n) place acc v rest =
    let b = base t in
    let d = v / b ^ n % b in
    let sum : (acc * b + d) * b ^ n + v % b ^ n ≡ acc * b ^ suc n + v % b ^ suc n = rw (high_digit t v n, pow-suc b n, mul_comm (b ^ n) b, add-mul (acc * b) d (b ^ n)) (omega (arith, mul_assoc acc b (b ^ n))) in
    ap (λ r. then r (λ x. digits_run t n (place + 1) (acc * b + x) (digit_chars t n v ++ rest))) (digit_back t place d (mod-lt (v / b ^ n) (base_pos t)))
    ∙ digits_back t n (place + 1) (acc * b + d) v rest
    ∙ ap Ok sum

-- a number below the power reads as itself from its digits
digits_whole : (t : Notation) (n place v : ℕ) (rest : List ℕ) → v < base t ^ n → digits_run t n place 0 (digit_chars t n v ++ rest) ≡ Ok v
digits_whole t n place v rest h = digits_back t n place 0 v rest ∙ ap Ok (omega (arith, mod-eq_of_lt h))

value_back : (code : Code) (size v : ℕ) (rest : List ℕ) → v < 256 ^ size → value_sent code size (encode code size v ++ rest) ≡ Ok v
value_back Binary size v rest h = ap Ok (low_back size v rest h)
value_back Ascii size v rest h = digits_whole Hexadecimal (size * 2) 0 v rest (rw (two_a_byte size) h)

pub length_low : (n v : ℕ) → length (low_bytes n v) ≡ n
length_low zero v = refl
length_low (suc n) v = ap suc (length_low n (v / 256))

pub length_digits : (t : Notation) (n v : ℕ) → length (digit_chars t n v) ≡ n
length_digits t zero v = refl
length_digits t (suc n) v = ap suc (length_digits t n v)

pub length_encode : (code : Code) (size v : ℕ) → length (encode code size v) ≡ size * per_byte code
length_encode Binary size v = length_low size v ∙ omega arith
length_encode Ascii size v = length_digits Hexadecimal (size * 2) v

-- a number at the front reads as itself
pub number_back : (code : Code) (size v : ℕ) (rest : List ℕ) → v < 256 ^ size → number_in code size (encode code size v ++ rest) ≡ Ok (v, size * per_byte code)
number_back code size v rest below =
    let n = size * per_byte code in
    let long : n ≤ length (encode code size v ++ rest) = simp length-append (omega (arith, length_encode code size v)) in
    rw (le-leb n (length (encode code size v ++ rest)) long, value_back code size v rest below)

-- a symbol is two characters
pub symbol_pair : (d : Device) → symbol_of d ≡ get_or (symbol_of d) 0 0 ∷ get_or (symbol_of d) 1 0 ∷ []
symbol_pair M = refl
symbol_pair SM = refl
symbol_pair L = refl
symbol_pair X = refl
symbol_pair Y = refl
symbol_pair B = refl
symbol_pair D = refl
symbol_pair SD = refl
symbol_pair ZR = refl
symbol_pair W = refl
symbol_pair TS = refl
symbol_pair TN = refl

pub length_symbol : (d : Device) → length (symbol_of d) ≡ 2
length_symbol d = ap length (symbol_pair d)

-- an ASCII device field, character by character
symbol_first : (d : Device) (xs : List ℕ) → symbol_of d ++ xs ≡ get_or (symbol_of d) 0 0 ∷ get_or (symbol_of d) 1 0 ∷ xs
symbol_first d xs = ap (λ s. s ++ xs) (symbol_pair d)

pub length_device : (code : Code) (d : Device) (n : ℕ) → length (encode_device code d n) ≡ 4 * per_byte code
length_device Binary d n = refl
length_device Ascii d n = ap length (symbol_first d (digit_chars (notation_of d) 6 n))

named_back : (code : Code) (d : Device) (n : ℕ) (rest : List ℕ) → device_named code (encode_device code d n ++ rest) ≡ Ok d
named_back Binary d n rest = ap (λ o. ok_or o Unknown) (code_back d)
named_back Ascii d n rest = ap (λ xs. device_named Ascii (xs ++ rest)) (symbol_first d (digit_chars (notation_of d) 6 n)) ∙ ap (λ o. ok_or o Unknown) (symbol_back d)

device_number_back : (code : Code) (d : Device) (n : ℕ) (rest : List ℕ) → n < number_limit code d → device_number code d (encode_device code d n ++ rest) ≡ Ok n
device_number_back Binary d n rest h = ap Ok (low_back 3 n (code_of d ∷ rest) h)
device_number_back Ascii d n rest h =
    ap (λ xs. device_number Ascii d (xs ++ rest)) (symbol_first d (digit_chars (notation_of d) 6 n)) ∙ digits_whole (notation_of d) 6 2 n rest h

-- a device field at the front reads as itself
pub device_back : (code : Code) (d : Device) (n : ℕ) (rest : List ℕ) → n < number_limit code d → device_in code (encode_device code d n ++ rest) ≡ Ok (d, n, 4 * per_byte code)
device_back code d n rest below =
    let field = encode_device code d n ++ rest in
    let long : 4 * per_byte code ≤ length field = simp length-append (omega (arith, length_device code d n)) in
    rw (le-leb (4 * per_byte code) (length field) long, named_back code d n rest, device_number_back code d n rest below)

-- a number that was stored at a place reads as itself from there
pub number_stored : (code : Code) (size v : ℕ) (out : List ℕ) (at : ℕ) → at + size * per_byte code ≤ length out → v < 256 ^ size
    → number_in code size (drop at (sets out at (encode code size v))) ≡ Ok (v, size * per_byte code)
number_stored code size v out at fits below =
    let vs = encode code size v in
    ap (number_in code size) (drop_sets out at vs (omega (arith, length_encode code size v))) ∙ number_back code size v (drop (at + length vs) out) below

-- a device field that was stored at a place reads as itself from there
pub device_stored : (code : Code) (d : Device) (n : ℕ) (out : List ℕ) (at : ℕ) → at + 4 * per_byte code ≤ length out → n < number_limit code d
    → device_in code (drop at (sets out at (encode_device code d n))) ≡ Ok (d, n, 4 * per_byte code)
device_stored code d n out at fits below =
    let vs = encode_device code d n in
    ap (device_in code) (drop_sets out at vs (omega (arith, length_device code d n))) ∙ device_back code d n (drop (at + length vs) out) below

-- a number takes its size
number_takes : (b : Bool) (r : Result ℕ FieldFault) (n : ℕ) (a : ℕ × ℕ) → cond b (then r (λ v. Ok (v, n))) (Err Missing) ≡ Ok a → a.1 ≡ n
number_takes true (Ok v) n a e = cc
number_takes true (Err f) n a e = cc
number_takes false r n a e = cc

pub number_used : (code : Code) (size : ℕ) (xs : List ℕ) (a : ℕ × ℕ) → number_in code size xs ≡ Ok a → a.1 ≡ size * per_byte code
number_used code size xs a e = number_takes (leb (size * per_byte code) (length xs)) (value_sent code size xs) (size * per_byte code) a e

-- a device field takes four bytes
device_takes : (b : Bool) (r : Result Device FieldFault) (n : Device → Result ℕ FieldFault) (u : ℕ) (a : Device × ℕ × ℕ)
    → cond b (then r (λ d. then (n d) (λ v. Ok (d, v, u)))) (Err Missing) ≡ Ok a → a.2 ≡ u
device_takes true (Ok d) n u a e = go (n d) e
  where
    go : (y : Result ℕ FieldFault) → then y (λ v. Ok (d, v, u)) ≡ Ok a → a.2 ≡ u
    go (Ok v) h = cc
    go (Err f) h = cc
device_takes true (Err f) n u a e = cc
device_takes false r n u a e = cc

pub device_used : (code : Code) (xs : List ℕ) (a : Device × ℕ × ℕ) → device_in code xs ≡ Ok a → a.2 ≡ 4 * per_byte code
device_used code xs a e = device_takes (leb (4 * per_byte code) (length xs)) (device_named code xs) (λ d. device_number code d xs) (4 * per_byte code) a e
