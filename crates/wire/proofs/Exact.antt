-- What was read is the writing of the number or the device field that it was read as, in either code.
use Rattle.std.proofs.Common.{◌≡◌, ℕ, zero, suc, ◌+◌, ◌-◌, ◌*◌, ◌/◌, ◌%◌, ◌^◌, ◌<◌, ◌≤◌, Bool, true, false, cond, leb, List, [], ◌∷◌, ◌++◌, length, get_or, take, drop, Some, None, Option, Ok, Err, Result, sym, refl, ap, ◌∙◌, subst, mul_assoc, mul_comm, add-mul, pow-suc, arith, leb-true, drop-drop}
use native.Mathlib.Nat.{pow-zero}
use Rattle.std.specs.Prelude.{ok_or}
use Rattle.std.proofs.Math.Nat.{mul-le-mul_right}
use Rattle.std.proofs.lemmas.Bool.Decides.{nat_tests}
use Rattle.std.proofs.lemmas.List.{get_or-drop, drop_more}
use Rattle.std.proofs.lemmas.Nat.{div-mul-add, mod-mul-add}
use Rattle.device.specs.declared.types.Device.{Device}
use Rattle.device.specs.declared.types.Notation.{Notation}
use Rattle.device.specs.declared.types.Notation.TheVariants.{Decimal, Hexadecimal}
use Rattle.device.specs.Devices.{code_of, symbol_of, notation_of}
use Rattle.device.specs.Search.{device_by_code, device_by_symbol}
use Rattle.device.proofs.Found.{by_code_found, by_symbol_found}
use Rattle.wire.specs.declared.code.Code.{Code}
use Rattle.wire.specs.declared.code.Code.TheVariants.{Binary, Ascii}
use Rattle.wire.specs.declared.code.FieldFault.{FieldFault}
use Rattle.wire.specs.declared.code.FieldFault.TheVariants.{Missing, Unknown}
use Rattle.wire.specs.Numbers.{AllBytes, then, per_byte, low_first, low_bytes, base, digit_of, hex_char, digits_run, digit_chars, value_sent, number_in, encode}
use Rattle.wire.specs.Fields.{device_named, device_number, device_in, encode_device, number_limit}
use Rattle.wire.proofs.Numbers.{digit_below, two_a_byte}

-- bytes behind, and in front, are bytes
pub bytes_behind : (n : ℕ) (xs : List ℕ) → AllBytes xs → AllBytes (drop n xs)
bytes_behind n xs h i = subst (λ v. v < 256) (sym (get_or-drop n xs i 0)) (h (n + i))

pub bytes_front : (n : ℕ) (xs : List ℕ) → AllBytes xs → AllBytes (take n xs)
bytes_front zero xs h i = omega arith
bytes_front (suc n) [] h i = h i
bytes_front (suc n) (x ∷ xs) h zero = h 0
bytes_front (suc n) (x ∷ xs) h (suc i) = bytes_front n xs (λ k. h (suc k)) i

-- bytes are those of the number that they come to
low_exact : (n : ℕ) (xs : List ℕ) → AllBytes xs → n ≤ length xs → (xs ≡ low_bytes n (low_first n xs) ++ drop n xs) × (low_first n xs < 256 ^ n)
low_exact zero xs h k = (refl, omega arith)
low_exact (suc n) [] h k = absurd (omega arith)
low_exact (suc n) (x ∷ xs) h k =
    let small : x < 256 = h 0 in
    let more = low_exact n xs (λ i. h (suc i)) (omega arith) in
    let low : (x + 256 * low_first n xs) % 256 ≡ x = omega arith in
    let high : (x + 256 * low_first n xs) / 256 ≡ low_first n xs = omega arith in
    (rw (low, high) (ap (λ ys. x ∷ ys) more.0), rw (pow-suc 256 n) (omega (arith, more.1)))

-- a character that was read as a digit is the character of that digit
pub digit_exact : (t : Notation) (place c d : ℕ) → digit_of t place c ≡ Ok d → hex_char d ≡ c
digit_exact Decimal place c d e = grind (arith, nat_tests)
digit_exact Hexadecimal place c d e = grind (arith, nat_tests)

-- digits that were read after the number acc as v are the lowest digits of v, above which stands acc
record Digits (t : Notation) (n acc v : ℕ) (xs : List ℕ) : Type 0 where
  pub is : xs ≡ digit_chars t n v ++ drop n xs
  pub low : acc * base t ^ n ≤ v
  pub high : v < acc * base t ^ n + base t ^ n

module _ (t : Notation) where
  -- a digit in front of them
  one_digit : (n place acc v x d : ℕ) (xs : List ℕ) → digit_of t place x ≡ Ok d → Digits t n (acc * base t + d) v xs → Digits t (suc n) acc v (x ∷ xs)
  one_digit n place acc v x d xs e m =
      let b = base t in
      let p = b ^ n in
      let below : d < b = digit_below t place x d e in
      let r : v ≡ (acc * b + d) * p + (v - (acc * b + d) * p) = omega (arith, m.low) in
      let upper : v / p ≡ acc * b + d = ap (λ k. k / p) r ∙ div-mul-add (acc * b + d) p (v - (acc * b + d) * p) (omega (arith, m.low, m.high)) in
      let digit : v / p % b ≡ d = ap (λ k. k % b) upper ∙ mod-mul-add acc b d below in
      let more : acc * b ^ suc n ≡ acc * b * p = rw (pow-suc b n, mul_comm p b) (sym (mul_assoc acc b p)) in
      let split : (acc * b + d) * p ≡ acc * b * p + d * p = add-mul (acc * b) d p in
      let room : (d + 1) * p ≤ b * p = mul-le-mul_right p (omega arith) in
      let one : (d + 1) * p ≡ d * p + 1 * p = add-mul d 1 p in
      let whole : b ^ suc n ≡ b * p = pow-suc b n ∙ mul_comm p b in
      record {
        is = rw (digit, digit_exact t place x d e) (ap (λ ys. x ∷ ys) m.is);
        low = omega (arith, m.low);
        high = omega (arith, m.high);
      }

  digits_exact : (n place acc v : ℕ) (xs : List ℕ) → digits_run t n place acc xs ≡ Ok v → Digits t n acc v xs
  digits_exact zero place acc v xs e =
      let same : acc ≡ v = cc in
      record { is = refl; low = rw (pow-zero (base t)) (omega (arith, same)); high = rw (pow-zero (base t)) (omega (arith, same)) }
  digits_exact (suc n) place acc v [] e = cc
  digits_exact (suc n) place acc v (x ∷ xs) e = go (digit_of t place x) refl e (λ d h. digits_exact n (place + 1) (acc * base t + d) v xs h)
    where
      go : (r : Result ℕ FieldFault) → digit_of t place x ≡ r → then r (λ d. digits_run t n (place + 1) (acc * base t + d) xs) ≡ Ok v
          → ((d : ℕ) → digits_run t n (place + 1) (acc * base t + d) xs ≡ Ok v → Digits t n (acc * base t + d) v xs) → Digits t (suc n) acc v (x ∷ xs)
      go (Ok d) f h more = one_digit n place acc v x d xs f (more d h)
      go (Err e) f h more = cc

-- what went well gave a value, and what came next went well from it
pub after : {X Y E P : Type 0} (r : Result X E) (f : X → Result Y E) (y : Y) → then r f ≡ Ok y → ((x : X) → r ≡ Ok x → f x ≡ Ok y → P) → P
after (Ok x) f y e k = k x refl e
after (Err x) f y e k = absurd (let z : ⊥ = cc in z)

-- what went well twice alike gave one value
pub same_ok : {X E : Type 0} (x y : X) → ◌≡◌ {A = Result X E} (Ok x) (Ok y) → x ≡ y
same_ok x y e = cc

-- a test that passed
pub passing : {X E : Type 0} (b : Bool) (r : Result X E) (e : E) (x : X) → cond b r (Err e) ≡ Ok x → (b ≡ true) × (r ≡ Ok x)
passing true r e x h = (refl, h)
passing false r e x h = cc

-- a number stands at the front, within its width
pub record IsNumber (code : Code) (size v : ℕ) (xs : List ℕ) : Type 0 where
  pub is : xs ≡ encode code size v ++ drop (size * per_byte code) xs
  pub below : v < 256 ^ size

-- its wire bytes are those of its value
value_exact : (code : Code) (size v : ℕ) (xs : List ℕ) → AllBytes xs → size * per_byte code ≤ length xs → value_sent code size xs ≡ Ok v → IsNumber code size v xs
value_exact Binary size v xs h k e =
    let same : low_first size xs ≡ v = cc in
    let one : size * 1 ≡ size = omega arith in
    let m = low_exact size xs h (omega arith) in
    record { is = rw (one, ← same) m.0; below = rw (← same) m.1 }
value_exact Ascii size v xs h k e =
    let m = digits_exact Hexadecimal (size * 2) 0 0 v xs e in
    record { is = m.is; below = rw (← two_a_byte size) (omega (arith, m.high)) }

-- a number that was read at the front is written there
pub number_exact : (code : Code) (size : ℕ) (xs : List ℕ) (a : ℕ × ℕ) → AllBytes xs → number_in code size xs ≡ Ok a → IsNumber code size a.0 xs
number_exact code size xs a h e =
    let n = size * per_byte code in
    let t = passing (leb n (length xs)) _ Missing a e in
    after (value_sent code size xs) (λ v. Ok (v, n)) a t.1
    (λ v was is. subst (λ (p : ℕ × ℕ). IsNumber code size p.0 xs) (same_ok (v, n) a is) (value_exact code size v xs h (leb-true n (length xs) t.0) was))

-- a search that went well found something
found : {E : Type 0} (o : Option Device) (e : E) (d : Device) → ok_or o e ≡ Ok d → Some d ≡ o
found (Some c) e d h = cc
found None e d h = cc

-- a device field stands at the front, its number within its width
pub record IsDevice (code : Code) (d : Device) (n : ℕ) (xs : List ℕ) : Type 0 where
  pub is : xs ≡ encode_device code d n ++ drop (4 * per_byte code) xs
  pub below : n < number_limit code d

-- its wire bytes are those of the device and the number
field_exact : (code : Code) (d : Device) (n : ℕ) (xs : List ℕ) → AllBytes xs → 4 * per_byte code ≤ length xs → device_named code xs ≡ Ok d → device_number code d xs ≡ Ok n → IsDevice code d n xs
field_exact Binary d n xs h k e f =
    let same : low_first 3 xs ≡ n = cc in
    let m = low_exact 3 xs h (omega arith) in
    let named : code_of d ≡ get_or xs 3 0 = by_code_found (get_or xs 3 0) (Some d) (found (device_by_code (get_or xs 3 0)) Unknown d e) in
    let last : drop 3 xs ≡ code_of d ∷ drop 4 xs = drop_more xs 3 0 (omega arith) ∙ ap (λ c. c ∷ drop 4 xs) (sym named) in
    record { is = m.0 ∙ ap (λ ys. low_bytes 3 (low_first 3 xs) ++ ys) last ∙ ap (λ v. low_bytes 3 v ++ (code_of d ∷ drop 4 xs)) same; below = rw (← same) m.1 }
field_exact Ascii d n xs h k e f =
    let a = get_or xs 0 0 in
    let b = get_or xs 1 0 in
    let m = digits_exact (notation_of d) 6 2 0 n (drop 2 xs) f in
    let named : symbol_of d ≡ a ∷ b ∷ [] = by_symbol_found a b (Some d) (found (device_by_symbol a b) Unknown d e) in
    let digits = digit_chars (notation_of d) 6 n in
    let two : xs ≡ a ∷ b ∷ drop 2 xs = drop_more xs 0 0 (omega arith) ∙ ap (λ ys. a ∷ ys) (drop_more xs 1 0 (omega arith)) in
    record {
      is = two ∙ ap (λ ys. a ∷ b ∷ ys) (m.is ∙ ap (λ ys. digits ++ ys) (drop-drop 6 2 xs)) ∙ ap (λ s. (s ++ digits) ++ drop 8 xs) (sym named);
      below = omega (arith, m.high);
    }

-- a device field that was read at the front is written there
pub device_exact : (code : Code) (xs : List ℕ) (a : Device × ℕ × ℕ) → AllBytes xs → device_in code xs ≡ Ok a → IsDevice code a.0 a.1 xs
device_exact code xs a h e =
    let u = 4 * per_byte code in
    let t = passing (leb u (length xs)) _ Missing a e in
    after (device_named code xs) (λ d. then (device_number code d xs) (λ n. Ok (d, n, u))) a t.1
    (λ d named on. after (device_number code d xs) (λ n. Ok (d, n, u)) a on
    (λ n was is. subst (λ (p : Device × ℕ × ℕ). IsDevice code p.0 p.1 xs) (same_ok (d, n, u) a is) (field_exact code d n xs h (leb-true u (length xs) t.0) named was)))
