-- What a walk read of a frame is written there, field by field, in either code.
use Rattle.std.proofs.Common.{◌≡◌, ℕ, zero, suc, ◌+◌, ◌*◌, ◌/◌, ◌%◌, ◌^◌, ◌<◌, ◌≤◌, true, leb, List, ◌∷◌, ◌++◌, length, get_or, drop, map, Ok, sym, refl, ap, ◌∙◌, subst, add_assoc, append_assoc, arith, length-drop, drop-drop, leb-true}
use Rattle.std.specs.Result.{result_unwrap_or}
use Rattle.std.proofs.lemmas.Bool.{eqb-true}
use Rattle.std.proofs.lemmas.List.{drop_more}
use Rattle.std.proofs.Math.Nat.{suc-mul}
use Rattle.device.specs.declared.types.Device.{Device}
use Rattle.device.specs.declared.types.Notation.TheVariants.{Hexadecimal}
use Rattle.wire.specs.declared.code.Code.{Code}
use Rattle.wire.specs.declared.code.Code.TheVariants.{Binary, Ascii}
use Rattle.wire.specs.Numbers.{per_byte, number_in, encode, hex_char, AllBytes}
use Rattle.wire.specs.Fields.{device_in, encode_device, number_limit}
use Rattle.wire.specs.Series.{values_bytes}
use Rattle.wire.specs.Points.{half_bytes, bits_bytes, bits_size, half_in, filled}
use Rattle.wire.proofs.Numbers.{digit_below}
use Rattle.wire.proofs.RoundTrip.{number_used, device_used}
use Rattle.wire.proofs.Exact.{bytes_behind, after, same_ok, passing, digit_exact, number_exact, device_exact}
use Rattle.frame.specs.declared.fault.Cause.TheVariants.{BadValue, BadSize}
use Rattle.frame.specs.Faults.{fault}
use Rattle.request.specs.Fields.{placed, number_at, device_at, present, counts_at, value_at, list_end, while_read, list_in, words_at, half_at, bit_in, bits_in, bits_at}
use Rattle.request.specs.Writing.{Each}
use Rattle.request.proofs.Parts.{unplaced, value_reads}
use Rattle.request.proofs.Passed.{length_bits}

-- a number stands from `at` on, within its width
pub record Number (code : Code) (bytes : List ℕ) (at size : ℕ) (a : ℕ × ℕ) : Type 0 where
  pub is : drop at bytes ≡ encode code size a.0 ++ drop (at + a.1) bytes
  pub below : a.0 < 256 ^ size
  pub used : a.1 ≡ size * per_byte code

-- a device field, its number within its width
pub record Placed (code : Code) (bytes : List ℕ) (at : ℕ) (a : Device × ℕ × ℕ) : Type 0 where
  pub is : drop at bytes ≡ encode_device code a.0 a.1 ++ drop (at + a.2) bytes
  pub below : a.1 < number_limit code a.0

-- a pair of counts
pub record Counts (code : Code) (bytes : List ℕ) (at : ℕ) (a : ℕ × ℕ × ℕ) : Type 0 where
  pub is : drop at bytes ≡ (encode code 1 a.0 ++ encode code 1 a.1) ++ drop (at + a.2) bytes
  pub words : a.0 < 256
  pub doubles : a.1 < 256

-- values of two bytes
pub record Values (code : Code) (bytes : List ℕ) (at n : ℕ) (vs : List ℕ) (used : ℕ) : Type 0 where
  pub is : drop at bytes ≡ values_bytes code 2 vs ++ drop (at + used) bytes
  pub below : Each (λ v. v < 65536) vs
  pub long : length vs ≡ n

-- the field is present
there : (bytes : List ℕ) (at n u : ℕ) → present bytes at n ≡ Ok u → (at + n ≤ length bytes) × (n ≡ u)
there bytes at n u e =
    let t = passing (leb (at + n) (length bytes)) (Ok n) (fault BadSize at) u e in
    (leb-true (at + n) (length bytes) t.0, same_ok n u t.1)

module _ (code : Code) (bytes : List ℕ) (all : AllBytes bytes) where
  pub number_here : (at size : ℕ) (a : ℕ × ℕ) → number_at code bytes at size ≡ Ok a → Number code bytes at size a
  number_here at size a e =
      let f = unplaced at (number_in code size (drop at bytes)) a e in
      let n = number_exact code size (drop at bytes) a (bytes_behind at bytes all) f in
      let used = number_used code size (drop at bytes) a f in
      record { is = n.is ∙ ap (λ ys. encode code size a.0 ++ ys) (drop-drop (size * per_byte code) at bytes ∙ ap (λ k. drop (at + k) bytes) (sym used)); below = n.below; used = used }

  pub device_here : (at : ℕ) (a : Device × ℕ × ℕ) → device_at code bytes at ≡ Ok a → Placed code bytes at a
  device_here at a e =
      let f = unplaced at (device_in code (drop at bytes)) a e in
      let n = device_exact code (drop at bytes) a (bytes_behind at bytes all) f in
      let used = device_used code (drop at bytes) a f in
      record { is = n.is ∙ ap (λ ys. encode_device code a.0 a.1 ++ ys) (drop-drop (4 * per_byte code) at bytes ∙ ap (λ k. drop (at + k) bytes) (sym used)); below = n.below }

  counts_of : (at u : ℕ) (a b : ℕ × ℕ) → 2 * per_byte code ≡ u → Number code bytes at 1 a → Number code bytes (at + a.1) 1 b → Counts code bytes at (a.0, b.0, u)
  counts_of at u a b e x y =
      let behind : at + a.1 + b.1 ≡ at + u = omega (arith, x.used, y.used) in
      record {
        is = x.is ∙ ap (λ ys. encode code 1 a.0 ++ ys) (y.is ∙ ap (λ k. encode code 1 b.0 ++ drop k bytes) behind) ∙ sym (append_assoc (encode code 1 a.0) (encode code 1 b.0) (drop (at + u) bytes));
        words = x.below;
        doubles = y.below;
      }

  pub counts_here : (at : ℕ) (a : ℕ × ℕ × ℕ) → counts_at code bytes at ≡ Ok a → Counts code bytes at a
  counts_here at c e =
      after (present bytes at (2 * per_byte code)) _ c e
      (λ u eu h. after (number_at code bytes at 1) _ c h
      (λ a ea h. after (number_at code bytes (at + a.1) 1) _ c h
      (λ b eb h. subst (Counts code bytes at) (same_ok (a.0, b.0, u) c h)
      (counts_of at u a b (there bytes at (2 * per_byte code) u eu).1 (number_here at 1 a ea) (number_here (at + a.1) 1 b eb)))))

  -- the write data of a batch in words
  values_of : (n at u : ℕ) (a : ℕ × ℕ) (vs : List ℕ) → Number code bytes at 2 a → Values code bytes (at + a.1) n vs u → Values code bytes at (suc n) (a.0 ∷ vs) (a.1 + u)
  values_of n at u a vs x y = record {
    is = x.is ∙ ap (λ ys. encode code 2 a.0 ++ ys) y.is ∙ sym (append_assoc (encode code 2 a.0) (values_bytes code 2 vs) (drop (at + a.1 + u) bytes))
        ∙ ap (λ k. (encode code 2 a.0 ++ values_bytes code 2 vs) ++ drop k bytes) (add_assoc at a.1 u);
    below = (x.below, y.below);
    long = ap suc y.long;
  }

  listed : (n at : ℕ) (a : ℕ × ℕ) → value_at code bytes at ≡ Ok a → a.0 ∷ list_in (number_in code 2) n (drop (at + a.1) bytes) ≡ list_in (number_in code 2) (suc n) (drop at bytes)
  listed n at a e =
      let q = number_in code 2 in
      sym (ap (λ y. while_read y (λ b. b.0 ∷ list_in q n (drop b.1 (drop at bytes)))) (value_reads code bytes at a e) ∙ ap (λ ys. a.0 ∷ list_in q n ys) (drop-drop a.1 at bytes))

  values_here : (n at e : ℕ) → list_end (value_at code bytes) n at ≡ Ok e → Values code bytes at n (list_in (number_in code 2) n (drop at bytes)) (n * (2 * per_byte code))
  values_here zero at e h =
      let none : at ≡ at + 0 * (2 * per_byte code) = omega arith in
      record { is = ap (λ k. drop k bytes) none; below = tt; long = refl }
  values_here (suc n) at e h =
      after (value_at code bytes at) _ e h
      (λ a ea g. let x = number_here at 2 a ea in
      let more : a.1 + n * (2 * per_byte code) ≡ suc n * (2 * per_byte code) = omega (arith, x.used, suc-mul n (2 * per_byte code)) in
      subst (Values code bytes at (suc n) (list_in (number_in code 2) (suc n) (drop at bytes))) more
      (subst (λ vs. Values code bytes at (suc n) vs (a.1 + n * (2 * per_byte code))) (listed n at a ea)
      (values_of n at (n * (2 * per_byte code)) a (list_in (number_in code 2) n (drop (at + a.1) bytes)) x (values_here n (at + a.1) e g))))

  pub words_here : (at n : ℕ) (a : List ℕ × ℕ) → words_at code bytes at n ≡ Ok a → Values code bytes at n a.0 a.1
  words_here at n a e =
      let vs = list_in (number_in code 2) n (drop at bytes) in
      after (present bytes at (n * (2 * per_byte code))) _ a e
      (λ u eu h. after (list_end (value_at code bytes) n at) _ a h
      (λ end ed h. subst (λ (p : List ℕ × ℕ). Values code bytes at n p.0 p.1) (same_ok (vs, u) a h)
      (subst (Values code bytes at n vs) (there bytes at (n * (2 * per_byte code)) u eu).1 (values_here n at end ed))))

-- points in bits stand at the front, each within its width
record Halves (code : Code) (xs : List ℕ) (n : ℕ) (ds : List ℕ) : Type 0 where
  pub is : xs ≡ bits_bytes code ds ++ drop (bits_size code n) xs
  pub below : Each (λ d. d < 16) ds

-- in ASCII, from a digit on
module _ (xs : List ℕ) (at : ℕ) where
  digits_from : (n i e : ℕ) → i + n ≤ length xs → list_end (half_at Ascii xs at) n i ≡ Ok e
      → (drop i xs ≡ map hex_char (bits_in Ascii xs i n) ++ drop (i + n) xs) × Each (λ d. d < 16) (bits_in Ascii xs i n)
  digits_from zero i e fits h =
      let none : i ≡ i + 0 = omega arith in
      (ap (λ k. drop k xs) none, tt)
  digits_from (suc n) i e fits h =
      after (half_at Ascii xs at i) _ e h
      (λ a ea g. after (placed (at + i) (half_in Ascii xs i)) _ a ea
      (λ d ed f.
      let digit = unplaced (at + i) (half_in Ascii xs i) d ed in
      let one : i + a.1 ≡ i + 1 = ap (λ (p : ℕ × ℕ). i + p.1) (sym (same_ok (d, 1) a f)) in
      let more = digits_from n (i + 1) e (omega arith) (ap (list_end (half_at Ascii xs at) n) (sym one) ∙ g) in
      let bit : bit_in Ascii xs i ≡ d = ap (λ r. result_unwrap_or r 0) digit in
      let on : i + 1 + n ≡ i + suc n = omega arith in (
        drop_more xs i 0 (omega arith) ∙ ap (λ c. c ∷ drop (i + 1) xs) (sym (ap hex_char bit ∙ digit_exact Hexadecimal 0 (get_or xs i 0) d digit))
            ∙ ap (λ ys. hex_char (bit_in Ascii xs i) ∷ ys) (more.0 ∙ ap (λ k. map hex_char (bits_in Ascii xs (i + 1) n) ++ drop k xs) on),
        (subst (λ v. v < 16) (sym bit) (digit_below Hexadecimal 0 (get_or xs i 0) d digit), more.1),
      )))

-- in binary, from a byte on
module _ (xs : List ℕ) (all : AllBytes xs) where
  high_half : (j : ℕ) → bit_in Binary xs (2 * j) ≡ get_or xs j 0 / 16
  high_half j =
      let side : 2 * j % 2 ≡ 0 = omega arith in
      let half : 2 * j / 2 ≡ j = omega arith in
      rw (side, half)

  low_half : (j : ℕ) → bit_in Binary xs (2 * j + 1) ≡ get_or xs j 0 % 16
  low_half j =
      let side : (2 * j + 1) % 2 ≡ 1 = omega arith in
      let half : (2 * j + 1) / 2 ≡ j = omega arith in
      rw (side, half)

  odd_end : (j : ℕ) → filled Binary xs (2 * j + 1) ≡ true → get_or xs j 0 % 16 ≡ 0
  odd_end j h =
      let side : (2 * j + 1) % 2 ≡ 1 = omega arith in
      let half : (2 * j + 1) / 2 ≡ j = omega arith in
      eqb-true (get_or xs j 0 % 16) 0 (rw (side, half) at h)

  halves_from : (n j : ℕ) → j + (n + 1) / 2 ≤ length xs → filled Binary xs (2 * j + n) ≡ true
      → (drop j xs ≡ half_bytes (bits_in Binary xs (2 * j) n) ++ drop (j + (n + 1) / 2) xs) × Each (λ d. d < 16) (bits_in Binary xs (2 * j) n)
  halves_from zero j fits h =
      let none : j ≡ j + 0 = omega arith in
      (ap (λ k. drop k xs) none, tt)
  halves_from (suc zero) j fits h =
      let x = get_or xs j 0 in
      let small : x < 256 = all j in
      let zero-low : x % 16 ≡ 0 = odd_end j h in
      let whole : x ≡ 16 * bit_in Binary xs (2 * j) = rw (high_half j) (omega arith) in
      (drop_more xs j 0 (omega arith) ∙ ap (λ c. c ∷ drop (j + 1) xs) whole, (rw (high_half j) (omega arith), tt))
  halves_from (suc (suc n)) j fits h =
      let x = get_or xs j 0 in
      let small : x < 256 = all j in
      let next : 2 * j + 1 + 1 ≡ 2 * (j + 1) = omega arith in
      let on : 2 * (j + 1) + n ≡ 2 * j + suc (suc n) = omega arith in
      let behind : j + 1 + (n + 1) / 2 ≡ j + (suc (suc n) + 1) / 2 = omega arith in
      let more = halves_from n (j + 1) (omega arith) (ap (filled Binary xs) on ∙ h) in
      let whole : x ≡ 16 * bit_in Binary xs (2 * j) + bit_in Binary xs (2 * j + 1) = rw (high_half j, low_half j) (omega arith) in (
        drop_more xs j 0 (omega arith) ∙ ap (λ c. c ∷ drop (j + 1) xs) whole
            ∙ ap (λ ys. (16 * bit_in Binary xs (2 * j) + bit_in Binary xs (2 * j + 1)) ∷ ys)
            (more.0 ∙ ap (λ k. half_bytes (bits_in Binary xs (2 * (j + 1)) n) ++ drop k xs) behind ∙ ap (λ i. half_bytes (bits_in Binary xs i n) ++ drop (j + (suc (suc n) + 1) / 2) xs) (sym next)),
        (rw (high_half j) (omega arith), (rw (low_half j) (omega arith), subst (λ i. Each (λ d. d < 16) (bits_in Binary xs i n)) (sym next) more.1)),
      )

halves_exact : (code : Code) (xs : List ℕ) (at n e : ℕ) → AllBytes xs → bits_size code n ≤ length xs → list_end (half_at code xs at) n 0 ≡ Ok e → filled code xs n ≡ true → Halves code xs n (bits_in code xs 0 n)
halves_exact Binary xs at n e all fits h full =
    let zero_plus : 0 + n ≡ n = omega arith in
    let front : 0 + (n + 1) / 2 ≡ (n + 1) / 2 = omega arith in
    let t = halves_from xs all n 0 (omega arith) (ap (filled Binary xs) zero_plus ∙ full) in
    record { is = t.0 ∙ ap (λ k. half_bytes (bits_in Binary xs 0 n) ++ drop k xs) front; below = t.1 }
halves_exact Ascii xs at n e all fits h full =
    let zero_plus : 0 + n ≡ n = omega arith in
    let t = digits_from xs at n 0 e (omega arith) h in
    record { is = t.0 ∙ ap (λ k. map hex_char (bits_in Ascii xs 0 n) ++ drop k xs) zero_plus; below = t.1 }

-- points in bits stand from `at` on
pub record Points (code : Code) (bytes : List ℕ) (at n : ℕ) (vs : List ℕ) (used : ℕ) : Type 0 where
  pub is : drop at bytes ≡ bits_bytes code vs ++ drop (at + used) bytes
  pub below : Each (λ v. v < 16) vs
  pub long : length vs ≡ n

module _ (code : Code) (bytes : List ℕ) (all : AllBytes bytes) where
  points_of : (at n : ℕ) → Halves code (drop at bytes) n (bits_in code (drop at bytes) 0 n) → Points code bytes at n (bits_in code (drop at bytes) 0 n) (bits_size code n)
  points_of at n h = record {
    is = h.is ∙ ap (λ ys. bits_bytes code (bits_in code (drop at bytes) 0 n) ++ ys) (drop-drop (bits_size code n) at bytes);
    below = h.below;
    long = length_bits code (drop at bytes) 0 n;
  }

  pub bits_here : (at n : ℕ) (a : List ℕ × ℕ) → bits_at code bytes at n ≡ Ok a → Points code bytes at n a.0 a.1
  bits_here at n a e =
      let xs = drop at bytes in
      let vs = bits_in code xs 0 n in
      after (present bytes at (bits_size code n)) _ a e
      (λ u eu h. after (list_end (half_at code xs at) n 0) _ a h
      (λ end ed h.
      let full = passing (filled code xs n) (Ok (vs, u)) (fault BadValue at) a h in
      let p = there bytes at (bits_size code n) u eu in
      let fits : bits_size code n ≤ length xs = rw (length-drop at bytes) (omega (arith, p.0)) in
      subst (λ (q : List ℕ × ℕ). Points code bytes at n q.0 q.1) (same_ok (vs, u) a full.1)
      (subst (Points code bytes at n vs) p.1 (points_of at n (halves_exact code xs at n end (bytes_behind at bytes all) fits ed full.0)))))
