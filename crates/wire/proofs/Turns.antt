-- One turn of a reader's or a writer's loop.
use Rattle.std.proofs.Common.{◌≡◌, ℕ, suc, ◌+◌, ◌-◌, ◌*◌, ◌/◌, ◌%◌, ◌^◌, ◌<◌, ◌≤◌, List, length, get_or, take, drop, reverse, set, Ok, Err, refl, sym, ap, ◌∙◌, pow-suc, add-one, arith}
use native.Mathlib.Nat.{div-div-eq-div-mul}
use lib.Seq.{sets}
use Rattle.std.proofs.lemmas.List.{drop_more, length-reverse, length-take-le, get_or-reverse, get_or-take, get_or_default}
use Rattle.device.specs.declared.types.Notation.{Notation}
use Rattle.wire.specs.declared.code.FieldFault.{FieldFault}
use Rattle.wire.specs.Numbers.{then, low_first, low_bytes, base, digit_of, digits_run, hex_char, digit_chars}
use Rattle.wire.proofs.Places.{set_sets}

low_step : (bytes : List ℕ) (p n m : ℕ) → m ≡ n + 1 → p < length bytes → low_first m (drop p bytes) ≡ get_or bytes p 0 + 256 * low_first n (drop (p + 1) bytes)
low_step bytes p n m e h = rw (e, add-one n, drop_more bytes p 0 h)

-- the byte below joins the number of the n bytes above it
pub low_turn : (bytes : List ℕ) (n size v x : ℕ) → n < size → size ≤ length bytes → x ≡ get_or bytes (size - (n + 1)) 0 → v ≡ low_first n (drop (size - n) bytes)
    → v * 256 + x ≡ low_first (n + 1) (drop (size - (n + 1)) bytes)
low_turn bytes n size v x below fits here e =
    let s = low_step bytes (size - (n + 1)) n (n + 1) refl (omega arith) in
    let next : size - (n + 1) + 1 ≡ size - n = omega arith in
    let t = rw (next, ← e, ← here) at s in
    omega (arith, t)

-- what a walk from the back of the first bytes reads after n of them
pub byte_back : (bytes : List ℕ) (size n x : ℕ) → size ≤ length bytes → n < length (reverse (take size bytes)) → x ≡ get_or (reverse (take size bytes)) n x
    → (n < size) × (x ≡ get_or bytes (size - (n + 1)) 0)
byte_back bytes size n x fits below e =
    let front = take size bytes in
    let long : length front ≡ size = length-take-le size bytes fits in
    let short : n < size = omega (arith, length-reverse front, long) in
    let at : length front - 1 - n ≡ size - (n + 1) = omega (arith, long) in
    (short, e ∙ get_or-reverse front n x (omega (arith, long)) ∙ ap (λ i. get_or front i x) at ∙ get_or-take size bytes (size - (n + 1)) x (omega arith) ∙ get_or_default bytes (size - (n + 1)) x 0 (omega arith))

low_put : (out : List ℕ) (p n m v : ℕ) → m ≡ n + 1 → sets out p (low_bytes m v) ≡ sets (set out p (v % 256)) (p + 1) (low_bytes n (v / 256))
low_put out p n m v e = rw (e, add-one n, add-one p)

-- the lowest byte is stored, and the higher ones go behind it
pub low_put_turn : (out : List ℕ) (i size v : ℕ) → i < size → sets (set out i (v % 256)) (i + 1) (low_bytes (size - (i + 1)) (v / 256)) ≡ sets out i (low_bytes (size - i) v)
low_put_turn out i size v h = sym (low_put out i (size - (i + 1)) (size - i) v (omega arith))

module _ (t : Notation) where
  digits_step : (bytes : List ℕ) (p n m acc : ℕ) → m ≡ n + 1 → p < length bytes
      → digits_run t m p acc (drop p bytes) ≡ then (digit_of t p (get_or bytes p 0)) (λ d. digits_run t n (p + 1) (acc * base t + d) (drop (p + 1) bytes))
  digits_step bytes p n m acc e h = rw (e, add-one n, drop_more bytes p 0 h)

  -- a digit that was read leaves the digits behind it to the number with it
  pub digits_turn : (bytes : List ℕ) (at i count acc d : ℕ) → i < count → at + count ≤ length bytes → Ok d ≡ digit_of t (at + i) (get_or bytes (at + i) 0)
      → digits_run t (count - (i + 1)) (at + (i + 1)) (acc * base t + d) (drop (at + (i + 1)) bytes) ≡ digits_run t (count - i) (at + i) acc (drop (at + i) bytes)
  digits_turn bytes at i count acc d h fits e =
      let next : at + (i + 1) ≡ at + i + 1 = omega arith in
      let s = digits_step bytes (at + i) (count - (i + 1)) (count - i) acc (omega arith) (omega arith) in
      rw next (sym (s ∙ ap (λ r. then r (λ x. digits_run t (count - (i + 1)) (at + i + 1) (acc * base t + x) (drop (at + i + 1) bytes))) (sym e)))

  -- a bad digit is what comes of the whole
  pub digits_stop : (bytes : List ℕ) (at i count acc : ℕ) (f : FieldFault) → i < count → at + count ≤ length bytes → Err f ≡ digit_of t (at + i) (get_or bytes (at + i) 0)
      → digits_run t (count - i) (at + i) acc (drop (at + i) bytes) ≡ Err f
  digits_stop bytes at i count acc f h fits e =
      let s = digits_step bytes (at + i) (count - (i + 1)) (count - i) acc (omega arith) (omega arith) in
      s ∙ ap (λ r. then r (λ x. digits_run t (count - (i + 1)) (at + i + 1) (acc * base t + x) (drop (at + i + 1) bytes))) (sym e)

  digit_put : (out : List ℕ) (p n m v : ℕ) → m ≡ n + 1
      → set (sets out (p + 1) (digit_chars t n v)) p (hex_char (v / base t ^ n % base t)) ≡ sets out p (digit_chars t m v)
  digit_put out p n m v e =
      let c = hex_char (v / base t ^ n % base t) in
      rw (e, add-one n, add-one p) (set_sets out (suc p) p c (digit_chars t n v) (omega arith))

  -- the next digit is stored before those that are there
  pub digit_put_turn : (entry : List ℕ) (at i count v : ℕ) → 0 < i → i ≤ count
      → set (sets entry (at + i) (digit_chars t (count - i) v)) (at + (i - 1)) (hex_char (v / base t ^ (count - i) % base t)) ≡ sets entry (at + (i - 1)) (digit_chars t (count - (i - 1)) v)
  digit_put_turn entry at i count v pos below =
      let next : at + i ≡ at + (i - 1) + 1 = omega arith in
      rw next (digit_put entry (at + (i - 1)) (count - i) (count - (i - 1)) v (omega arith))

  -- the number without the digits that are stored
  pub higher_turn : (v i count : ℕ) → 0 < i → i ≤ count → v / base t ^ (count - i) / base t ≡ v / base t ^ (count - (i - 1))
  higher_turn v i count pos below =
      let more : count - (i - 1) ≡ suc (count - i) = omega arith in
      rw (more, pow-suc (base t) (count - i)) (div-div-eq-div-mul v (base t ^ (count - i)) (base t))
