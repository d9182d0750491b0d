-- A field that was written at a place reads as itself, in either code.
use Rattle.std.proofs.Common.{◌≡◌, ℕ, ◌+◌, ◌*◌, ◌^◌, ◌<◌, ◌≤◌, cond, List, [], ◌∷◌, ◌++◌, length, drop, Ok, Err, sym, refl, ap, ◌∙◌, append_assoc, arith, length-append, length-drop, drop-drop, drop_at, le-leb}
use Rattle.device.specs.declared.types.Device.{Device}
use Rattle.wire.specs.declared.code.Code.{Code}
use Rattle.wire.specs.Numbers.{per_byte, number_in, encode}
use Rattle.wire.specs.Fields.{encode_device, number_limit}
use Rattle.wire.specs.Series.{values_bytes}
use Rattle.wire.specs.Points.{bits_bytes, bits_size}
use Rattle.wire.proofs.RoundTrip.{length_encode}
use Rattle.wire.proofs.RoundTrip as wire
use Rattle.wire.proofs.Lengths.{length_values, length_bits_bytes}
use Rattle.frame.specs.declared.fault.Cause.TheVariants.{BadSize}
use Rattle.frame.specs.Faults.{fault}
use Rattle.request.specs.Fields.{present, number_at, device_at, counts_at, value_at, list_end, list_in, words_at, bits_at}
use Rattle.request.specs.Writing.{Each}
use Rattle.request.proofs.Halves.{filled_back, halves_end, halves_back}

-- `xs` stands from `at` to the end
pub record Stands (bytes xs : List ℕ) (at : ℕ) : Type 0 where
  pub within : at ≤ length bytes
  pub here : drop at bytes ≡ xs

module _ (bytes xs rest : List ℕ) (at n : ℕ) (long : length xs ≡ n) (s : Stands bytes (xs ++ rest) at) where
  pub room : at + n ≤ length bytes
  room = omega (arith, sym (length-drop at bytes) ∙ ap length s.here ∙ length-append xs rest ∙ ap (λ k. k + length rest) long, s.within)

  -- the next field stands behind it
  pub on : Stands bytes rest (at + n)
  on = record { within = room; here = sym (drop-drop n at bytes) ∙ ap (drop n) s.here ∙ drop_at xs rest n long }

  pub is_present : present bytes at n ≡ Ok n
  is_present = ap (λ b. cond b (Ok n) (Err (fault BadSize at))) (le-leb (at + n) (length bytes) room)

-- a number
pub number_back : (code : Code) (bytes rest : List ℕ) (at size v : ℕ) → v < 256 ^ size → Stands bytes (encode code size v ++ rest) at
    → number_at code bytes at size ≡ Ok (v, size * per_byte code)
number_back code bytes rest at size v below s = rw (s.here, wire.number_back code size v rest below)

-- a device field
pub device_back : (code : Code) (bytes rest : List ℕ) (at : ℕ) (d : Device) (i : ℕ) → i < number_limit code d → Stands bytes (encode_device code d i ++ rest) at
    → device_at code bytes at ≡ Ok (d, i, 4 * per_byte code)
device_back code bytes rest at d i small s = rw (s.here, wire.device_back code d i rest small)

-- a pair of counts
pub length_pair : (code : Code) (w d : ℕ) → length (encode code 1 w ++ encode code 1 d) ≡ 2 * per_byte code
length_pair code w d = simp length-append (omega (arith, length_encode code 1 w, length_encode code 1 d))

pub counts_back : (code : Code) (bytes rest : List ℕ) (at w d : ℕ) → w < 256 → d < 256 → Stands bytes ((encode code 1 w ++ encode code 1 d) ++ rest) at
    → counts_at code bytes at ≡ Ok (w, d, 2 * per_byte code)
counts_back code bytes rest at w d hw hd s =
    let s1 : Stands bytes (encode code 1 w ++ (encode code 1 d ++ rest)) at = record { within = s.within; here = s.here ∙ append_assoc (encode code 1 w) (encode code 1 d) rest } in
    let s2 = on bytes (encode code 1 w) (encode code 1 d ++ rest) at (1 * per_byte code) (length_encode code 1 w) s1 in
    rw (
      is_present bytes (encode code 1 w ++ encode code 1 d) rest at (2 * per_byte code) (length_pair code w d) s,
      number_back code bytes (encode code 1 d ++ rest) at 1 w hw s1,
      number_back code bytes rest (at + 1 * per_byte code) 1 d hd s2,
    )

-- the write data of a batch in words
values_end : (code : Code) (bytes rest : List ℕ) (vs : List ℕ) (at : ℕ) → Each (λ v. v < 65536) vs → Stands bytes (values_bytes code 2 vs ++ rest) at
    → (e : ℕ) × (list_end (value_at code bytes) (length vs) at ≡ Ok e)
values_end code bytes rest [] at ok s = (at, refl)
values_end code bytes rest (v ∷ vs) at ok s =
    let s1 : Stands bytes (encode code 2 v ++ (values_bytes code 2 vs ++ rest)) at = record { within = s.within; here = s.here ∙ append_assoc (encode code 2 v) (values_bytes code 2 vs) rest } in
    let s2 = on bytes (encode code 2 v) (values_bytes code 2 vs ++ rest) at (2 * per_byte code) (length_encode code 2 v) s1 in
    let more = values_end code bytes rest vs (at + 2 * per_byte code) ok.1 s2 in
    (more.0, rw (number_back code bytes (values_bytes code 2 vs ++ rest) at 2 v ok.0 s1) more.1)

values_back : (code : Code) (rest vs : List ℕ) → Each (λ v. v < 65536) vs → list_in (number_in code 2) (length vs) (values_bytes code 2 vs ++ rest) ≡ vs
values_back code rest [] ok = refl
values_back code rest (v ∷ vs) ok =
    let tail = values_bytes code 2 vs ++ rest in
    rw (append_assoc (encode code 2 v) (values_bytes code 2 vs) rest, wire.number_back code 2 v tail ok.0, drop_at (encode code 2 v) tail (2 * per_byte code) (length_encode code 2 v))
    (ap (λ ws. v ∷ ws) (values_back code rest vs ok.1))

pub words_back : (code : Code) (bytes rest : List ℕ) (vs : List ℕ) (at : ℕ) → Each (λ v. v < 65536) vs → Stands bytes (values_bytes code 2 vs ++ rest) at
    → words_at code bytes at (length vs) ≡ Ok (vs, length vs * (2 * per_byte code))
words_back code bytes rest vs at ok s =
    rw (is_present bytes (values_bytes code 2 vs) rest at (length vs * (2 * per_byte code)) (length_values code 2 vs) s, (values_end code bytes rest vs at ok s).1, s.here, values_back code rest vs ok)

-- the write data of a batch in bits
pub bits_back : (code : Code) (bytes rest : List ℕ) (ds : List ℕ) (at : ℕ) → Each (λ d. d < 16) ds → Stands bytes (bits_bytes code ds ++ rest) at
    → bits_at code bytes at (length ds) ≡ Ok (ds, bits_size code (length ds))
bits_back code bytes rest ds at ok s =
    rw (is_present bytes (bits_bytes code ds) rest at (bits_size code (length ds)) (length_bits_bytes code ds) s, s.here, halves_end code ds rest at ok, filled_back code ds rest, halves_back code ds rest ok)
