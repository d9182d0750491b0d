-- Digits that are gathered without a test on the way.
use Rattle.std.proofs.Common.{◌≡◌, ℕ, ◌+◌, ◌-◌, ◌*◌, ◌%◌, ◌^◌, ◌<◌, ◌≤◌, Bool, true, false, ◌&&◌, ltb, List, length, get_or, drop, Ok, Err, Result, None, refl, sym, ap, ◌∙◌, arith, ltb-true, ltb-false}
use Rattle.std.specs.Option.{unwrap_or}
use Rattle.std.specs.Result.{result_ok}
use Rattle.std.proofs.lemmas.Bool.Decides.{nat_tests}
use Rattle.device.specs.declared.types.Notation.{Notation}
use Rattle.device.specs.declared.types.Notation.TheVariants.{Decimal, Hexadecimal}
use Rattle.wire.specs.declared.code.FieldFault.{FieldFault}
use Rattle.wire.specs.declared.code.FieldFault.TheVariants.{Digit}
use Rattle.wire.specs.Numbers.{base, digit_of, hex_value, digits_run}
use Rattle.wire.proofs.Numbers.{digit_more, eight_digits}
use Rattle.wire.proofs.Turns.{digits_turn, digits_stop}

-- as long as all are good, the digits that are left come to the whole; after a bad one the whole is bad
abbrev pub Gathered : Bool → ℕ → ℕ → Result ℕ FieldFault → Result ℕ FieldFault → Type 0
Gathered true v limit rest whole = (rest ≡ whole) × (v < limit)
Gathered false v limit rest whole = result_ok whole ≡ None

-- what the table has for a byte is its digit if it is below the base, and the byte is none if it is not
pub table_good : (t : Notation) (place c : ℕ) → unwrap_or (hex_value c) 16 < base t → digit_of t place c ≡ Ok (unwrap_or (hex_value c) 16)
table_good Decimal place c h = grind (arith, nat_tests)
table_good Hexadecimal place c h = grind (arith, nat_tests)

pub table_bad : (t : Notation) (place c : ℕ) → base t ≤ unwrap_or (hex_value c) 16 → digit_of t place c ≡ Err (Digit place)
table_bad Decimal place c h = grind (arith, nat_tests)
table_bad Hexadecimal place c h = grind (arith, nat_tests)

module _ (t : Notation) (bytes : List ℕ) (at i count v : ℕ) where
  -- one digit more, whose sum does not wrap as long as all are good
  pub gather_turn : (good : Bool) (d : ℕ) (whole : Result ℕ FieldFault) → i < count → count ≤ 8 → at + count ≤ length bytes → d ≡ unwrap_or (hex_value (get_or bytes (at + i) 0)) 16
      → Gathered good v (16 ^ i) (digits_run t (count - i) (at + i) v (drop (at + i) bytes)) whole
      → let w = ((v * base t) % 2 ^ 32 + d) % 2 ^ 32 in Gathered (good && ltb d (base t)) w (16 ^ (i + 1)) (digits_run t (count - (i + 1)) (at + (i + 1)) w (drop (at + (i + 1)) bytes)) whole
  gather_turn false d whole h few fits e g = g
  gather_turn true d whole h few fits e g = go (ltb d (base t)) refl
    where
      c : ℕ
      c = get_or bytes (at + i) 0

      w : ℕ
      w = ((v * base t) % 2 ^ 32 + d) % 2 ^ 32

      go : (b : Bool) → ltb d (base t) ≡ b → Gathered b w (16 ^ (i + 1)) (digits_run t (count - (i + 1)) (at + (i + 1)) w (drop (at + (i + 1)) bytes)) whole
      go true f =
          let below : d < base t = ltb-true d (base t) f in
          let good = table_good t (at + i) c (rw (← e) below) in
          let more = digit_more t (at + i) c d v i (ap Ok e ∙ sym good) g.1 in
          let same : w ≡ v * base t + d = omega (arith, more, eight_digits (i + 1) (omega arith)) in
          rw same (digits_turn t bytes at i count v d h fits (ap Ok e ∙ sym good) ∙ g.0, more)
      go false f =
          let bad = table_bad t (at + i) c (rw (← e) (ltb-false d (base t) f)) in
          ap result_ok (sym g.0 ∙ digits_stop t bytes at i count v (Digit (at + i)) h fits (sym bad))
