-- The table of digits has each byte's hexadecimal digit.
use Rattle.std.proofs.Common.{◌≡◌, ℕ, zero, suc, ◌-◌, ◌<◌, Bool, true, ◌&&◌, T, eqb, get_or, inl, inr, arith, eq-zero-or-pos, eqb→eq}
use Rattle.std.specs.Option.{unwrap_or}
use lib.Ieee.Fits.{and_l, and_r}
use Rattle.wire.specs.declared.digits.TheConstants.{DIGITS}
use Rattle.wire.specs.Numbers.{hex_value}

-- the test of the first n bytes, which computes
abbrev are_digits : ℕ → Bool
are_digits zero = true
are_digits (suc n) = eqb (get_or DIGITS n 0) (unwrap_or (hex_value n) 16) && are_digits n

below : (n c : ℕ) → T (are_digits n) → c < n → get_or DIGITS c 0 ≡ unwrap_or (hex_value c) 16
below zero c t h = absurd (omega arith)
below (suc n) c t h =
    elim (eq-zero-or-pos (n - c)) [
      | inl z ↦ let e : c ≡ n = omega arith in rw e (eqb→eq _ _ (and_l _ (are_digits n) t))
      | inr g ↦ below n c (and_r _ (are_digits n) t) (omega arith)
    ]

pub digit_at : (c : ℕ) → c < 256 → get_or DIGITS c 0 ≡ unwrap_or (hex_value c) 16
digit_at c h = below 256 c tt h
