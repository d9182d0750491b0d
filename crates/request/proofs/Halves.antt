-- Points in bits that were written read as themselves, in either code.
use Rattle.std.proofs.Common.{◌≡◌, ℕ, zero, suc, ◌+◌, ◌*◌, ◌/◌, ◌%◌, ◌<◌, true, List, [], ◌∷◌, ◌++◌, length, get_or, Ok, Result, sym, refl, ap, ◌∙◌, add-zero, arith}
use Rattle.std.specs.Prelude.{map}
use Rattle.std.specs.Result.{result_unwrap_or}
use Rattle.device.specs.declared.types.Notation.TheVariants.{Hexadecimal}
use Rattle.wire.specs.declared.code.Code.{Code}
use Rattle.wire.specs.declared.code.Code.TheVariants.{Binary, Ascii}
use Rattle.wire.specs.Numbers.{then, hex_char}
use Rattle.wire.specs.Points.{half_bytes, bits_bytes, half_in, filled}
use Rattle.wire.proofs.Numbers.{digit_back}
use Rattle.frame.specs.declared.fault.Fault.{Fault}
use Rattle.request.specs.Fields.{placed, half_at, bit_in, bits_in, list_end}
use Rattle.request.specs.Writing.{Each}

-- each point's digit
half_byte_back : (ds rest : List ℕ) (i : ℕ) → Each (λ d. d < 16) ds → i < length ds → half_in Binary (half_bytes ds ++ rest) i ≡ Ok (get_or ds i 0)
half_byte_back [] rest i ok h = absurd (let b : ⊥ = omega arith in b)
half_byte_back (a ∷ []) rest zero ok h =
    let high : 16 * a / 16 ≡ a = omega arith in
    ap Ok high
half_byte_back (a ∷ []) rest (suc i) ok h = absurd (let b : ⊥ = omega arith in b)
half_byte_back (a ∷ b ∷ ds) rest zero ok h =
    let small : b < 16 = ok.1.0 in
    let high : (16 * a + b) / 16 ≡ a = omega arith in
    ap Ok high
half_byte_back (a ∷ b ∷ ds) rest (suc zero) ok h =
    let small : b < 16 = ok.1.0 in
    let low : (16 * a + b) % 16 ≡ b = omega arith in
    ap Ok low
half_byte_back (a ∷ b ∷ ds) rest (suc (suc i)) ok h =
    let on : suc (suc i) / 2 ≡ suc (i / 2) = omega arith in
    let side : suc (suc i) % 2 ≡ i % 2 = omega arith in
    rw (on, side) (half_byte_back ds rest i ok.1.1 (omega arith))

digit_each_back : (ds rest : List ℕ) (i : ℕ) → Each (λ d. d < 16) ds → i < length ds → half_in Ascii (map hex_char ds ++ rest) i ≡ Ok (get_or ds i 0)
digit_each_back [] rest i ok h = absurd (let b : ⊥ = omega arith in b)
digit_each_back (d ∷ ds) rest zero ok h = digit_back Hexadecimal 0 d ok.0
digit_each_back (d ∷ ds) rest (suc i) ok h = digit_each_back ds rest i ok.1 (omega arith)

half_back : (code : Code) (ds rest : List ℕ) (i : ℕ) → Each (λ d. d < 16) ds → i < length ds → half_in code (bits_bytes code ds ++ rest) i ≡ Ok (get_or ds i 0)
half_back Binary ds rest i ok h = half_byte_back ds rest i ok h
half_back Ascii ds rest i ok h = digit_each_back ds rest i ok h

half_filled : (ds rest : List ℕ) → filled Binary (half_bytes ds ++ rest) (length ds) ≡ true
half_filled [] rest = refl
half_filled (a ∷ []) rest =
    let low : 16 * a % 16 ≡ 0 = omega arith in
    rw low
half_filled (a ∷ b ∷ ds) rest =
    let on : suc (suc (length ds)) / 2 ≡ suc (length ds / 2) = omega arith in
    let side : suc (suc (length ds)) % 2 ≡ length ds % 2 = omega arith in
    rw (on, side) (half_filled ds rest)

-- what was written is filled
pub filled_back : (code : Code) (ds rest : List ℕ) → filled code (bits_bytes code ds ++ rest) (length ds) ≡ true
filled_back Binary ds rest = half_filled ds rest
filled_back Ascii ds rest = refl

-- the digits are digits
ends_from : (f : ℕ → Result (ℕ × ℕ) Fault) (v : ℕ → ℕ) (n i : ℕ) → ((j : ℕ) → j < i + n → f j ≡ Ok (v j, 1)) → list_end f n i ≡ Ok (i + n)
ends_from f v zero i h = ap Ok (sym (add-zero i))
ends_from f v (suc n) i h =
    let on : i + 1 + n ≡ i + suc n = omega arith in
    ap (λ x. then x (λ a. list_end f n (i + a.1))) (h i (omega arith)) ∙ ends_from f v n (i + 1) (λ j b. h j (omega arith)) ∙ ap Ok on

pub halves_end : (code : Code) (ds rest : List ℕ) (at : ℕ) → Each (λ d. d < 16) ds → list_end (half_at code (bits_bytes code ds ++ rest) at) (length ds) 0 ≡ Ok (0 + length ds)
halves_end code ds rest at ok =
    ends_from (half_at code (bits_bytes code ds ++ rest) at) (λ j. get_or ds j 0) (length ds) 0
    (λ j b. ap (λ x. then (placed (at + j) x) (λ d. Ok (d, 1))) (half_back code ds rest j ok (omega arith)))

-- the values are the values
values_from : (code : Code) (xs ds : List ℕ) (i : ℕ) → ((j : ℕ) → j < length ds → bit_in code xs (i + j) ≡ get_or ds j 0) → bits_in code xs i (length ds) ≡ ds
values_from code xs [] i h = refl
values_from code xs (d ∷ ds) i h =
    let first : bit_in code xs i ≡ d = ap (bit_in code xs) (sym (add-zero i)) ∙ h 0 (omega arith) in
    let rest : bits_in code xs (i + 1) (length ds) ≡ ds = values_from code xs ds (i + 1) (λ j b. ap (bit_in code xs) (next i j) ∙ h (suc j) (omega arith)) in
    cc
  where
    next : (i j : ℕ) → i + 1 + j ≡ i + suc j
    next i j = omega arith

pub halves_back : (code : Code) (ds rest : List ℕ) → Each (λ d. d < 16) ds → bits_in code (bits_bytes code ds ++ rest) 0 (length ds) ≡ ds
halves_back code ds rest ok =
    values_from code (bits_bytes code ds ++ rest) ds 0 (λ j b. ap (bit_in code (bits_bytes code ds ++ rest)) (zero_is j) ∙ ap (λ r. result_unwrap_or r 0) (half_back code ds rest j ok b))
  where
    zero_is : (j : ℕ) → 0 + j ≡ j
    zero_is j = omega arith
