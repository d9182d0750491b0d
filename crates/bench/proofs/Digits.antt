-- Digits read and written turn by turn.
use Rattle.std.proofs.Common.{◌≡◌, ℕ, suc, ◌+◌, ◌*◌, ◌/◌, ◌%◌, ◌<◌, ◌≤◌, ◌-◌, List, [], ◌∷◌, ◌++◌, length, get_or, take, drop, Some, None, Option, sym, refl, ap, ◌∙◌, append_assoc, arith}
use Rattle.std.proofs.Math.Seq.{take-length}
use Rattle.std.proofs.lemmas.List.{drop_more}
use Rattle.std.proofs.lemmas.Bool.Decides.{nat_tests}
use Rattle.wire.specs.Numbers.{hex_char}
use Rattle.bench.specs.Hex.{digit_value, joined, byte_value, before, bytes_in, pairs, byte_text, bytes_text, halves}

-- bytes that are read already before those that are still to be read
abbrev pub ahead : List ℕ → Option (List ℕ) → Option (List ℕ)
ahead xs (Some ys) = Some (xs ++ ys)
ahead xs None = None

-- the first of the bytes to be read goes over to those that are read
pub shift : (xs : List ℕ) (b : ℕ) (o : Option (List ℕ)) → ahead xs (before (Some b) o) ≡ ahead (xs ++ b ∷ []) o
shift xs b None = refl
shift xs b (Some ys) = ap Some (sym (append_assoc xs (b ∷ []) ys))

-- where the bytes behind cannot be read
pub never : (b : Option ℕ) → before b None ≡ None
never None = refl
never (Some x) = refl

-- an odd number of digits gives no bytes
pub odd : (xs : List ℕ) → length xs % 2 ≡ 1 → bytes_in xs ≡ None
odd [] h = grind (arith, nat_tests)
odd (a ∷ []) h = refl
odd (a ∷ b ∷ xs) h = ap (before (byte_value a b)) (odd xs (omega arith)) ∙ never (byte_value a b)

-- one turn of reading
pub turn_read : (xs items rest : List ℕ) → 2 ≤ length rest → bytes_in xs ≡ ahead items (bytes_in rest) → bytes_in xs ≡ ahead items (before (byte_value (get_or rest 0 0) (get_or rest 1 0)) (bytes_in (take (length rest - 2) (drop 2 rest))))
turn_read xs items [] h inv = grind arith
turn_read xs items (a ∷ []) h inv = grind arith
turn_read xs items (a ∷ b ∷ rest) h inv =
    let e : suc (suc (length rest)) - 2 ≡ length rest = omega arith in
    inv ∙ ap (λ ys. ahead items (before (byte_value a b) (bytes_in ys))) (sym (ap (λ n. take n rest) e ∙ take-length rest))

-- one turn of reading words
pub turn_pairs : (xs items rest : List ℕ) → 2 ≤ length rest → pairs xs ≡ ahead items (pairs rest) → pairs xs ≡ ahead items (before (Some (get_or rest 0 0 * 256 + get_or rest 1 0)) (pairs (take (length rest - 2) (drop 2 rest))))
turn_pairs xs items [] h inv = grind arith
turn_pairs xs items (a ∷ []) h inv = grind arith
turn_pairs xs items (a ∷ b ∷ rest) h inv =
    let e : suc (suc (length rest)) - 2 ≡ length rest = omega arith in
    inv ∙ ap (λ ys. ahead items (before (Some (a * 256 + b)) (pairs ys))) (sym (ap (λ n. take n rest) e ∙ take-length rest))

-- a byte that was written reads as itself
pub digit_back : (d : ℕ) → d < 16 → digit_value (hex_char d) ≡ Some d
digit_back d h = grind (arith, nat_tests)

pub byte_back : (b : ℕ) → b < 256 → byte_value (hex_char (b / 16)) (hex_char (b % 16)) ≡ Some b
byte_back b h =
    let e : 16 * (b / 16) + b % 16 ≡ b = omega arith in
    let high = digit_back (b / 16) (omega arith) in
    let low = digit_back (b % 16) (omega arith) in
    ap (λ o. joined o (digit_value (hex_char (b % 16)))) high ∙ ap (joined (Some (b / 16))) low ∙ ap Some e

-- two texts added one after the other
pub added : (s x y : List ℕ) {t u : List ℕ} → t ≡ s ++ x → u ≡ t ++ y → u ≡ s ++ (x ++ y)
added s x y p q = q ∙ ap (λ l. l ++ y) p ∙ append_assoc s x y

-- one turn of writing: the digits that are still to be written
pub turn_text : (xs text : List ℕ) (i : ℕ) → i < length xs → (text ++ byte_text (get_or xs i 0)) ++ bytes_text (drop (i + 1) xs) ≡ text ++ bytes_text (drop i xs)
turn_text xs text i h = append_assoc text (byte_text (get_or xs i 0)) (bytes_text (drop (i + 1) xs)) ∙ ap (λ ys. text ++ bytes_text ys) (sym (drop_more xs i 0 h))

-- what is written reads as the bytes
pub text_back : (xs : List ℕ) → ((i : ℕ) → get_or xs i 0 < 256) → bytes_in (bytes_text xs) ≡ Some xs
text_back [] h = refl
text_back (b ∷ xs) h =
    ap (λ o. before o (bytes_in (bytes_text xs))) (byte_back b (h 0))
    ∙ ap (before (Some b)) (text_back xs (λ i. h (suc i)))

-- one turn of writing words
pub turn_words : (xs text : List ℕ) (i : ℕ) → i < length xs → (text ++ bytes_text (halves (get_or xs i 0 ∷ []))) ++ bytes_text (halves (drop (i + 1) xs)) ≡ text ++ bytes_text (halves (drop i xs))
turn_words xs text i h = append_assoc text (bytes_text (halves (get_or xs i 0 ∷ []))) (bytes_text (halves (drop (i + 1) xs))) ∙ ap (λ ys. text ++ bytes_text (halves ys)) (sym (drop_more xs i 0 h))
