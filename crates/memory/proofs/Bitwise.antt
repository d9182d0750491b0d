-- A word of sixteen bits with one of them set or cleared.
use Rattle.std.proofs.Common.{◌≡◌, ℕ, zero, suc, ◌-◌, ◌/◌, ◌%◌, ◌^◌, ◌<◌, min, max, Bool, true, false, cond, ◌&&◌, T, eqb, sym, refl, ap, ◌∙◌, subst, ⊎_elim, not-suc-le-zero, arith, eqb→eq}
use lib.Bits.{bit_and, bit_or, or_step, and_step, or_shr, and_shr}
use Rattle.std.proofs.lemmas.Nat.{mod-mul-add, mod_below}
use Rattle.std.proofs.lemmas.Bool.{cases_eq, eq-eqb, ne_eqb, cond-true, cond-false}
use Rattle.memory.specs.Stored.{bit_at, with_bit}

or_bit : (a b k : ℕ) → bit_at (bit_or a b) k ≡ max (bit_at a k) (bit_at b k)
or_bit a b k =
    let p = mod_below (a / 2 ^ k) 2 (omega arith) in
    let q = mod_below (b / 2 ^ k) 2 (omega arith) in
    ap (λ (n : ℕ). n % 2) (or_shr a b k ∙ or_step (a / 2 ^ k) (b / 2 ^ k)) ∙ mod-mul-add _ 2 _ (omega arith)

and_bit : (a b k : ℕ) → bit_at (bit_and a b) k ≡ min (bit_at a k) (bit_at b k)
and_bit a b k =
    let p = mod_below (a / 2 ^ k) 2 (omega arith) in
    let q = mod_below (b / 2 ^ k) 2 (omega arith) in
    ap (λ (n : ℕ). n % 2) (and_shr a b k ∙ and_step (a / 2 ^ k) (b / 2 ^ k)) ∙ mod-mul-add _ 2 _ (omega arith)

-- a test that passes at each number below a bound
abbrev pub all : (ℕ → Bool) → ℕ → Bool
all f zero = true
all f (suc n) = f n && all f n

and_fst : (a b : Bool) → T (a && b) → T a
and_fst true b t = tt
and_fst false b t = t

and_snd : (a b : Bool) → T (a && b) → T b
and_snd true b t = t
and_snd false b t = absurd t

pub all_at : (f : ℕ → Bool) (n : ℕ) → T (all f n) → (k : ℕ) → k < n → T (f k)
all_at f zero t k h = absurd (not-suc-le-zero h)
all_at f (suc n) t k h =
    ⊎_elim
    (λ (e : k ≡ n). subst (λ (m : ℕ). T (f m)) (sym e) (and_fst (f n) (all f n) t))
    (λ (ne : k ≡ n → ⊥). all_at f n (and_snd (f n) (all f n) t) k (omega arith))
    (cases_eq k n)

abbrev is_set : ℕ → ℕ → Bool
is_set at k = eqb (bit_at (2 ^ at) k) (cond (eqb k at) 1 0)

abbrev is_clear : ℕ → ℕ → Bool
is_clear at k = eqb (bit_at (65535 - 2 ^ at) k) (cond (eqb k at) 0 1)

one_bit : (at k : ℕ) → at < 16 → k < 16 → bit_at (2 ^ at) k ≡ cond (eqb k at) 1 0
one_bit at k p q = eqb→eq _ _ (all_at (is_set at) 16 (all_at (λ a. all (is_set a) 16) 16 tt at p) k q)

mask_bit : (at k : ℕ) → at < 16 → k < 16 → bit_at (65535 - 2 ^ at) k ≡ cond (eqb k at) 0 1
mask_bit at k p q = eqb→eq _ _ (all_at (is_clear at) 16 (all_at (λ a. all (is_clear a) 16) 16 tt at p) k q)

by_max : (b : Bool) (x y z : ℕ) → x < 2 → y ≡ cond b 1 0 → z ≡ max x y → z ≡ cond b 1 x
by_max true x y z h e f = omega arith
by_max false x y z h e f = omega arith

by_min : (b : Bool) (x y z : ℕ) → x < 2 → y ≡ cond b 0 1 → z ≡ min x y → z ≡ cond b 0 x
by_min true x y z h e f = omega arith
by_min false x y z h e f = omega arith

-- every bit below the sixteenth of a word in which one was given a value
pub with_bit_at : (x at v k : ℕ) → at < 16 → v < 2 → k < 16 → bit_at (with_bit x at v) k ≡ cond (eqb k at) v (bit_at x k)
with_bit_at x at v k p h q =
    ⊎_elim
    (λ (e : v ≡ 1).
    ap (λ (y : ℕ). bit_at y k) (cond-true (eqb v 1) (bit_or x (2 ^ at)) (bit_and x (65535 - 2 ^ at)) (eq-eqb v 1 e))
    ∙ by_max (eqb k at) _ _ _ (mod_below (x / 2 ^ k) 2 (omega arith)) (one_bit at k p q) (or_bit x (2 ^ at) k)
    ∙ ap (λ (y : ℕ). cond (eqb k at) y (bit_at x k)) (sym e))
    (λ (ne : v ≡ 1 → ⊥).
    let z : 0 ≡ v = omega arith in
    ap (λ (y : ℕ). bit_at y k) (cond-false (eqb v 1) (bit_or x (2 ^ at)) (bit_and x (65535 - 2 ^ at)) (ne_eqb v 1 ne))
    ∙ by_min (eqb k at) _ _ _ (mod_below (x / 2 ^ k) 2 (omega arith)) (mask_bit at k p q) (and_bit x (65535 - 2 ^ at) k)
    ∙ ap (λ (y : ℕ). cond (eqb k at) y (bit_at x k)) z)
    (cases_eq v 1)

pub bit_own : (x at v : ℕ) → at < 16 → v < 2 → bit_at (with_bit x at v) at ≡ v
bit_own x at v p h = with_bit_at x at v at p h p ∙ cond-true _ _ _ (eq-eqb at at refl)

pub bit_other : (x at v k : ℕ) → at < 16 → v < 2 → k < 16 → (k ≡ at → ⊥) → bit_at (with_bit x at v) k ≡ bit_at x k
bit_other x at v k p h q ne = with_bit_at x at v k p h q ∙ cond-false _ _ _ (ne_eqb k at ne)
