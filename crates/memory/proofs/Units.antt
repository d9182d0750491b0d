-- A point's units once it has a value: it holds the value, and what lies elsewhere is as it was.
use Rattle.std.proofs.Common.{◌≡◌, ℕ, ◌+◌, ◌/◌, ◌%◌, ◌<◌, ◌≤◌, cond, eqb, ◌≢◌, ◌⊎◌, List, length, get_or, set, sym, ap, ◌∙◌, subst, inl, inr, ⊎_elim, arith, length-set, get_or-set_other, get_or-set_same}
use Rattle.std.proofs.lemmas.Bool.{cases_eq, cases_order}
use Rattle.device.specs.declared.types.Kind.{Kind}
use Rattle.device.specs.declared.types.Kind.TheVariants.{Bit, Word}
use Rattle.memory.specs.Meaning.{value_limit}
use Rattle.memory.specs.Kept.{cells, cell, Holds}
use Rattle.memory.specs.Layout.{unit_of, width}
use Rattle.memory.specs.Stored.{bit_at, part_of, point_in, with_point}
use Rattle.memory.specs.declared.layout.Form.{Form}
use Rattle.memory.specs.declared.layout.Form.TheVariants.{Packed, Image}
use Rattle.memory.proofs.Bitwise.{bit_own, bit_other}

-- what stands at a place after a write, here and elsewhere
pub here : (us : List ℕ) (i v : ℕ) → i < length us → get_or (set us i v) i 0 ≡ v
here us i v h = rw get_or-set_same

pub there : (us : List ℕ) (i v j : ℕ) → (j ≡ i → ⊥) → get_or (set us i v) j 0 ≡ get_or us j 0
there us i v j ne = let n : j ≢ i = ne in rw get_or-set_other

pub with_long : (f : Form) (κ : Kind) (us : List ℕ) (i n v : ℕ) → length (with_point f κ us i n v) ≡ length us
with_long Packed κ us i n v = simp length-set
with_long Image Bit us i n v = simp length-set
with_long Image Word us i n v = simp length-set

-- the first of two writes, to neighbours
first : (us : List ℕ) (i a b : ℕ) → i < length us → get_or (set (set us i a) (i + 1) b) i 0 ≡ a
first us i a b h = there (set us i a) (i + 1) b i (λ e. omega arith) ∙ here us i a h

second : (us : List ℕ) (i a b : ℕ) → i + 1 < length us → get_or (set (set us i a) (i + 1) b) (i + 1) 0 ≡ b
second us i a b h = here (set us i a) (i + 1) b (simp length-set h)

neither : (us : List ℕ) (i a b j : ℕ) → (j ≡ i → ⊥) → (j ≡ i + 1 → ⊥) → get_or (set (set us i a) (i + 1) b) j 0 ≡ get_or us j 0
neither us i a b j ne nf = there (set us i a) (i + 1) b j nf ∙ there us i a j ne

flag : (v : ℕ) → v < 2 → cond (eqb v 0) 0 1 ≡ v
flag v h = ⊎_elim (λ (e : v ≡ 0). rw e) (λ (ne : v ≡ 0 → ⊥). let e : v ≡ 1 = omega arith in rw e) (cases_eq v 0)

-- the point itself
pub own : (f : Form) (κ : Kind) (us : List ℕ) (i n v : ℕ) → i + width f κ ≤ length us → v < value_limit κ → point_in f κ (with_point f κ us i n v) i n ≡ v
own Packed Bit us i n v h l = ap (λ (x : ℕ). bit_at x (n % 16)) (here us i _ (omega arith)) ∙ bit_own (get_or us i 0) (n % 16) v (omega arith) l
own Packed Word us i n v h l = here us i v (omega arith)
own Image Bit us i n v h l = ap (λ (x : ℕ). cond (eqb x 0) 0 1) (here us i v (omega arith)) ∙ flag v l
own Image Word us i n v h l = omega (arith, first us i (v % 256) (v / 256) (omega arith), second us i (v % 256) (v / 256) (omega arith))

-- points that share no unit
pub far : (f : Form) (κ μ : Kind) (us : List ℕ) (i n v j k : ℕ) → (i + width f κ ≤ j) ⊎ (j + width f μ ≤ i) → point_in f μ (with_point f κ us i n v) j k ≡ point_in f μ us j k
far Packed κ μ us i n v j k o = ap (λ (x : ℕ). part_of μ x k) (there us i _ j (λ e. ⊎_elim (λ h. omega arith) (λ h. omega arith) o))
far Image Bit Bit us i n v j k o = ap (λ (x : ℕ). cond (eqb x 0) 0 1) (there us i v j (λ e. ⊎_elim (λ h. omega arith) (λ h. omega arith) o))
far Image Bit Word us i n v j k o = omega (arith, there us i v j (λ e. ⊎_elim (λ h. omega arith) (λ h. omega arith) o), there us i v (j + 1) (λ e. ⊎_elim (λ h. omega arith) (λ h. omega arith) o))
far Image Word Bit us i n v j k o =
    ap (λ (x : ℕ). cond (eqb x 0) 0 1) (neither us i (v % 256) (v / 256) j (λ e. ⊎_elim (λ h. omega arith) (λ h. omega arith) o) (λ e. ⊎_elim (λ h. omega arith) (λ h. omega arith) o))
far Image Word Word us i n v j k o =
    omega (
      arith,
      neither us i (v % 256) (v / 256) j (λ e. ⊎_elim (λ h. omega arith) (λ h. omega arith) o) (λ e. ⊎_elim (λ h. omega arith) (λ h. omega arith) o),
      neither us i (v % 256) (v / 256) (j + 1) (λ e. ⊎_elim (λ h. omega arith) (λ h. omega arith) o) (λ e. ⊎_elim (λ h. omega arith) (λ h. omega arith) o),
    )

-- another point of the same device that shares the unit
sharing : (f : Form) (κ : Kind) (us : List ℕ) (i n k v : ℕ) → i + width f κ ≤ length us → v < value_limit κ → unit_of f κ n ≡ unit_of f κ k → (n ≡ k → ⊥)
    → point_in f κ (with_point f κ us i n v) i k ≡ point_in f κ us i k
sharing Packed Bit us i n k v h l e ne =
    ap (λ (x : ℕ). bit_at x (k % 16)) (here us i _ (omega arith)) ∙ bit_other (get_or us i 0) (n % 16) v (k % 16) (omega arith) l (omega arith) (λ q. ne (omega arith))
sharing Packed Word us i n k v h l e ne = absurd (ne e)
sharing Image Bit us i n k v h l e ne = absurd (ne e)
sharing Image Word us i n k v h l e ne = absurd (ne (omega arith))

-- and one that does not
distinct : (f : Form) (κ : Kind) (n k : ℕ) → (unit_of f κ n ≡ unit_of f κ k → ⊥) → (unit_of f κ n < unit_of f κ k → unit_of f κ n + width f κ ≤ unit_of f κ k) × (unit_of f κ k < unit_of f κ n → unit_of f κ k + width f κ ≤ unit_of f κ n)
distinct Packed κ n k ne = ((λ h. omega arith), (λ h. omega arith))
distinct Image Bit n k ne = ((λ h. omega arith), (λ h. omega arith))
distinct Image Word n k ne = ((λ h. omega arith), (λ h. omega arith))

clear_of : (f : Form) (κ : Kind) (s n k : ℕ) → (unit_of f κ n ≡ unit_of f κ k → ⊥) → (s + unit_of f κ n + width f κ ≤ s + unit_of f κ k) ⊎ (s + unit_of f κ k + width f κ ≤ s + unit_of f κ n)
clear_of f κ s n k ne =
    let d = distinct f κ n k ne in
    ⊎_elim (λ e. absurd (ne e)) (λ o. ⊎_elim (λ h. let g = d.0 h in inl (omega arith)) (λ h. let g = d.1 h in inr (omega arith)) o) (cases_order (unit_of f κ n) (unit_of f κ k))

-- another point of the same device, which begins at the unit s
pub beside : (f : Form) (κ : Kind) (us : List ℕ) (s n k v : ℕ) → s + unit_of f κ n + width f κ ≤ length us → v < value_limit κ → (n ≡ k → ⊥)
    → point_in f κ (with_point f κ us (s + unit_of f κ n) n v) (s + unit_of f κ k) k ≡ point_in f κ us (s + unit_of f κ k) k
beside f κ us s n k v h l ne =
    ⊎_elim
    (λ (e : unit_of f κ n ≡ unit_of f κ k).
    subst (λ (u : ℕ). point_in f κ (with_point f κ us (s + unit_of f κ n) n v) (s + u) k ≡ point_in f κ us (s + u) k) e (sharing f κ us (s + unit_of f κ n) n k v h l e ne))
    (λ (q : unit_of f κ n ≡ unit_of f κ k → ⊥). far f κ κ us (s + unit_of f κ n) n v (s + unit_of f κ k) k (clear_of f κ s n k q))
    (cases_eq (unit_of f κ n) (unit_of f κ k))

-- a cell that the point does not hold
pub unheld : (f : Form) (κ : Kind) (us : List ℕ) (i n v j k : ℕ) → i + width f κ ≤ length us → v < value_limit κ → k < cells f → (Holds f κ i n j k → ⊥)
    → cell f (get_or (with_point f κ us i n v) j 0) k ≡ cell f (get_or us j 0) k
unheld Packed Bit us i n v j k h l b free =
    ⊎_elim
    (λ (e : j ≡ i).
    subst (λ (m : ℕ). bit_at (get_or (with_point Packed Bit us i n v) m 0) k ≡ bit_at (get_or us m 0) k) (sym e)
    (ap (λ (x : ℕ). bit_at x k) (here us i _ (omega arith)) ∙ bit_other (get_or us i 0) (n % 16) v k (omega arith) l b (λ q. free (e, q))))
    (λ (ne : j ≡ i → ⊥). ap (λ (x : ℕ). bit_at x k) (there us i _ j ne))
    (cases_eq j i)
unheld Packed Word us i n v j k h l b free = ap (λ (x : ℕ). bit_at x k) (there us i v j free)
unheld Image Bit us i n v j k h l b free = there us i v j free
unheld Image Word us i n v j k h l b free = neither us i (v % 256) (v / 256) j (λ e. free (inl e)) (λ e. free (inr e))
