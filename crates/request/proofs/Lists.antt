-- A walk over a list of entries, of any kind.
use Rattle.std.proofs.Common.{◌≡◌, ℕ, zero, suc, ◌+◌, ◌*◌, List, [], ◌∷◌, drop, Ok, Err, Result, sym, refl, ◌∙◌, arith, drop-drop}
use Rattle.std.proofs.Math.Nat.{suc-mul}
use Rattle.wire.specs.declared.code.Code.{Code}
use Rattle.wire.specs.declared.code.FieldFault.{FieldFault}
use Rattle.wire.specs.Numbers.{then}
use Rattle.frame.specs.declared.fault.Fault.{Fault}
use Rattle.request.specs.Fields.{list_end, list_in, while_read}
use Rattle.request.specs.Walks.{Walk, run, list}

-- what a kind of entry owes: its walk is its reading in the frame, whatever was read before it; its reading in a part is that in the frame; its size
pub record Entry {X A : Type 0} (code : Code) (bytes : List ℕ) (e : (X → Walk A) → Walk A) (r : ℕ → Result (X × ℕ) Fault) (q : List ℕ → Result (X × ℕ) FieldFault) (size : ℕ) : Type 0 where
  pub runs : (k : X → Walk A) → ((x : X) (dv fd dv' fd' at : ℕ) → run code bytes (k x) dv fd at ≡ run code bytes (k x) dv' fd' at)
      → (dv fd dv' fd' at : ℕ) → run code bytes (e k) dv fd at ≡ then (r at) (λ a. run code bytes (k a.0) dv' fd' (at + a.1))
  pub reads : (at : ℕ) (a : X × ℕ) → r at ≡ Ok a → q (drop at bytes) ≡ Ok a
  pub sized : (at : ℕ) (a : X × ℕ) → r at ≡ Ok a → a.1 ≡ size

module _ {X A : Type 0} (code : Code) (bytes : List ℕ) (e : (X → Walk A) → Walk A) (r : ℕ → Result (X × ℕ) Fault) (q : List ℕ → Result (X × ℕ) FieldFault) (size : ℕ) (law : Entry code bytes e r q size) where
  -- what comes after looks at no place before it
  abbrev pub Free : (List X → Walk A) → Type 0
  Free k = (xs : List X) (dv fd dv' fd' at : ℕ) → run code bytes (k xs) dv fd at ≡ run code bytes (k xs) dv' fd' at

  pub free_list : (n : ℕ) (k : List X → Walk A) → Free k → (dv fd dv' fd' at : ℕ) → run code bytes (list e n k) dv fd at ≡ run code bytes (list e n k) dv' fd' at
  free_list zero k free dv fd dv' fd' at = free [] dv fd dv' fd' at
  free_list (suc n) k free dv fd dv' fd' at =
      let on : (x : X) (dv fd dv' fd' at : ℕ) → run code bytes (list e n (λ xs. k (x ∷ xs))) dv fd at ≡ run code bytes (list e n (λ xs. k (x ∷ xs))) dv' fd' at
      = λ x. free_list n (λ xs. k (x ∷ xs)) (λ xs. free (x ∷ xs)) in
      law.runs (λ x. list e n (λ xs. k (x ∷ xs))) on dv fd dv fd at ∙ sym (law.runs (λ x. list e n (λ xs. k (x ∷ xs))) on dv' fd' dv fd at)

  -- the walk over a list is the tests of its entries, and what stands there
  pub walked : (n : ℕ) (k : List X → Walk A) → Free k → (dv fd dv' fd' at : ℕ)
      → run code bytes (list e n k) dv fd at ≡ then (list_end r n at) (λ end. run code bytes (k (list_in q n (drop at bytes))) dv' fd' end)
  walked zero k free dv fd dv' fd' at = free [] dv fd dv' fd' at
  walked (suc n) k free dv fd dv' fd' at =
      law.runs (λ x. list e n (λ xs. k (x ∷ xs))) (λ x. free_list n (λ xs. k (x ∷ xs)) (λ xs. free (x ∷ xs))) dv fd dv' fd' at
      ∙ go (r at) refl (λ a. walked n (λ xs. k (a.0 ∷ xs)) (λ xs. free (a.0 ∷ xs)) dv' fd' dv' fd' (at + a.1))
    where
      go : (y : Result (X × ℕ) Fault) → r at ≡ y
          → ((a : X × ℕ) → run code bytes (list e n (λ xs. k (a.0 ∷ xs))) dv' fd' (at + a.1) ≡ then (list_end r n (at + a.1)) (λ end. run code bytes (k (a.0 ∷ list_in q n (drop (at + a.1) bytes))) dv' fd' end))
          → then y (λ a. run code bytes (list e n (λ xs. k (a.0 ∷ xs))) dv' fd' (at + a.1))
          ≡ then (then y (λ a. list_end r n (at + a.1))) (λ end. run code bytes (k (while_read (q (drop at bytes)) (λ a. a.0 ∷ list_in q n (drop a.1 (drop at bytes))))) dv' fd' end)
      go (Ok a) h ih = rw (law.reads at a h, drop-drop a.1 at bytes) (ih a)
      go (Err f) h ih = refl

  -- where a list ends
  pub end_is : (n at end : ℕ) → list_end r n at ≡ Ok end → end ≡ at + n * size
  end_is zero at end h = let s : at ≡ end = cc in omega arith
  end_is (suc n) at end h = go (r at) refl h (λ a i. end_is n (at + a.1) end i)
    where
      go : (y : Result (X × ℕ) Fault) → r at ≡ y → then y (λ a. list_end r n (at + a.1)) ≡ Ok end
          → ((a : X × ℕ) → list_end r n (at + a.1) ≡ Ok end → end ≡ at + a.1 + n * size) → end ≡ at + suc n * size
      go (Ok a) d h ih = omega (arith, ih a h, law.sized at a d, suc-mul n size)
      go (Err f) d h ih = let z : ◌≡◌ {A = ℕ} 0 1 = cc in omega arith
