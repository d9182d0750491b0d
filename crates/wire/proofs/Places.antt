-- What stands in a list after a run of values was stored into it.
use Rattle.std.proofs.Common.{◌≡◌, ℕ, suc, ◌+◌, ◌<◌, ◌≤◌, ◌≢◌, List, [], ◌∷◌, ◌++◌, length, get_or, take, drop, set, sym, refl, ap, ◌∙◌, append_assoc, arith, length-take, drop_at, drop-drop, append-nil}
use Rattle.std.proofs.lemmas.List.{drop_all, get_or-take, get_or-drop}
use lib.Seq.{sets, sets-eq, set_comm}
use borrow.Rule.Slice.PartMut.{put_mid}

-- from the place of a store on there are its values and then what was behind them
pub drop_sets : (out : List ℕ) (at : ℕ) (vs : List ℕ) → at + length vs ≤ length out → drop at (sets out at vs) ≡ vs ++ drop (at + length vs) out
drop_sets out at vs fits =
    let front : length (take at out) ≡ at = simp length-take (omega arith) in
    let behind = drop (at + length vs) out in
    ap (drop at) (sets-eq vs out at fits ∙ append_assoc (take at out) vs behind) ∙ drop_at (take at out) (vs ++ behind) at front

-- a value stored below a run is stored first
pub set_sets : (out : List ℕ) (at p v : ℕ) (vs : List ℕ) → p < at → set (sets out at vs) p v ≡ sets (set out p v) at vs
set_sets out at p v [] h = refl
set_sets out at p v (x ∷ xs) h =
    let other : at ≢ p = omega arith in
    set_sets (set out at x) (suc at) p v xs (omega arith) ∙ ap (λ l. sets l (suc at) xs) (set_comm out at p x v other)

-- a run behind another is one run
pub sets_sets : {A : Type 0} (out : List A) (at n : ℕ) (us vs : List A) → length us ≡ n → sets (sets out at us) (at + n) vs ≡ sets out at (us ++ vs)
sets_sets out at n [] vs e =
    let here : at + n ≡ at = omega arith in
    ap (λ k. sets out k vs) here
sets_sets out at n (u ∷ us) vs e =
    let on : at + n ≡ suc at + length us = omega (arith, sym e) in
    ap (λ k. sets (sets (set out at u) (suc at) us) k vs) on ∙ sets_sets (set out at u) (suc at) (length us) us vs refl

-- a part that holds the values of a run
pub part_sets : {A : Type 0} (out : List A) (at k : ℕ) (vs ys : List A) → length vs ≡ k → at + k ≤ length out → ys ≡ vs → put_mid at k out ys ≡ sets out at vs
part_sets out at k vs ys long fits e =
    let behind : drop k (drop at out) ≡ drop (at + length vs) out = simp drop-drop (ap (λ n. drop n out) (omega arith)) in
    rw e (ap (λ l. take at out ++ (vs ++ l)) behind ∙ sym (append_assoc (take at out) vs (drop (at + length vs) out)) ∙ sym (sets-eq vs out at (omega arith)))

-- a run stored over all of a list is that list
pub sets_all : {A : Type 0} (vs out : List A) → length vs ≡ length out → sets out 0 vs ≡ vs
sets_all vs out e = sets-eq vs out 0 (omega arith) ∙ ap (λ l. vs ++ l) (drop_all (0 + length vs) out (omega arith)) ∙ append-nil vs

-- what stands in a part of a list
pub part_at : {A : Type 0} (xs : List A) (at k i : ℕ) (d : A) → i < k → get_or (take k (drop at xs)) i d ≡ get_or xs (at + i) d
part_at xs at k i d h = get_or-take k (drop at xs) i d h ∙ get_or-drop at xs i d
