-- A write to a storage gives its point the value, no other point another one, and keeps what holds no point.
use Rattle.std.proofs.Common.{◌≡◌, ℕ, ◌+◌, ◌<◌, ◌≤◌, Bool, true, false, cond, ◌&&◌, eqb, ltb, List, [], ◌∷◌, length, Ok, Err, Result, sym, refl, ap, ◌∙◌, subst, inl, inr, ⊎_elim, arith}
use Rattle.std.proofs.lemmas.Bool.{cases_eq, cases_lt, cases_order, eq-eqb, ne_eqb, lt-ltb, le-ltb, ltb-true, cond-true, cond-false}
use Rattle.device.specs.declared.types.Device.{Device}
use Rattle.device.specs.Devices.{kind_of, place_of}
use Rattle.device.proofs.Places.{place_one}
use Rattle.memory.specs.Meaning.{value_limit, put, written, write_answer}
use Rattle.memory.specs.Layout.{start, room, width, extent_in, index_of}
use Rattle.memory.specs.Stored.{point_in, with_point, value_in, stored, units_after, admitted, PointPut, units_put}
use Rattle.memory.specs.Leaving.{Write, Leads}
use Rattle.memory.specs.Kept.{Kept}
use Rattle.memory.specs.declared.layout.Form.{Form}
use Rattle.memory.specs.declared.refusal.Refusal.{Refusal}
use Rattle.memory.specs.declared.refusal.Refusal.TheVariants.{Outside, Closed, TooWide}
use Rattle.memory.proofs.Starts.{apart, index_room}
use Rattle.memory.proofs.Units.{own, far, beside, unheld, with_long}

inside : (f : Form) (us es : List ℕ) (e : Device) (k : ℕ) → k < extent_in es e → value_in f us es e k ≡ point_in f (kind_of e) us (index_of f es e k) k
inside f us es e k h = cond-true _ _ _ (lt-ltb k _ h)

outside : (f : Form) (us es : List ℕ) (e : Device) (k : ℕ) → extent_in es e ≤ k → value_in f us es e k ≡ 0
outside f us es e k h = cond-false _ _ _ (le-ltb k _ h)

module _ (f : Form) (us es : List ℕ) (d : Device) (n v : ℕ) (h : n < extent_in es d) (fits : room f es ≤ length us) (narrow : v < value_limit (kind_of d)) where
  -- the units after the write
  abbrev after : List ℕ
  after = with_point f (kind_of d) us (index_of f es d n) n v

  enough : index_of f es d n + width f (kind_of d) ≤ length us
  enough = omega (arith, index_room f es d n h)

  -- a point of the same device
  put_own : (k : ℕ) → value_in f after es d k ≡ cond (eqb n k) v (value_in f us es d k)
  put_own k =
      ⊎_elim
      (λ (p : k < extent_in es d).
      ⊎_elim
      (λ (e : n ≡ k).
      subst (λ (m : ℕ). value_in f after es d m ≡ cond (eqb n m) v (value_in f us es d m)) e
      (inside f after es d n h ∙ own f (kind_of d) us (index_of f es d n) n v enough narrow ∙ sym (cond-true _ _ _ (eq-eqb n n refl))))
      (λ (ne : n ≡ k → ⊥).
      inside f after es d k p
      ∙ beside f (kind_of d) us (start f es (place_of d)) n k v enough narrow ne
      ∙ sym (inside f us es d k p)
      ∙ sym (cond-false _ _ _ (ne_eqb n k ne)))
      (cases_eq n k))
      (λ (p : extent_in es d ≤ k).
      outside f after es d k p ∙ sym (outside f us es d k p) ∙ sym (cond-false _ _ _ (ne_eqb n k (λ e. omega arith))))
      (cases_lt k (extent_in es d))

  -- a point of another device
  put_other : (e : Device) (k : ℕ) → (place_of d ≡ place_of e → ⊥) → value_in f after es e k ≡ value_in f us es e k
  put_other e k ne =
      ⊎_elim
      (λ (p : k < extent_in es e).
      inside f after es e k p
      ∙ far f (kind_of d) (kind_of e) us (index_of f es d n) n v (index_of f es e k) k
      (⊎_elim (λ (a : place_of d ≡ place_of e). absurd (ne a)) (λ o. ⊎_elim (λ a. inl (apart f es d e n k h a)) (λ a. inr (apart f es e d k n p a)) o) (cases_order (place_of d) (place_of e)))
      ∙ sym (inside f us es e k p))
      (λ (p : extent_in es e ≤ k). outside f after es e k p ∙ sym (outside f us es e k p))
      (cases_lt k (extent_in es e))

  put_in : (e : Device) (k : ℕ) → value_in f after es e k ≡ put (value_in f us es) d n v e k
  put_in e k =
      ⊎_elim
      (λ (p : place_of d ≡ place_of e).
      subst (λ (x : Device). value_in f after es x k ≡ put (value_in f us es) d n v x k) (place_one d e p)
      (put_own k ∙ ap (λ (b : Bool). cond (b && eqb n k) v (value_in f us es d k)) (sym (eq-eqb (place_of d) (place_of d) refl))))
      (λ (p : place_of d ≡ place_of e → ⊥).
      put_other e k p ∙ ap (λ (b : Bool). cond (b && eqb n k) v (value_in f us es e k)) (sym (ne_eqb (place_of d) (place_of e) p)))
      (cases_eq (place_of d) (place_of e))

  pub written_in : stored f after es ≡ written (Ok tt) (stored f us es) d n v
  written_in i = record { extent = extent_in es; value = λ e k. put_in e k i; opened = λ e k. ltb k (extent_in es e) }

  pub kept_in : Kept f es us after
  kept_in =
      record {
        long = with_long f (kind_of d) us (index_of f es d n) n v;
        spare = λ j k b s. unheld f (kind_of d) us (index_of f es d n) n v j k enough narrow b (λ o. s d n h o);
      }

-- an answer Ok passed both tests
passed : (a b : Bool) → ◌≡◌ {A = Result (Unit {0}) Refusal} (cond a (cond a (cond b (Ok tt) (Err TooWide)) (Err Closed)) (Err Outside)) (Ok tt) → (a ≡ true) × (b ≡ true)
passed true true e = (refl, refl)
passed true false e = let z : ◌≡◌ {A = ℕ} 0 1 = cc in absurd (omega arith)
passed false b e = let z : ◌≡◌ {A = ℕ} 0 1 = cc in absurd (omega arith)

-- no open point is refused as closed
never_closed : (a : Bool) (x y z : Result (Unit {0}) Refusal) → cond a x z ≡ cond a (cond a x y) z
never_closed true x y z = refl
never_closed false x y z = refl

-- what a write leaves, by its answer and the units after it
module _ (f : Form) (us es : List ℕ) (d : Device) (n v : ℕ) (fits : room f es ≤ length us) (r : Result (Unit {0}) Refusal) (answer : r ≡ admitted d (extent_in es d) n v) where
  pub wrote_answer : r ≡ write_answer (stored f us es) d n v
  wrote_answer = answer ∙ never_closed (ltb n (extent_in es d)) _ _ _

  pub went : r ≡ Ok tt → (n < extent_in es d) × (v < value_limit (kind_of d))
  went e = let p = passed (ltb n (extent_in es d)) (ltb v (value_limit (kind_of d))) (sym wrote_answer ∙ e) in (ltb-true _ _ p.0, ltb-true _ _ p.1)

  meaning_after : (q : Result (Unit {0}) Refusal) → r ≡ q → stored f (units_after f q us es d n v) es ≡ written q (stored f us es) d n v
  meaning_after (Ok _) e = let w = went e in written_in f us es d n v w.0 fits w.1
  meaning_after (Err x) e = refl

  kept_after : (q : Result (Unit {0}) Refusal) → r ≡ q → Kept f es us (units_after f q us es d n v)
  kept_after (Ok _) e = let w = went e in kept_in f us es d n v w.0 fits w.1
  kept_after (Err x) e = record { long = refl; spare = λ j k b s. refl }

  pub wrote_meaning : {es' us' : List ℕ} → es' ≡ es → us' ≡ units_after f r us es d n v → stored f us' es' ≡ written r (stored f us es) d n v
  wrote_meaning p q = rw (p, q) (meaning_after r refl)

-- a write that was answered so keeps what holds no point
pub wrote_kept : (f : Form) (us es : List ℕ) (d : Device) (n v : ℕ) → room f es ≤ length us → (r : Result (Unit {0}) Refusal) → r ≡ write_answer (stored f us es) d n v
    → {us' : List ℕ} → us' ≡ units_after f r us es d n v → Kept f es us us'
wrote_kept f us es d n v fits r answer e =
    let admits : r ≡ admitted d (extent_in es d) n v = answer ∙ sym (never_closed (ltb n (extent_in es d)) _ _ _) in
    rw e (kept_after f us es d n v fits r admits r refl)

-- the same with the units and the extents before under other names
pub kept_as : (f : Form) {es es' us us' vs : List ℕ} → es ≡ es' → us ≡ us' → Kept f es us vs → Kept f es' us' vs
kept_as f {es = es} {us' = us'} {vs = vs} p q k = subst (λ e. Kept f e us' vs) p (subst (λ u. Kept f es u vs) q k)

kept_on : (f : Form) (es us vs ws : List ℕ) → Kept f es us vs → Kept f es vs ws → Kept f es us ws
kept_on f es us vs ws x y = record { long = y.long ∙ x.long; spare = λ j k b s. y.spare j k b s ∙ x.spare j k b s }

-- writes that were carried out one after the other: they leave the place, the extents, exactly the units that they make, and whatever holds no point
pub record AllPut (f : Form) (a : ℕ) (es us : List ℕ) (ws : List Write) (a' : ℕ) (es' us' : List ℕ) : Type 0 where
  pub place : a' ≡ a
  pub extents : es' ≡ es
  pub units : us' ≡ units_put f es us ws
  pub kept : Kept f es us us'

pub all_put : {S : Type 0} (f : Form) (name : S → ℕ) (es ss us : S → List ℕ) → ((s : S) → room f (es s) ≤ length (us s)) → (ws : List Write) (s t : S)
    → Leads (λ s d n v t. PointPut f d n v (name s) (es s) (ss s) (us s) (name t) (es t) (ss t) (us t)) s ws t
    → AllPut f (name s) (es s) (us s) ws (name t) (es t) (us t)
all_put f name es ss us fits [] s t e =
    record { place = ap name e; extents = ap es e; units = ap us e; kept = subst (Kept f (es s) (us s)) (sym (ap us e)) (record { long = refl; spare = λ j k b s. refl }) }
all_put f name es ss us fits (w ∷ ws) s t e =
    let p = e.1 in
    let r = all_put f name es ss us fits ws e.0 t e.2 in
    let one : Kept f (es s) (us s) (us e.0) = subst (Kept f (es s) (us s)) (sym p.units) (kept_in f (us s) (es s) w.0 w.1 w.2 p.inside (fits s) p.narrow) in
    let rest : Kept f (es s) (us e.0) (us t) = subst (λ x. Kept f x (us e.0) (us t)) p.extents r.kept in
    record {
      place = r.place ∙ p.place;
      extents = r.extents ∙ p.extents;
      units = r.units ∙ (λ i. units_put f (p.extents i) (p.units i) ws);
      kept = kept_on f (es s) (us s) (us e.0) (us t) one rest;
    }
