-- One call more of a list, and the end of a list.
use Rattle.std.proofs.Common.{◌≡◌, ℕ, zero, suc, ◌+◌, ◌⊎◌, inl, inr, Bool, true, List, [], ◌∷◌, ◌++◌, take, drop, is_none, is_some, Some, None, Option, sym, refl, ap, ◌∙◌, subst, add-one, drop-drop}
use Rattle.memory.specs.Meaning.{Meaning}
use Rattle.wire.specs.declared.code.Code.{Code}
use Rattle.frame.specs.declared.fault.Fault.{Fault}
use Rattle.server.specs.Registered.{Listed}
use Rattle.history.specs.declared.call.Call.{Call}
use Rattle.history.specs.declared.call.Call.TheVariants.{Frame, Set, Open, End}
use Rattle.history.specs.declared.call.Outcome.{Outcome}
use Rattle.server.proofs.Onward.{carries_on}
use Rattle.server.specs.Histories.{Aside, Lawful, Move, Ran, Reached, Shown, State, after, closed, ending, frame, no_window, opening, outcome, step, taken, window}
use Rattle.std.specs.Prelude.{vec_len, vec_items}
use Rattle.std.specs.Global.{Vec}
use Rattle.history.specs.Moves.{SoFar, Left, StaysIn, move, moves, showing, showings}
use Rattle.server.specs.Kept.{CarriesOn}

-- a state, and what stands aside within a window
abbrev pub state : Meaning → Bool → Aside → Option Listed → State
state m flag w g = record { meaning = m; flag = flag; registered = g; aside = w }

abbrev pub within : Bool → Aside
within was = record { before = Some was }

-- the call that is left first of a list is the next that is taken
pub take_next : (all : List Move) (k : ℕ) (m : Move) (rest : List Move) → drop k all ≡ m ∷ rest → take (suc k) all ≡ take k all ++ m ∷ []
take_next [] zero m rest e = cc
take_next [] (suc k) m rest e = cc
take_next (x ∷ xs) zero m rest e = let is : x ≡ m = cc in ap (λ y. y ∷ []) is
take_next (x ∷ xs) (suc k) m rest e = ap (λ l. x ∷ l) (take_next xs k m rest e)

drop_next : (all : List Move) (k : ℕ) (m : Move) (rest : List Move) → drop k all ≡ m ∷ rest → drop (k + 1) all ≡ rest
drop_next all k m rest e = sym (drop-drop 1 k all) ∙ ap (drop 1) e

map_on : (os : List Outcome) (o : Outcome) → showings (os ++ o ∷ []) ≡ showings os ++ showing o ∷ []
map_on [] o = refl
map_on (p ∷ os) o = ap (λ l. showing p ∷ l) (map_on os o)

-- one call more of a list is carried out, the first of those that are left
pub one_more : (s₀ : State) (all : List Move) (k k' : ℕ) (d : Call) (m : Move) (cs cs' : List Call) (os os' : List Outcome) (o : Outcome) (s s' : State)
    → k' ≡ k + 1 → cs ≡ d ∷ cs' → move d ≡ m → os' ≡ os ++ o ∷ [] → CarriesOn s m (showing o) s'
    → Left all k cs → Reached s₀ (take k all) (showings os) s → Reached s₀ (take k' all) (showings os') s'
one_more s₀ all k k' d m cs cs' os os' o s s' next here named more one left so_far =
    let first : drop k all ≡ m ∷ moves cs' = left ∙ ap moves here ∙ ap (λ n. n ∷ moves cs') named in
    let to : take k' all ≡ take k all ++ m ∷ [] = ap (λ n. take n all) (next ∙ add-one k) ∙ take_next all k m (moves cs') first in
    let outs : showings os' ≡ showings os ++ showing o ∷ [] = ap showings more ∙ map_on os o in
    let r = (one s₀ (take k all) (showings os) so_far).reached in
    subst (λ l. Reached s₀ l (showings os') s') (sym to) (subst (λ l. Reached s₀ (take k all ++ m ∷ []) l s') (sym outs) r)

-- and the others are left then
pub left_on : (all : List Move) (k k' : ℕ) (d : Call) (cs cs' : List Call) → k' ≡ k + 1 → cs ≡ d ∷ cs' → Left all k cs → Left all k' cs'
left_on all k k' d cs cs' next here left = ap (λ n. drop n all) next ∙ drop_next all k (move d) (moves cs') (left ∙ ap moves here)

-- both
pub so_far_on : (s₀ : State) (all : List Move) (k : ℕ) (d : Call) (m : Move) (cs cs' : List Call) (os : List Outcome) (v : Vec Outcome) (o : Outcome) (s s' : State)
    → vec_len v ≡ k + 1 → cs ≡ d ∷ cs' → move d ≡ m → vec_items v ≡ os ++ o ∷ [] → CarriesOn s m (showing o) s'
    → Left all k cs → Reached s₀ (take k all) (showings os) s → SoFar s₀ all cs' v s'
so_far_on s₀ all k d m cs cs' os v o s s' next here named more one left so_far =
    record { left = left_on all k (vec_len v) d cs cs' next here left; reached = one_more s₀ all k (vec_len v) d m cs cs' os (vec_items v) o s s' next here named more one left so_far }

-- the flag under another name
pub with_flag : (m m' : Meaning) (flag flag' : Bool) (b : Aside) (g g' : Option Listed) (c : Move) (o : Shown) → flag ≡ flag'
    → CarriesOn (state m flag b g) c o (state m' flag b g') → CarriesOn (state m flag' b g) c o (state m' flag' b g')
with_flag m m' flag flag' b g g' c o e one = subst (λ f. CarriesOn (state m f b g) c o (state m' f b g')) e one

-- a frame with the reply space under other names, before and after
pub other_space : (s s' : State) (code : Code) (xs before space after all : List ℕ) (t n : ℕ) {f : Option Fault} → before ≡ space → all ≡ after
    → CarriesOn s (frame code xs before) (taken t n f after) s' → CarriesOn s (frame code xs space) (taken t n f all) s'
other_space s s' code xs before space after all t n {f = f} p q one =
    subst (λ x. CarriesOn s (frame code xs x) (taken t n f all) s') p (subst (λ x. CarriesOn s (frame code xs before) (taken t n f x) s') (sym q) one)

-- a call that shows what is fixed, and leaves what is fixed
pub fixed_as : (s : State) (m : Move) (o : Shown) → o ≡ outcome s m → CarriesOn s m o (step s m)
fixed_as s m o e = carries_on s m o (step s m) e refl

-- an opening within a window and an ending outside one are declined
module _ (m : Meaning) (flag : Bool) (g : Option Listed) (o : Outcome) (shows : showing o ≡ window None) where
  declines_open : (b : Option Bool) → is_some b ≡ true → CarriesOn (state m flag (record { before = b }) g) opening (showing o) (state m flag (record { before = b }) g)
  declines_open None e = cc
  declines_open (Some was) e = fixed_as _ _ _ shows

  declines_end : (b : Option Bool) → is_none b ≡ true → CarriesOn (state m flag (record { before = b }) g) ending (showing o) (state m flag (record { before = b }) g)
  declines_end None e = fixed_as _ _ _ shows
  declines_end (Some was) e = cc

  pub declines : (c : Call) → (c ≡ Open) ⊎ (c ≡ End) → (b : Aside) → StaysIn (move c) b → CarriesOn (state m flag b g) (move c) (showing o) (state m flag b g)
  declines c (inl e) b stays = subst (λ k. CarriesOn (state m flag b g) k (showing o) (state m flag b g)) (sym (ap move e)) (declines_open b.before (subst (λ k. StaysIn k b) (ap move e) stays))
  declines c (inr e) b stays = subst (λ k. CarriesOn (state m flag b g) k (showing o) (state m flag b g)) (sym (ap move e)) (declines_end b.before (subst (λ k. StaysIn k b) (ap move e) stays))

-- within a window any call but an ending stays in it, and outside any but an opening stays outside
pub stays_in : (was : Bool) (c : Call) → (c ≡ End → ⊥) → StaysIn (move c) (within was)
stays_in was (Frame code bytes space) h = tt
stays_in was (Set d n v) h = tt
stays_in was Open h = refl
stays_in was End h = absurd (h refl)

pub stays_out : (c : Call) → (c ≡ Open → ⊥) → StaysIn (move c) no_window
stays_out (Frame code bytes space) h = tt
stays_out (Set d n v) h = tt
stays_out Open h = absurd (h refl)
stays_out End h = refl

-- the flag before a window under another name
pub with_was : (s₀ : State) (ms : List Move) (os : List Shown) (m : Meaning) (was was' : Bool) (g : Option Listed) → was ≡ was'
    → Reached s₀ ms os (state m true (within was) g) → Reached s₀ ms os (state m true (within was') g)
with_was s₀ ms os m was was' g e r = subst (λ w. Reached s₀ ms os (state m true (within w) g)) e r

-- the ending of a window, which shows the flag that it puts back
pub ending_carries : (m : Meaning) (was flag : Bool) (g : Option Listed) (o : Outcome) → was ≡ flag → showing o ≡ window (Some was) → CarriesOn (state m true (within was) g) ending (showing o) (state m flag no_window g)
ending_carries m was flag g o e shows = carries_on _ _ _ _ shows (ap (λ f. state m f no_window g) (sym e))

-- the opening of a window, by the flag under either of its names
pub opening_carries : (m : Meaning) (flag was : Bool) (g : Option Listed) (o : Outcome) → was ≡ flag → showing o ≡ window (Some true) → CarriesOn (state m flag no_window g) opening (showing o) (state m true (within was) g)
opening_carries m flag was g o e shows = carries_on _ _ _ _ shows (ap (λ f. state m true (within f) g) e)

-- what was left under another name of the flag
pub ran_flag : (s₀ : State) (ms : List Move) (os : List Shown) (m : Meaning) (flag flag' : Bool) (g : Option Listed) → flag ≡ flag' → Ran s₀ ms os (state m flag no_window g) → Ran s₀ ms os (state m flag' no_window g)
ran_flag s₀ ms os m flag flag' g e r = subst (λ f. Ran s₀ ms os (state m f no_window g)) e r

pub reached_flag : (s₀ : State) (ms : List Move) (os : List Shown) (m : Meaning) (flag flag' : Bool) (g : Option Listed) → flag ≡ flag' → Reached s₀ ms os (state m flag no_window g) → Reached s₀ ms os (state m flag' no_window g)
reached_flag s₀ ms os m flag flag' g e r = subst (λ f. Reached s₀ ms os (state m f no_window g)) e r

-- the end of a list changes nothing where no window is open
pub at_rest : (s₀ : State) (ms : List Move) (os : List Shown) (m : Meaning) (flag : Bool) (g : Option Listed) → Reached s₀ ms os (state m flag no_window g) → Ran s₀ ms os (state m flag no_window g)
at_rest s₀ ms os m flag g r = record { lawful = r.lawful; showed = r.showed; left = ap (λ s. closed s) r.led }

-- where nothing was carried out
pub none_ran : (m : Meaning) → Lawful m → (flag : Bool) (g : Option Listed) (cs : List Call) (n : ℕ) (os : List Outcome) → n ≡ 0 → os ≡ []
    → Ran (state m flag no_window g) (take n (moves cs)) (showings os) (state m flag no_window g)
none_ran m lawful flag g cs n os z e =
    let P : ℕ → List Outcome → Type 0 = λ k l. Ran (state m flag no_window g) (take k (moves cs)) (showings l) (state m flag no_window g) in
    subst (λ k. P k os) (sym z) (subst (P 0) (sym e) (record { lawful = lawful; showed = refl; left = refl }))
