-- One record more of a sheet: what is left of a run is the whole run.
use Rattle.std.proofs.Common.{◌≡◌, ℕ, zero, suc, ◌+◌, ◌-◌, ◌<◌, Bool, true, false, cond, eqb, List, [], ◌∷◌, length, take, drop, Some, None, Ok, Err, Option, sym, refl, ap, ◌∙◌, subst, arith}
use Rattle.std.proofs.lemmas.Bool.{eqb-false, ne_eqb}
use Rattle.memory.specs.Meaning.{Meaning}
use Rattle.memory.specs.Leaving.{Leaving, Leads}
use Rattle.wire.specs.declared.code.Code.{Code}
use Rattle.frame.specs.declared.fault.Fault.{Fault}
use Rattle.server.specs.declared.answer.Answer.{Answer}
use Rattle.server.specs.Registered.{Listed}
use Rattle.server.specs.Serves.{served, Came}
use Rattle.server.specs.Histories.{Aside, frame, State, step, made_by, made_through}
use Rattle.history.proofs.Onward.{state}
use Rattle.server.proofs.Trying.{leads_on}
use Rattle.sheet.specs.declared.run.Reason.{Reason}
use Rattle.sheet.specs.declared.run.Reason.TheVariants.{Finished, Cancelled, Stopped}
use Rattle.sheet.specs.Records.{record_bytes, tested_record}
use Rattle.sheet.specs.Runs.{Run, Rest, ended_by, stop, calling, replied, frame_taken, with_record, at_end, over_at, records}
use Rattle.sheet.proofs.Tests.{part}

-- a run that is over before a record
pub over_here : (code : Code) (sheet : List ℕ) (n at count : ℕ) (space : List ℕ) (s : State) (why : Reason) → Some why ≡ over_at sheet at n → ended_by why count at space s ≡ (records code sheet n at count space s).end
unfolding records
over_here code sheet zero at count space s why e = go (at_end sheet at) e
  where
    go : (v : Bool) → Some why ≡ cond v (Some Finished) (Some Cancelled) → ended_by why count at space s ≡ (cond v (stop Finished count at space s) (stop Cancelled count at space s)).end
    go true h = let is : why ≡ Finished = cc in ap (λ x. ended_by x count at space s) is
    go false h = let is : why ≡ Cancelled = cc in ap (λ x. ended_by x count at space s) is
over_here code sheet (suc n) at count space s why e = go (at_end sheet at) _ (e ∙ ap (λ w. cond (at_end sheet at) (Some Finished) (cond w (Some Cancelled) None)) (ne_eqb (suc n) 0 (λ z. omega arith)))
  where
    go : (v : Bool) (r : Run) → Some why ≡ cond v (Some Finished) None → ended_by why count at space s ≡ (cond v (stop Finished count at space s) r).end
    go true r h = let is : why ≡ Finished = cc in ap (λ x. ended_by x count at space s) is
    go false r h = let z : ◌≡◌ {A = ℕ} 0 1 = cc in absurd (omega arith)

-- a run that goes on has a record left and a frame allowed
goes_on : (sheet : List ℕ) (at n : ℕ) → None ≡ over_at sheet at n → (at_end sheet at ≡ false) × (eqb n 0 ≡ false)
goes_on sheet at n e = go (at_end sheet at) (eqb n 0) e
  where
    go : (v w : Bool) → None ≡ cond v (Some Finished) (cond w (Some Cancelled) None) → (v ≡ false) × (w ≡ false)
    go true w h = let z : ◌≡◌ {A = ℕ} 0 1 = cc in absurd (omega arith)
    go false true h = let z : ◌≡◌ {A = ℕ} 0 1 = cc in absurd (omega arith)
    go false false h = (refl, refl)

pub more : (sheet : List ℕ) (at cancel count : ℕ) → None ≡ over_at sheet at (cancel - count) → count < cancel
more sheet at cancel count e =
    let some = eqb-false (cancel - count) 0 (goes_on sheet at (cancel - count) e).1 in
    omega arith

-- then the record is tested
tests_one : (code : Code) (sheet : List ℕ) (n at count : ℕ) (space : List ℕ) (s : State) → at_end sheet at ≡ false
    → with_record (tested_record code (length space) sheet at) code sheet (records code sheet n) at count space s ≡ records code sheet (suc n) at count space s
unfolding records
tests_one code sheet n at count space s left = rw left

tests : (code : Code) (sheet : List ℕ) (cancel at count : ℕ) (space : List ℕ) (s : State) → None ≡ over_at sheet at (cancel - count)
    → with_record (tested_record code (length space) sheet at) code sheet (records code sheet (cancel - (count + 1))) at count space s ≡ records code sheet (cancel - count) at count space s
tests code sheet cancel at count space s e =
    let lt = more sheet at cancel count e in
    let less : suc (cancel - (count + 1)) ≡ cancel - count = omega arith in
    tests_one code sheet (cancel - (count + 1)) at count space s (goes_on sheet at (cancel - count) e).0 ∙ ap (λ n. records code sheet n at count space s) less

-- a record that fails a test
pub refused : (code : Code) (sheet : List ℕ) (cancel at count : ℕ) (space : List ℕ) (s : State) (f : Fault) → None ≡ over_at sheet at (cancel - count) → Err f ≡ tested_record code (length space) sheet at
    → ended_by (Stopped f) count at space s ≡ (records code sheet (cancel - count) at count space s).end
refused code sheet cancel at count space s f e t =
    ap (λ r. (with_record r code sheet (records code sheet (cancel - (count + 1))) at count space s).end) t
    ∙ ap (λ r. r.end) (tests code sheet cancel at count space s e)

-- what a frame's answer says goes on
came : (code : Code) (bytes : List ℕ) (rest : Rest) (behind count : ℕ) (space space' : List ℕ) (m m' : Meaning) (flag : Bool) (b : Aside) (g g' : Option Listed) (a : Answer)
    → Came (served code bytes (length space) m flag g) a space space' m' g'
    → calling (frame code bytes space) (replied a.fault rest behind count space' (state m' flag b g')) ≡ frame_taken code bytes rest behind count space (state m flag b g)
came code bytes rest behind count space space' m m' flag b g g' a c =
    λ i. calling (frame code bytes space) (replied (c.tells.meets i) rest behind count (c.tells.reply i) (state (c.means i) flag b (c.lists i)))

-- one turn, by what `take_frame` ensures: the frame is a call of the run, and then comes the rest of it
pub turn : (code : Code) (sheet : List ℕ) (cancel at count size : ℕ) (space space' : List ℕ) (m m' : Meaning) (flag : Bool) (b : Aside) (g g' : Option Listed) (a : Answer) (q : Option Fault)
    → None ≡ over_at sheet at (cancel - count) → Ok size ≡ tested_record code (length space) sheet at
    → Came (served code (take (at + 2 + size - (at + 2)) (drop (at + 2) sheet)) (length space) m flag g) a space space' m' g' → a.fault ≡ q
    → calling (frame code (record_bytes sheet at size) space) (replied q (records code sheet (cancel - (count + 1))) (at + 2 + size) count space' (state m' flag b g'))
    ≡ records code sheet (cancel - count) at count space (state m flag b g)
turn code sheet cancel at count size space space' m m' flag b g g' a q e t c is =
    let rest = records code sheet (cancel - (count + 1)) in
    let c' = subst (λ xs. Came (served code xs (length space) m flag g) a space space' m' g') (part sheet at size) c in
    ap (λ r. calling (frame code (record_bytes sheet at size) space) (replied r rest (at + 2 + size) count space' (state m' flag b g'))) (sym is)
    ∙ came code (record_bytes sheet at size) rest (at + 2 + size) count space space' m m' flag b g g' a c'
    ∙ ap (λ r. with_record r code sheet rest at count space (state m flag b g)) t
    ∙ tests code sheet cancel at count space (state m flag b g) e

-- a run that is over makes no call more
over_calls : (code : Code) (sheet : List ℕ) (n at count : ℕ) (space : List ℕ) (s : State) (why : Reason) → Some why ≡ over_at sheet at n → (records code sheet n at count space s).calls ≡ []
unfolding records
over_calls code sheet zero at count space s why e = go (at_end sheet at)
  where
    go : (v : Bool) → (cond v (stop Finished count at space s) (stop Cancelled count at space s)).calls ≡ []
    go true = refl
    go false = refl
over_calls code sheet (suc n) at count space s why e = go (at_end sheet at) _ (e ∙ ap (λ w. cond (at_end sheet at) (Some Finished) (cond w (Some Cancelled) None)) (ne_eqb (suc n) 0 (λ z. omega arith)))
  where
    go : (v : Bool) (r : Run) → Some why ≡ cond v (Some Finished) None → (cond v (stop Finished count at space s) r).calls ≡ []
    go true r h = refl
    go false r h = let z : ◌≡◌ {A = ℕ} 0 1 = cc in absurd (omega arith)

-- nor does one whose next record fails a test
refused_calls : (code : Code) (sheet : List ℕ) (cancel at count : ℕ) (space : List ℕ) (s : State) (f : Fault) → None ≡ over_at sheet at (cancel - count) → Err f ≡ tested_record code (length space) sheet at
    → (records code sheet (cancel - count) at count space s).calls ≡ []
refused_calls code sheet cancel at count space s f e t =
    ap (λ r. r.calls) (sym (tests code sheet cancel at count space s e))
    ∙ ap (λ r. (with_record r code sheet (records code sheet (cancel - (count + 1))) at count space s).calls) (sym t)

-- where what is left of a run leads the memory, the whole run leads it
module _ {S : Type 0} (leaves : Leaving S) (code : Code) (sheet : List ℕ) where
  -- from here, with so many frames allowed
  abbrev pub LedRest : ℕ → ℕ → ℕ → List ℕ → State → S → S → Type 0
  LedRest n at count space s y z = Leads leaves y (made_through s (records code sheet n at count space s).calls) z

  pub led_over : (n at count : ℕ) (space : List ℕ) (s : State) (y : S) (why : Reason) → Some why ≡ over_at sheet at n → LedRest n at count space s y y
  led_over n at count space s y why e = subst (λ cs. Leads leaves y (made_through s cs) y) (sym (over_calls code sheet n at count space s why e)) refl

  pub led_refused : (cancel at count : ℕ) (space : List ℕ) (s : State) (y : S) (f : Fault) → None ≡ over_at sheet at (cancel - count) → Err f ≡ tested_record code (length space) sheet at → LedRest (cancel - count) at count space s y y
  led_refused cancel at count space s y f e t = subst (λ cs. Leads leaves y (made_through s cs) y) (sym (refused_calls code sheet cancel at count space s f e t)) refl

  -- a frame that was frame_taken out, and then the rest of the run
  pub led_turn : (cancel at count size : ℕ) (space space' : List ℕ) (m m' : Meaning) (flag : Bool) (b : Aside) (g g' : Option Listed) (a : Answer) (q : Option Fault) (x y z : S)
      → None ≡ over_at sheet at (cancel - count) → Ok size ≡ tested_record code (length space) sheet at
      → Came (served code (take (at + 2 + size - (at + 2)) (drop (at + 2) sheet)) (length space) m flag g) a space space' m' g' → a.fault ≡ q
      → Leads leaves x (served code (take (at + 2 + size - (at + 2)) (drop (at + 2) sheet)) (length space) m flag g).writes y
      → Leads leaves y (made_through (state m' flag b g') (replied q (records code sheet (cancel - (count + 1))) (at + 2 + size) count space' (state m' flag b g')).calls) z
      → LedRest (cancel - count) at count space (state m flag b g) x z
  led_turn cancel at count size space space' m m' flag b g g' a q x y z e t c is l h =
      let bytes = record_bytes sheet at size in
      let s = state m flag b g in
      let one = frame code bytes space in
      let calls = (replied q (records code sheet (cancel - (count + 1))) (at + 2 + size) count space' (state m' flag b g')).calls in
      let c' = subst (λ xs. Came (served code xs (length space) m flag g) a space space' m' g') (part sheet at size) c in
      let l' = subst (λ xs. Leads leaves x (served code xs (length space) m flag g).writes y) (part sheet at size) l in
      let stepped : step s one ≡ state m' flag b g' = (λ i. state (sym c'.means i) flag b (sym c'.lists i)) in
      let both : Leads leaves x (made_through s (one ∷ calls)) z = leads_on leaves x y z (made_by s one) (made_through (step s one) calls) l' (subst (λ u. Leads leaves y (made_through u calls) z) (sym stepped) h) in
      subst (λ r. Leads leaves x (made_through s r.calls) z) (turn code sheet cancel at count size space space' m m' flag b g g' a q e t c is) both
