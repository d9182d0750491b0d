-- A run of a sheet is a history.
use Rattle.std.proofs.Common.{◌≡◌, ℕ, zero, suc, ◌+◌, Bool, true, false, cond, List, [], ◌∷◌, ◌++◌, length, Some, None, Ok, Err, Option, Result, sym, refl, ap, ◌∙◌, subst, arith}
use lib.Seq.{sets}
use Rattle.memory.specs.Meaning.{Meaning}
use Rattle.memory.specs.Leaving.{Leaving, Leads}
use Rattle.wire.specs.declared.code.Code.{Code}
use Rattle.frame.specs.declared.fault.Cause.TheVariants.{NoVersion}
use Rattle.frame.specs.declared.fault.Fault.{Fault}
use Rattle.frame.specs.Faults.{fault}
use Rattle.server.specs.Registered.{Listed}
use Rattle.server.specs.Histories.{Lawful, no_window, Move, ending, State, at_frame, step, made_by, made_through, shown, after, closed}
use Rattle.history.proofs.Onward.{state, within}
use Rattle.sheet.specs.declared.run.Reason.{Reason}
use Rattle.sheet.specs.declared.run.Reason.TheVariants.{Finished, Cancelled, Stopped}
use Rattle.sheet.specs.declared.run.RunEnd.{RunEnd}
use Rattle.sheet.specs.Records.{record_bytes, tested_record}
use Rattle.sheet.specs.Runs.{Run, Rest, ended_by, stop, replied, frame_taken, with_record, at_end, records, has_version, without_version, in_window, sheet_run}
use Rattle.sheet.specs.Laws.{counts, good_replies, last_space, OneSpace, IsHistory}

-- a run in a window, with its ending: from the state s, this count and this reply space
record Ends (s : State) (count : ℕ) (space : List ℕ) (r : Run) : Type 0 where
  led : closed r.end.left ≡ after s (r.calls ++ ending ∷ [])
  counted : r.end.result.count ≡ count + good_replies (shown s (r.calls ++ ending ∷ []))
  one_space : OneSpace space (r.calls ++ ending ∷ []) (shown s (r.calls ++ ending ∷ []))
  last : r.end.space ≡ last_space space (shown s (r.calls ++ ending ∷ []))

-- every run from here on, in a window opened where the flag was b
abbrev AllEnd : Bool → Rest → Type 0
AllEnd b rest = (at count : ℕ) (space : List ℕ) (m : Meaning) (f : Bool) (g : Option Listed) → Ends (state m f (within b) g) count space (rest at count space (state m f (within b) g))

stops : (b : Bool) (why : Reason) (next count : ℕ) (space : List ℕ) (m : Meaning) (f : Bool) (g : Option Listed) → Ends (state m f (within b) g) count space (stop why count next space (state m f (within b) g))
stops b why next count space m f g = record { led = refl; counted = omega arith; one_space = (tt, tt); last = refl }

-- a run after a reply, which counts if it has no fault
after_reply : (b : Bool) (met : Option Fault) (rest : Rest) → AllEnd b rest → (behind count : ℕ) (space : List ℕ) (m : Meaning) (f : Bool) (g : Option Listed)
    → Ends (state m f (within b) g) (count + counts met) space (replied met rest behind count space (state m f (within b) g))
after_reply b None rest h behind count space m f g = h behind (count + 1) space m f g
after_reply b (Some x) rest h behind count space m f g =
    let same : count ≡ count + 0 = omega arith in
    subst (λ n. Ends (state m f (within b) g) n space (stop (Stopped x) count behind space (state m f (within b) g))) same (stops b (Stopped x) behind count space m f g)

carries : (b : Bool) (code : Code) (bytes : List ℕ) (rest : Rest) → AllEnd b rest → AllEnd b (frame_taken code bytes rest)
carries b code bytes rest h behind count space m f g =
    let s = state m f (within b) g in
    let a = at_frame s code bytes space in
    let e = after_reply b a.fault_met rest h behind count (sets space 0 a.bytes) a.meaning f a.registered in
    record { led = e.led; counted = e.counted ∙ omega arith; one_space = (refl, e.one_space); last = e.last }

tests : (b : Bool) (code : Code) (sheet : List ℕ) (rest : Rest) → AllEnd b rest → (q : Result ℕ Fault) → AllEnd b (with_record q code sheet rest)
tests b code sheet rest h (Ok size) at count space m f g = carries b code (record_bytes sheet at size) rest h (at + 2 + size) count space m f g
tests b code sheet rest h (Err x) at count space m f g = stops b (Stopped x) at count space m f g

either : (s : State) (count : ℕ) (space : List ℕ) (r r' : Run) (v : Bool) → Ends s count space r → Ends s count space r' → Ends s count space (cond v r r')
either s count space r r' true h h' = h
either s count space r r' false h h' = h'

all_records : (b : Bool) (code : Code) (sheet : List ℕ) (n : ℕ) → AllEnd b (records code sheet n)
unfolding records
all_records b code sheet zero at count space m f g =
    either _ count space _ _ (at_end sheet at) (stops b Finished at count space m f g) (stops b Cancelled at count space m f g)
all_records b code sheet (suc n) at count space m f g =
    either _ count space _ _ (at_end sheet at) (stops b Finished at count space m f g)
    (tests b code sheet (records code sheet n) (all_records b code sheet n) (tested_record code (length space) sheet at) at count space m f g)

-- what a whole run ensures
pub record Whole (code : Code) (sheet : List ℕ) (allowed : ℕ) (s : State) (r : RunEnd) (before after : List ℕ) (s' : State) : Type 0 where
  pub ends : r ≡ (sheet_run code sheet allowed before s).end.result
  pub space : after ≡ (sheet_run code sheet allowed before s).end.space
  pub history : IsHistory s before (sheet_run code sheet allowed before s).calls r after s'

-- the same of a run that is known
record WholeAs (run : Run) (s : State) (r : RunEnd) (before after : List ℕ) (s' : State) : Type 0 where
  ends : r ≡ run.end.result
  space : after ≡ run.end.space
  history : IsHistory s before run.calls r after s'

in_its_window : (code : Code) (sheet : List ℕ) (allowed : ℕ) (r : RunEnd) (before after : List ℕ) (m m' : Meaning) → Lawful m → (f f' : Bool) (g g' : Option Listed) → f' ≡ f
    → ended_by r.reason r.count r.next after (state m' true (within f) g') ≡ (records code sheet allowed 1 0 before (state m true (within f) g)).end
    → WholeAs (in_window (records code sheet allowed 1 0 before (state m true (within f) g))) (state m f no_window g) r before after (state m' f' no_window g')
in_its_window code sheet allowed r before after m m' lawful f f' g g' back e =
    let h = all_records f code sheet allowed 1 0 before m true g in
    let none : 0 + good_replies (shown (state m true (within f) g) ((records code sheet allowed 1 0 before (state m true (within f) g)).calls ++ ending ∷ [])) ≡ good_replies (shown (state m true (within f) g) ((records code sheet allowed 1 0 before (state m true (within f) g)).calls ++ ending ∷ [])) = omega arith in
    record {
      ends = ap (λ x. x.result) e;
      space = ap (λ x. x.space) e;
      history = record {
        reached = record { lawful = lawful; showed = refl; led = ap (λ x. state m' x no_window g') back ∙ ap (λ x. closed x.left) e ∙ h.led };
        counted = ap (λ x. x.result.count) e ∙ h.counted ∙ none;
        one_space = (tt, h.one_space);
        last = ap (λ x. x.space) e ∙ h.last;
      };
    }

pub whole : (code : Code) (sheet : List ℕ) (allowed : ℕ) (r : RunEnd) (before after : List ℕ) (m m' : Meaning) → Lawful m → (f f' : Bool) (g g' : Option Listed) → true ≡ has_version sheet → f' ≡ f
    → ended_by r.reason r.count r.next after (state m' true (within f) g') ≡ (records code sheet allowed 1 0 before (state m true (within f) g)).end
    → Whole code sheet allowed (state m f no_window g) r before after (state m' f' no_window g')
whole code sheet allowed r before after m m' lawful f f' g g' v back e =
    let w = subst (λ x. WholeAs (cond x (in_window (records code sheet allowed 1 0 before (state m true (within f) g))) (stop (Stopped (fault NoVersion 0)) 0 0 before (state m f no_window g))) (state m f no_window g) r before after (state m' f' no_window g')) v
    (in_its_window code sheet allowed r before after m m' lawful f f' g g' back e) in
    record { ends = w.ends; space = w.space; history = w.history }

-- a sheet without its version byte
pub no_version : (code : Code) (sheet : List ℕ) (allowed : ℕ) (space : List ℕ) (m : Meaning) → Lawful m → (f : Bool) (g : Option Listed) (r : RunEnd) → r ≡ without_version → false ≡ has_version sheet
    → Whole code sheet allowed (state m f no_window g) r space space (state m f no_window g)
no_version code sheet allowed space m lawful f g r e v =
    let s = state m f no_window g in
    let none : WholeAs (stop (Stopped (fault NoVersion 0)) 0 0 space s) s without_version space space s =
    record { ends = refl; space = refl; history = record { reached = record { lawful = lawful; showed = refl; led = refl }; counted = refl; one_space = tt; last = refl } } in
    let w = subst (λ x. WholeAs (cond x (in_window (records code sheet allowed 1 0 space (state m true (within f) g))) (stop (Stopped (fault NoVersion 0)) 0 0 space s)) s without_version space space s) v none in
    subst (λ q. Whole code sheet allowed s q space space s) (sym e) (record { ends = w.ends; space = w.space; history = w.history })

-- a whole run leads the memory through the writes of its frames
made_end : (s : State) (ms : List Move) → made_through s (ms ++ ending ∷ []) ≡ made_through s ms
made_end s [] = refl
made_end s (m ∷ ms) = ap (λ ws. made_by s m ++ ws) (made_end (step s m) ms)

module _ {S : Type 0} (leaves : Leaving S) (code : Code) (sheet : List ℕ) (allowed : ℕ) (space : List ℕ) (m : Meaning) (f : Bool) (g : Option Listed) where
  pub led_whole : (y z : S) → true ≡ has_version sheet → Leads leaves y (made_through (state m true (within f) g) (records code sheet allowed 1 0 space (state m true (within f) g)).calls) z
      → Leads leaves y (made_through (state m f no_window g) (sheet_run code sheet allowed space (state m f no_window g)).calls) z
  led_whole y z v l =
      let inside = records code sheet allowed 1 0 space (state m true (within f) g) in
      let run : Leads leaves y (made_through (state m f no_window g) (in_window inside).calls) z = subst (λ ws. Leads leaves y ws z) (sym (made_end (state m true (within f) g) inside.calls)) l in
      subst (λ x. Leads leaves y (made_through (state m f no_window g) (cond x (in_window inside) (stop (Stopped (fault NoVersion 0)) 0 0 space (state m f no_window g))).calls) z) v run

  pub led_no_version : (y : S) → false ≡ has_version sheet → Leads leaves y (made_through (state m f no_window g) (sheet_run code sheet allowed space (state m f no_window g)).calls) y
  led_no_version y v =
      subst (λ x. Leads leaves y (made_through (state m f no_window g) (cond x (in_window (records code sheet allowed 1 0 space (state m true (within f) g))) (stop (Stopped (fault NoVersion 0)) 0 0 space (state m f no_window g))).calls) y) v refl
