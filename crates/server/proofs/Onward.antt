-- One call more carries any history on, and so do several.
use Rattle.std.proofs.Common.{◌≡◌, ℕ, Bool, true, List, [], ◌∷◌, ◌++◌, Some, None, Option, sym, refl, ap, ◌∙◌, subst}
use Rattle.wire.specs.declared.code.Code.{Code}
use Rattle.server.specs.declared.answer.Answer.{Answer}
use Rattle.server.specs.Histories.{Lawful, Move, Ran, Reached, Shown, State, after, at_frame, closed, ending, final, frame, opening, outcome, shown, shown_by, step, taken, window, with_flag}
use Rattle.server.proofs.Latest.{latest_shown, latest_wins}
use Rattle.server.specs.Kept.{CarriesOn, EndsOn, GoesOn, KeptTo, KeptToEnd}
use Rattle.memory.specs.Meaning.{Meaning, Sound}
use Rattle.request.proofs.Alike.{alike}
use Rattle.request.proofs.Accepted.{takes}
use Rattle.server.specs.Registered.{Listed, registered}
use Rattle.server.specs.Serves.{Came}
use Rattle.server.specs.Latest.{LatestShown, LatestWins, latest}
use Rattle.server.proofs.Pairs.{alike_reached}

-- lists one behind the other
pub shown_more : (s : State) (ms ns : List Move) → shown s (ms ++ ns) ≡ shown s ms ++ shown (after s ms) ns
shown_more s [] ns = refl
shown_more s (m ∷ ms) ns = ap (λ os. outcome s m ∷ os) (shown_more (step s m) ms ns)

pub after_more : (s : State) (ms ns : List Move) → after s (ms ++ ns) ≡ after (after s ms) ns
after_more s [] ns = refl
after_more s (m ∷ ms) ns = after_more (step s m) ms ns

-- what a history keeps to
pub kept_to : (s s' : State) (ms : List Move) (os : List Shown) → Reached s ms os s' → KeptTo s ms os s'
kept_to s s' ms os r =
    record {
      reached = r;
      latest = subst (λ l. LatestWins s.meaning.value s'.meaning.value ms l) (sym r.showed) (subst (λ x. LatestWins s.meaning.value x.meaning.value ms (shown s ms)) (sym r.led) (latest_wins s ms r.lawful.small));
      monitors = subst (λ l. LatestShown s.meaning.value s.registered ms l) (sym r.showed) (latest_shown s ms r.lawful.small);
      alike = λ t t' ns ps r'. alike_reached s t s' t' ms ns os ps r r';
    }

-- calls that show and leave what is fixed of them
pub goes_on : (s : State) (ms : List Move) (os : List Shown) (s' : State) → os ≡ shown s ms → s' ≡ after s ms → GoesOn s ms os s'
goes_on s ms os s' shows leaves s₀ ns ps so_far =
    kept_to s₀ s' (ns ++ ms) (ps ++ os)
    (record {
      lawful = so_far.lawful;
      showed = (λ i. so_far.showed i ++ (shows ∙ ap (λ t. shown t ms) so_far.led) i) ∙ sym (shown_more s₀ ns ms);
      led = leaves ∙ ap (λ t. after t ms) so_far.led ∙ sym (after_more s₀ ns ms);
    })

pub carries_on : (s : State) (m : Move) (o : Shown) (s' : State) → o ≡ outcome s m → s' ≡ step s m → CarriesOn s m o s'
carries_on s m o s' shows leaves = goes_on s (m ∷ []) (o ∷ []) s' (ap (λ x. x ∷ []) shows) leaves

-- calls whose end ends a window too
pub ran_to_end : (s z : State) (ms : List Move) (os : List Shown) → Ran s ms os z → KeptToEnd s ms os z
ran_to_end s z ms os r = record { last = after s ms; kept = kept_to s (after s ms) ms os (record { lawful = r.lawful; showed = r.showed; led = refl }); closes = r.left }

pub ends_on : (s z : State) (ms : List Move) (os : List Shown) → Ran s ms os z → EndsOn s ms os z
ends_on s z ms os r s₀ ns ps so_far =
    ran_to_end s₀ z (ns ++ ms) (ps ++ os)
    (record {
      lawful = so_far.lawful;
      showed = (λ i. so_far.showed i ++ (r.showed ∙ ap (λ t. shown t ms) so_far.led) i) ∙ sym (shown_more s₀ ns ms);
      left = r.left ∙ ap (λ t. final t ms) so_far.led ∙ sym (ap closed (after_more s₀ ns ms));
    })

-- a frame that was taken
pub frame_taken : (s : State) (code : Code) (xs space after : List ℕ) (a : Answer) (m' : Meaning) (g' : Option Listed) → Came (at_frame s code xs space) a space after m' g'
    → CarriesOn s (frame code xs space) (shown_by a after) (record { meaning = m'; flag = s.flag; registered = g'; aside = s.aside })
frame_taken s code xs space after a m' g' c =
    carries_on _ _ _ _ (λ i. taken (c.tells.takes i) (c.tells.long i) (c.tells.meets i) (c.tells.reply i)) (λ i. record { meaning = c.means i; flag = s.flag; registered = c.lists i; aside = s.aside })

-- a window that was opened, and one that was ended
pub window_opened : (s : State) (flag was on : Bool) → was ≡ flag → on ≡ true → CarriesOn (with_flag flag None s) opening (window (Some on)) (with_flag on (Some was) s)
window_opened s flag was on e h = carries_on _ _ _ _ (ap (λ f. window (Some f)) h) (λ i. with_flag (h i) (Some (e i)) s)

pub window_ended : (s : State) (flag was back : Bool) → back ≡ was → CarriesOn (with_flag flag (Some was) s) ending (window (Some back)) (with_flag back None s)
window_ended s flag was back e = carries_on _ _ _ _ (ap (λ f. window (Some f)) e) (λ i. with_flag (e i) None s)

-- what a memory means is lawful
pub lawful_sound : {A : Type 0} (means : A → Meaning) → Sound means → (a : A) → Lawful (means a)
lawful_sound means s a = record { small = s.small a; narrow = s.narrow a }
