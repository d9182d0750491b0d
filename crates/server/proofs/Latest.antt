-- The laws of a history: the latest write wins, and a monitor shows the latest registration.
use Rattle.std.proofs.Common.{◌+◌, ◌*◌, ◌≡◌, ℕ, zero, suc, ◌≤◌, Bool, true, false, cond, List, [], ◌∷◌, length, take, is_ok, Some, None, Ok, Err, Option, Result, sym, refl, ap, ◌∙◌, subst, arith}
use Rattle.std.specs.Prelude.{is_none}
use lib.Seq.{sets}
use Rattle.device.specs.declared.types.Device.{Device}
use Rattle.memory.specs.declared.refusal.Refusal.{Refusal}
use Rattle.memory.specs.Meaning.{Meaning, extent_limit, write_answer, written as after_write}
use Rattle.wire.specs.declared.code.Code.{Code}
use Rattle.frame.specs.declared.fault.Cause.TheVariants.{NotRegistered}
use Rattle.request.specs.Requests.{Asked, random_read, monitor}
use Rattle.server.specs.Points.{Values}
use Rattle.server.specs.Registered.{Listed, registered}
use Rattle.server.specs.Answers.{accepted, Data, refused, answer_bytes}
use Rattle.server.specs.Serves.{Served, done, shown_list, Done}
use Rattle.server.specs.Histories.{Move, frame, setting, opening, ending, Shown, State, at_frame, once_opened, once_ended, step, answer, outcome, shown, after}
use Rattle.server.specs.Asks.{sent, data_shown, is_accepted}
use Rattle.server.specs.Latest.{given, latest, by_history, latest_list, Replied, Draws, LatestWins, LatestShown, ComesOf, FrameAt, nth, list_then}
use Rattle.server.proofs.Accepts.{done_data, came_to, taken_values, taken_extent, taken_list, done_if_good, had_room, no_cause, taken_comes}
use Rattle.wire.specs.declared.code.Code.TheVariants.{Ascii, Binary}
use Rattle.wire.specs.Numbers.{per_byte, AllBytes}
use Rattle.server.specs.Says.{Sendable, cause_met, head_of, reaction}
use Rattle.frame.specs.declared.fault.Fault.{Fault}
use Rattle.request.specs.Limits.{points}
use Rattle.server.specs.Writings.{Says}
use Rattle.server.proofs.Says.{Reacts, answers_alike}
use Rattle.memory.specs.Layout.{room}

-- no extent passes its limit, and no call changes an extent
abbrev pub Small : Meaning → Type 0
Small m = (d : Device) → m.extent d ≤ extent_limit d

pub opened_means : (b : Option Bool) (s : State) → (once_opened b s).meaning ≡ s.meaning
opened_means None s = refl
opened_means (Some w) s = refl

pub ended_means : (b : Option Bool) (s : State) → (once_ended b s).meaning ≡ s.meaning
ended_means None s = refl
ended_means (Some w) s = refl

pub opened_list : (b : Option Bool) (s : State) → (once_opened b s).registered ≡ s.registered
opened_list None s = refl
opened_list (Some w) s = refl

pub ended_list : (b : Option Bool) (s : State) → (once_ended b s).registered ≡ s.registered
ended_list None s = refl
ended_list (Some w) s = refl

set_extent : (r : Result (Unit {0}) Refusal) (m : Meaning) (d : Device) (n v : ℕ) → (after_write r m d n v).extent ≡ m.extent
set_extent (Ok u) m d n v = refl
set_extent (Err e) m d n v = refl

one_extent : (s : State) (c : Move) → Small s.meaning → (step s c).meaning.extent ≡ s.meaning.extent
one_extent s (frame code xs space) small = taken_extent code xs s.meaning s.registered _ (came_to code xs (length space) s.meaning s.flag s.registered small)
one_extent s (setting d n v) small = set_extent (write_answer s.meaning d n v) s.meaning d n v
one_extent s opening small = ap (λ m. m.extent) (opened_means s.aside.before s)
one_extent s ending small = ap (λ m. m.extent) (ended_means s.aside.before s)

pub still_small : (s : State) (c : Move) → Small s.meaning → Small (step s c).meaning
still_small s c small = subst (λ e. (d : Device) → e d ≤ extent_limit d) (sym (one_extent s c small)) small

-- values --

same_cond : {X : Type 0} (b : Bool) (x : X) → x ≡ cond b x x
same_cond true x = refl
same_cond false x = refl

set_value : (r : Result (Unit {0}) Refusal) (m : Meaning) (e : Device) (k v : ℕ) (d : Device) (n : ℕ)
    → (after_write r m e k v).value d n ≡ cond (is_ok r) (given d n (m.value d n) ((e, k, v) ∷ [])) (m.value d n)
set_value (Ok u) m e k v d n = refl
set_value (Err x) m e k v d n = refl

one_value : (s : State) (c : Move) → Small s.meaning → (d : Device) (n : ℕ)
    → (step s c).meaning.value d n ≡ cond (is_accepted (outcome s c)) (given d n (s.meaning.value d n) (sent c)) (s.meaning.value d n)
one_value s (frame code xs space) small d n = taken_values code xs s.meaning s.registered _ (came_to code xs (length space) s.meaning s.flag s.registered small) d n
one_value s (setting e k v) small d n = set_value (write_answer s.meaning e k v) s.meaning e k v d n
one_value s opening small d n = ap (λ m. m.value d n) (opened_means s.aside.before s) ∙ same_cond (is_accepted (outcome s opening)) (s.meaning.value d n)
one_value s ending small d n = ap (λ m. m.value d n) (ended_means s.aside.before s) ∙ same_cond (is_accepted (outcome s ending)) (s.meaning.value d n)

law_points : (s : State) (ms : List Move) → Small s.meaning → (d : Device) (n : ℕ) → (after s ms).meaning.value d n ≡ latest d n (s.meaning.value d n) ms (shown s ms)
law_points s [] small d n = refl
law_points s (c ∷ ms) small d n =
    law_points (step s c) ms (still_small s c small) d n ∙ ap (λ v. latest d n v ms (shown (step s c) ms)) (one_value s c small d n)

-- the values at a call, by the calls before it
moved : (s : State) (c : Move) → Small s.meaning → (ms : List Move) (os : List Shown) → by_history (step s c).meaning.value ms os ≡ by_history s.meaning.value (c ∷ ms) (outcome s c ∷ os)
moved s c small ms os = λ i d n. latest d n (one_value s c small d n i) ms os

-- reads --

-- what a frame came to that is the writing of a request
pub reacted : (s : State) (code : Code) (xs space : List ℕ) (a : Asked) → 4096 ≤ length space → Sendable a → (q : Says code xs a)
    → Reacts code q.front a (reaction a s.meaning s.flag s.registered) (at_frame s code xs space)
reacted s code xs space a room ok q = answers_alike code xs (length space) s.meaning s.flag s.registered a q.front q.rest q.fits ok room q.is

-- a reply that is these bytes
pub replied : (t : Served) (space bytes : List ℕ) → t.bytes ≡ bytes → Replied (answer t space) space bytes
replied t space bytes e = (ap length e, ap (sets space 0) e)

-- an accepted frame that is the writing of a request draws the answer of that request, carried out
good_draws : (s : State) (code : Code) (xs space : List ℕ) (a : Asked) (q : Says code xs a) (d : Data) → Sendable a → is_none (at_frame s code xs space).fault_met ≡ true
    → (done a s.meaning s.registered).answer ≡ accepted d → Draws q (accepted d) space (outcome s (frame code xs space))
good_draws s code xs space a q d ok fine is =
    let t = at_frame s code xs space in
    let x = reacted s code xs space a (had_room code xs (length space) s.meaning s.flag s.registered fine) ok q in
    let carried : reaction a s.meaning s.flag s.registered ≡ done a s.meaning s.registered = done_if_good a s.meaning s.flag s.registered (sym x.cause ∙ no_cause t.fault_met fine) in
    replied t space _ (x.reply ∙ ap (λ (r : Done). answer_bytes code (head_of code q.front a) r.answer) carried ∙ ap (answer_bytes code (head_of code q.front a)) is)

one_read : (s : State) (c : Move) (code : Code) (xs space : List ℕ) (a : Asked) (q : Says code xs a) (d : Data) → c ≡ frame code xs space → Sendable a
    → data_shown a s.meaning.value ≡ Some d → is_accepted (outcome s c) ≡ true → Draws q (accepted d) space (outcome s c)
one_read s c code xs space a q d is ok sh good =
    subst (λ e. Draws q (accepted d) space (outcome s e)) (sym is)
    (good_draws s code xs space a q d ok (sym (ap (λ e. is_accepted (outcome s e)) is) ∙ good) (done_data a s.meaning s.registered d sh))

-- one call further on
at_next : (c : Move) (ms : List Move) (k : ℕ) (code : Code) (xs space : List ℕ) → FrameAt (c ∷ ms) (suc k) code xs space → FrameAt ms k code xs space
at_next c ms k code xs space h = (omega (arith, h.0), h.1)

no_call : {P : Type 0} (k : ℕ) (code : Code) (xs space : List ℕ) → FrameAt [] k code xs space → P
no_call k code xs space h = absurd (omega (arith, h.0))

law_reads : (s : State) (ms : List Move) → Small s.meaning → (k : ℕ) (code : Code) (xs space : List ℕ) (a : Asked) (q : Says code xs a) (d : Data) → FrameAt ms k code xs space → Sendable a
    → data_shown a (by_history s.meaning.value (take k ms) (take k (shown s ms))) ≡ Some d → is_accepted (nth (shown s ms) k) ≡ true → Draws q (accepted d) space (nth (shown s ms) k)
law_reads s [] small k code xs space a q d is ok sh good = no_call k code xs space is
law_reads s (c ∷ ms) small zero code xs space a q d is ok sh good = one_read s c code xs space a q d is.1 ok sh good
law_reads s (c ∷ ms) small (suc k) code xs space a q d is ok sh good =
    law_reads (step s c) ms (still_small s c small) k code xs space a q d (at_next c ms k code xs space is) ok
    (ap (data_shown a) (moved s c small (take k ms) (take k (shown (step s c) ms))) ∙ sh) good

-- what each frame comes to --

one_comes : (s : State) (c : Move) → Small s.meaning → (code : Code) (xs space : List ℕ) → AllBytes xs → c ≡ frame code xs space → ComesOf (is_accepted (outcome s c)) code xs space (outcome s c)
one_comes s c small code xs space all is =
    subst (λ e. ComesOf (is_accepted (outcome s e)) code xs space (outcome s e)) (sym is)
    (taken_comes code xs space s.meaning s.registered _ all (came_to code xs (length space) s.meaning s.flag s.registered small))

law_frames : (s : State) (ms : List Move) → Small s.meaning → (k : ℕ) (code : Code) (xs space : List ℕ) → FrameAt ms k code xs space → AllBytes xs
    → ComesOf (is_accepted (nth (shown s ms) k)) code xs space (nth (shown s ms) k)
law_frames s [] small k code xs space is all = no_call k code xs space is
law_frames s (c ∷ ms) small zero code xs space is all = one_comes s c small code xs space all is.1
law_frames s (c ∷ ms) small (suc k) code xs space is all = law_frames (step s c) ms (still_small s c small) k code xs space (at_next c ms k code xs space is) all

-- registrations --

pub one_list : (s : State) (c : Move) → Small s.meaning → (step s c).registered ≡ list_then s.registered c (outcome s c)
one_list s (frame code xs space) small = taken_list code xs s.meaning s.registered _ (came_to code xs (length space) s.meaning s.flag s.registered small)
one_list s (setting d n v) small = same_cond (is_accepted (outcome s (setting d n v))) s.registered
one_list s opening small = opened_list s.aside.before s ∙ same_cond (is_accepted (outcome s opening)) s.registered
one_list s ending small = ended_list s.aside.before s ∙ same_cond (is_accepted (outcome s ending)) s.registered

-- what a monitor request gets, by the values and the list at that moment
abbrev Monitored : {code : Code} {xs : List ℕ} → Says code xs monitor → Option Listed → Values → List ℕ → Shown → Type 0
Monitored q None V space o = Draws q (refused NotRegistered) space o
Monitored q (Some l) V space o = (d : Data) → data_shown (random_read l.0 l.1) V ≡ Some d → (is_accepted o ≡ true) × Draws q (accepted d) space o

monitor_fits : Sendable monitor
monitor_fits = (tt, λ code. go code)
  where
    go : (code : Code) → 6 * per_byte code + 0 ≤ 8192
    go Binary = omega arith
    go Ascii = omega arith

no_fault : (f : Option Fault) → cause_met f ≡ None → is_none f ≡ true
no_fault None e = refl
no_fault (Some x) e = cc

monitors : {code : Code} {xs : List ℕ} (q : Says code xs monitor) (m : Meaning) (g : Option Listed) (space : List ℕ) (t : Served)
    → Reacts code q.front monitor (done monitor m g) t → Monitored q g m.value space (answer t space)
monitors q m None space t x = replied t space _ x.reply
monitors {code} q m (Some l) space t x = λ d sh.
    let same : shown_list m l ≡ accepted d = ap accepted (cc) in
    (no_fault t.fault_met x.cause, replied t space _ (x.reply ∙ ap (answer_bytes code (head_of code q.front monitor)) same))

one_monitor : (s : State) (c : Move) (code : Code) (xs space : List ℕ) (q : Says code xs monitor) → c ≡ frame code xs space → 4096 ≤ length space → Monitored q s.registered s.meaning.value space (outcome s c)
one_monitor s c code xs space q is room =
    subst (λ e. Monitored q s.registered s.meaning.value space (outcome s e)) (sym is)
    (monitors q s.meaning s.registered space (at_frame s code xs space) (reacted s code xs space monitor room monitor_fits q))

law_monitors : (s : State) (ms : List Move) → Small s.meaning → (k : ℕ) (code : Code) (xs space : List ℕ) (q : Says code xs monitor) → FrameAt ms k code xs space → 4096 ≤ length space
    → Monitored q (latest_list s.registered (take k ms) (take k (shown s ms))) (by_history s.meaning.value (take k ms) (take k (shown s ms))) space (nth (shown s ms) k)
law_monitors s [] small k code xs space q is room = no_call k code xs space is
law_monitors s (c ∷ ms) small zero code xs space q is room = one_monitor s c code xs space q is.1 room
law_monitors s (c ∷ ms) small (suc k) code xs space q is room =
    let os = take k (shown (step s c) ms) in
    let o = nth (shown (step s c) ms) k in
    subst (λ V. Monitored q (latest_list s.registered (c ∷ take k ms) (outcome s c ∷ os)) V space o) (moved s c small (take k ms) os)
    (subst (λ g. Monitored q (latest_list g (take k ms) os) (by_history (step s c).meaning.value (take k ms) os) space o) (one_list s c small)
    (law_monitors (step s c) ms (still_small s c small) k code xs space q (at_next c ms k code xs space is) room))

-- all of them, for a history --

pub latest_wins : (s : State) (ms : List Move) → Small s.meaning → LatestWins s.meaning.value (after s ms).meaning.value ms (shown s ms)
latest_wins s ms small = record { points = law_points s ms small; frames = law_frames s ms small; reads = law_reads s ms small }

pub latest_shown : (s : State) (ms : List Move) → Small s.meaning → LatestShown s.meaning.value s.registered ms (shown s ms)
latest_shown s ms small =
    record {
      unregistered = λ k code xs space q is room e. subst (λ l. Monitored q l (by_history s.meaning.value (take k ms) (take k (shown s ms))) space (nth (shown s ms) k)) e (law_monitors s ms small k code xs space q is room);
      registered = λ k code xs space q l d is room e sh. subst (λ l. Monitored q l (by_history s.meaning.value (take k ms) (take k (shown s ms))) space (nth (shown s ms) k)) e (law_monitors s ms small k code xs space q is room) d sh;
    }
