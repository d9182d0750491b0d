-- Two servers that start alike and are given paired calls answer alike and end alike.
use Rattle.std.proofs.Common.{◌≡◌, ℕ, List, length, Some, sym, refl, ap, ◌∙◌, subst}
use Rattle.memory.specs.Meaning.{write_answer}
use Rattle.server.specs.Histories.{Move, Reached, Shown, State, after, after_frame, answer, at_frame, ending, frame, on_opening, opening, outcome, setting, shown, step, taken, Lawful}
use Rattle.server.specs.Pairs.{AllSame, Paired, RepliesSame, Unfit, endings, frames_alike, frames_unfit, no_calls, openings, settings_alike, EndAlike, InStep}
use Rattle.server.proofs.Forms.{Narrow, answer_fits, narrow_reaction, narrow_set}
use Rattle.server.proofs.Latest.{ended_means, opened_means, reacted, replied, ended_list, one_list, opened_list, still_small}
use Rattle.wire.specs.declared.code.Code.{Code}
use Rattle.memory.proofs.Units.{there}
use Rattle.server.specs.Says.{cause_of, frame_of, head_of, reaction}
use Rattle.frame.specs.declared.header.Header.{Header}
use Rattle.request.specs.Readings.{asked}
use Rattle.server.specs.Latest.{Draws, TakenWhole}
use Rattle.server.specs.Writings.{Says}
use Rattle.server.specs.Serves.{taken_up}
use Rattle.server.specs.Registered.{registered}
use Rattle.server.specs.Answers.{Answered, answer_bytes}
use Rattle.request.specs.Requests.{Asked}
use Rattle.server.proofs.Says.{Reacts}
use Rattle.memory.specs.Layout.{room}
use Rattle.frame.specs.Replies.{one}

-- a frame that is not taken up leaves all as it was
unfit_shows : (s : State) (code : Code) (xs space : List ℕ) (u : Unfit code xs space) → outcome s (frame code xs space) ≡ taken 0 0 (Some u.why) space
unfit_shows s code xs space u = ap (λ r. answer (taken_up code s.meaning s.flag s.registered xs r) space) u.fails

unfit_leaves : (s : State) (code : Code) (xs space : List ℕ) (u : Unfit code xs space) → step s (frame code xs space) ≡ s
unfit_leaves s code xs space u =
    ap (λ r. after_frame (taken_up code s.meaning s.flag s.registered xs r) s) u.fails

-- the frame of a pair draws the answer that its request gets, in a form that the request fixes
answered_one : (s : State) (code : Code) (xs space : List ℕ) (a : Asked) (q : Says code xs a) (d : Answered) → Reacts code q.front a (reaction a s.meaning s.flag s.registered) (at_frame s code xs space)
    → ((h : Header) → answer_bytes code h (reaction a s.meaning s.flag s.registered).answer ≡ answer_bytes code h d) → cause_of d ≡ cause_of (reaction a s.meaning s.flag s.registered).answer
    → TakenWhole (length (frame_of code q.front a)) d (outcome s (frame code xs space)) × Draws q d space (outcome s (frame code xs space))
answered_one s code xs space a q d x bytes cause =
    ((x.whole, x.cause ∙ sym cause), replied (at_frame s code xs space) space _ (x.reply ∙ bytes (head_of code q.front a)))

-- what comes of paired calls from one state
abbrev Together : State → State → {ms ms' : List Move} → Paired ms ms' → Type 0
Together s s' {ms} {ms'} p = AllSame s.registered p (shown s ms) (shown s' ms') × (after s ms ≡ after s' ms')

-- a lawful memory stays so
lawful_on : (s : State) (c : Move) → Lawful s.meaning → Narrow (step s c).meaning → Lawful (step s c).meaning
lawful_on s c l narrow = record { small = still_small s c l.small; narrow = narrow }

together : (s : State) {ms ms' : List Move} → Lawful s.meaning → (p : Paired ms ms') → Together s s p
together s lawful no_calls = ((refl, refl), refl)
together s lawful (frames_alike {code = code} {code' = code'} {xs = xs} {xs' = xs'} {space = space} {space' = space'} {ms = ms} {ms' = ms'} room room' same p) =
    let a = same.asked in
    let one = frame code xs space in
    let x = reacted s code xs space a room same.sendable same.one in
    let y = reacted s code' xs' space' a room' same.sendable same.other in
    let there : step s one ≡ step s (frame code' xs' space') = (λ i. record { meaning = (x.leaves ∙ sym y.leaves) i; flag = s.flag; registered = (x.lists ∙ sym y.lists) i; aside = s.aside }) in
    let still = lawful_on s one lawful (subst Narrow (sym x.leaves) (narrow_reaction a s.meaning s.flag s.registered same.sendable.0 lawful.narrow)) in
    let rest = subst (λ t. Together (step s one) t p) there (together (step s one) still p) in
    let fits = answer_fits a s.meaning s.flag s.registered lawful.narrow in
    let replies : RepliesSame s.registered same space space' (outcome s one) (outcome s (frame code' xs' space')) = record {
      answer = fits.answer;
      fits = fits.fits;
      one = answered_one s code xs space a same.one fits.answer x (fits.bytes code) fits.cause;
      other = answered_one s code' xs' space' a same.other fits.answer y (fits.bytes code') fits.cause;
    } in
    ((replies, subst (λ g. AllSame g p (shown (step s one) ms) (shown (step s (frame code' xs' space')) ms')) (one_list s one lawful.small) rest.0), rest.1)
together s lawful (frames_unfit {code = code} {code' = code'} {xs = xs} {xs' = xs'} {space = space} {space' = space'} {ms = ms} {ms' = ms'} room room' u u' p) =
    let one = frame code xs space in
    let stays = unfit_leaves s code xs space u in
    let there : step s one ≡ step s (frame code' xs' space') = stays ∙ sym (unfit_leaves s code' xs' space' u') in
    let still : Lawful (step s one).meaning = subst (λ t. Lawful t.meaning) (sym stays) lawful in
    let rest = subst (λ t. Together (step s one) t p) there (together (step s one) still p) in
    (((unfit_shows s code xs space u, unfit_shows s code' xs' space' u'), subst (λ t. AllSame t.registered p (shown (step s one) ms) (shown (step s (frame code' xs' space')) ms')) stays rest.0), rest.1)
together s lawful (settings_alike {d = d} {n = n} {v = v} p) =
    let rest = together (step s (setting d n v)) (lawful_on s (setting d n v) lawful (narrow_set s.meaning d n v lawful.narrow)) p in
    ((((write_answer s.meaning d n v), refl, refl), rest.0), rest.1)
together s lawful (openings {ms = ms} {ms' = ms'} p) =
    let rest = together (step s opening) (subst Lawful (sym (opened_means s.aside.before s)) lawful) p in
    ((((on_opening s.aside.before), refl, refl), subst (λ g. AllSame g p (shown (step s opening) ms) (shown (step s opening) ms')) (opened_list s.aside.before s) rest.0), rest.1)
together s lawful (endings {ms = ms} {ms' = ms'} p) =
    let rest = together (step s ending) (subst Lawful (sym (ended_means s.aside.before s)) lawful) p in
    (((s.aside.before, refl, refl), subst (λ g. AllSame g p (shown (step s ending) ms) (shown (step s ending) ms')) (ended_list s.aside.before s) rest.0), rest.1)

-- servers that are alike are in one state
pub one_state : (s t : State) → InStep s t → s ≡ t
one_state s t e = λ i. record { meaning = e.meaning i; flag = e.flag i; registered = e.registered i; aside = e.aside i }

pub in_step : (s t : State) → s ≡ t → InStep s t
in_step s t e = record { meaning = ap (λ x. x.meaning) e; flag = ap (λ x. x.flag) e; registered = ap (λ x. x.registered) e; aside = ap (λ x. x.aside) e }

pub alike_reached : (s t s' t' : State) (ms ns : List Move) (os ps : List Shown) → Reached s ms os s' → Reached t ns ps t' → EndAlike s t ms ns os ps s' t'
alike_reached s t s' t' ms ns os ps r r' same p =
    let both = subst (λ x. Together s x p) (one_state s t same) (together s r.lawful p) in (
      subst (λ l. AllSame s.registered p l ps) (sym r.showed) (subst (λ l. AllSame s.registered p (shown s ms) l) (sym r'.showed) both.0),
      in_step s' t' (r.led ∙ both.1 ∙ sym r'.led),
    )
