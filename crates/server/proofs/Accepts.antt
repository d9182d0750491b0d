-- What a frame that was taken showed and left, by what it asks.
use Rattle.std.proofs.Common.{is_some, ◌&&◌, ◌≡◌, ℕ, ◌≤◌, Bool, true, cond, List, [], ◌∷◌, length, take, Some, None, Ok, Err, Option, Result, sym, refl, ap, ◌∙◌, inl, inr, arith, false, ltb, not}
use Rattle.std.specs.Prelude.{is_none}
use Rattle.std.specs.Option.{option_or}
use lib.Seq.{sets}
use Rattle.std.proofs.lemmas.Bool.{ltb-false}
use Rattle.device.specs.declared.types.Device.{Device}
use Rattle.memory.specs.Meaning.{Meaning, extent_limit, put}
use Rattle.memory.specs.Leaving.{Write}
use Rattle.wire.specs.declared.code.Code.{Code}
use Rattle.wire.specs.Numbers.{then, AllBytes}
use Rattle.frame.specs.declared.fault.Fault.{Fault}
use Rattle.frame.specs.declared.header.Header.{Header}
use Rattle.frame.specs.Headers.{tested}
use Rattle.request.specs.Requests.{Asked, read_bits, read_words, write_bits, write_words, random_read, register, monitor, random_bits, random_write}
use Rattle.request.specs.Readings.{request_in}
use Rattle.server.specs.Points.{Values}
use Rattle.server.specs.Writes.{puts}
use Rattle.server.specs.Registered.{Listed, registered}
use Rattle.server.specs.Answers.{Data, Answered, accepted, refused, answer_bytes}
use Rattle.server.specs.Serves.{done, Served, finished, late_fault, answered as judged, taken_up, served, unchanged, Came}
use Rattle.server.specs.Histories.{taken, answer, State, at_frame}
use Rattle.server.specs.Asks.{largest, asked_in, writes_of, writes_if_read, list_of, list_if_read, data_shown}
use Rattle.server.specs.Latest.{given, ComesOf}
use Rattle.server.proofs.Exact.{asked_says}
use Rattle.server.proofs.Looser.{request_too, tested_too}
use Rattle.server.specs.Says.{by_verdict, cause_met, cause_of, reaction, writes, Sendable, command_number, frame_of, head_of, subcommand_number}
use Rattle.request.proofs.Passed.{judge_passed, judge_passes}
use Rattle.request.specs.Verdicts.{tests, verdict}
use Rattle.frame.specs.declared.fault.Cause.TheVariants.{NoReplySpace, WriteOff}
use Rattle.frame.specs.declared.fault.Cause.{Cause}
use Rattle.frame.specs.Faults.{fault}
use Rattle.memory.proofs.Units.{own}
use Rattle.server.proofs.Says.{command_fits, subcommand_fits, answers_alike}
use Rattle.request.specs.Writing.{writing}
use Rattle.frame.proofs.Exact.{tested_exact}
use Rattle.wire.proofs.Exact.{same_ok}
use Rattle.frame.proofs.Written.{length_request}
use Rattle.frame.proofs.Written as frames
use Rattle.server.specs.Writings.{Says}
use Rattle.server.specs.Taking.{PassingAccepted}
use Rattle.server.specs.declared.answer.Answer.{Answer}

-- the value of a point after writes
pub puts_given : (V : Values) (ws : List Write) (d : Device) (n : ℕ) → puts V ws d n ≡ given d n (V d n) ws
puts_given V [] d n = refl
puts_given V (w ∷ ws) d n = puts_given (put V w.0 w.1 w.2) ws d n

-- a verdict that passes is on the request itself
pub verdict_keeps : (m : Meaning) (a b : Asked) → verdict m a ≡ Ok b → b ≡ a
verdict_keeps m a b e = let own : verdict m a ≡ Ok a = judge_passes (tests m a) a (judge_passed (tests m a) a b e) in cc

-- a request that is carried out gives its points its values, and nothing else does
done_values : (h : Header) (a : Asked) (m : Meaning) (g : Option Listed) (d : Device) (n : ℕ)
    → (done a m g).meaning.value d n ≡ cond (is_none (late_fault h (done a m g).answer)) (given d n (m.value d n) (writes_of a)) (m.value d n)
done_values h (read_bits e i k) m g d n = refl
done_values h (read_words e i k) m g d n = refl
done_values h (write_bits e i vs) m g d n = puts_given m.value (writes_of (write_bits e i vs)) d n
done_values h (write_words e i vs) m g d n = puts_given m.value (writes_of (write_words e i vs)) d n
done_values h (random_read ws ds) m g d n = refl
done_values h (register ws ds) m g d n = refl
done_values h monitor m None d n = refl
done_values h monitor m (Some l) d n = refl
done_values h (random_bits ss) m g d n = puts_given m.value (writes_of (random_bits ss)) d n
done_values h (random_write ws ds) m g d n = puts_given m.value (writes_of (random_write ws ds)) d n

-- and a registration alone replaces the list
done_list : (h : Header) (a : Asked) (m : Meaning) (g : Option Listed)
    → (done a m g).registered ≡ cond (is_none (late_fault h (done a m g).answer)) (option_or (list_of a) g) g
done_list h (read_bits e i k) m g = refl
done_list h (read_words e i k) m g = refl
done_list h (write_bits e i vs) m g = refl
done_list h (write_words e i vs) m g = refl
done_list h (random_read ws ds) m g = refl
done_list h (register ws ds) m g = refl
done_list h monitor m None = refl
done_list h monitor m (Some l) = refl
done_list h (random_bits ss) m g = refl
done_list h (random_write ws ds) m g = refl

pub done_data : (a : Asked) (m : Meaning) (g : Option Listed) (s : Data) → data_shown a m.value ≡ Some s → (done a m g).answer ≡ accepted s
done_data (read_bits e i k) m g s h = ap accepted (cc)
done_data (read_words e i k) m g s h = ap accepted (cc)
done_data (write_bits e i vs) m g s h = cc
done_data (write_words e i vs) m g s h = cc
done_data (random_read ws ds) m g s h = ap accepted (cc)
done_data (register ws ds) m g s h = cc
done_data monitor m g s h = cc
done_data (random_bits ss) m g s h = cc
done_data (random_write ws ds) m g s h = cc

-- what a frame came to: it was carried out as it asks, or it was refused, or not taken up, and changed nothing
pub data CameTo (code : Code) (xs : List ℕ) (m : Meaning) (g : Option Listed) : Served → Type 0 where
  carried_out : (h : Header) (a : Asked) → tested code 4096 xs ≡ Ok h → asked_in code xs ≡ Ok a → CameTo code xs m g (finished code h (done a m g))
  turned_down : (h : Header) (f : Fault) → tested code 4096 xs ≡ Ok h
      → CameTo code xs m g (record { taken = h.size; bytes = answer_bytes code h (refused f.cause); fault_met = Some f; writes = []; meaning = m; registered = g })
  not_taken : (f : Fault) → CameTo code xs m g (record { taken = 0; bytes = []; fault_met = Some f; writes = []; meaning = m; registered = g })

pub came_to : (code : Code) (xs : List ℕ) (space : ℕ) (m : Meaning) (flag : Bool) (g : Option Listed) → ((d : Device) → m.extent d ≤ extent_limit d) → CameTo code xs m g (served code xs space m flag g)
came_to code xs space m flag g small = by_frame (tested code space xs) refl
  where
    by_request : (h : Header) → tested code 4096 xs ≡ Ok h → (r : Result Asked Fault) → request_in code m flag h (take h.size xs) ≡ r → CameTo code xs m g (judged code h m g r)
    by_request h passes (Ok a) e = carried_out h a passes (ap (λ t. then t (λ k. request_in code largest true k (take k.size xs))) passes ∙ request_too code m small flag h (take h.size xs) a e)
    by_request h passes (Err f) e = turned_down h f passes

    by_frame : (r : Result Header Fault) → tested code space xs ≡ r → CameTo code xs m g (taken_up code m flag g xs r)
    by_frame (Ok h) e = by_request h (tested_too code space xs h e) (request_in code m flag h (take h.size xs)) refl
    by_frame (Err f) e = not_taken f

pub taken_values : (code : Code) (xs : List ℕ) (m : Meaning) (g : Option Listed) (t : Served) → CameTo code xs m g t → (d : Device) (n : ℕ)
    → t.meaning.value d n ≡ cond (is_none t.fault_met) (given d n (m.value d n) (writes_if_read (asked_in code xs))) (m.value d n)
taken_values code xs m g t (carried_out h a passes asks) d n =
    done_values h a m g d n ∙ ap (λ r. cond (is_none (late_fault h (done a m g).answer)) (given d n (m.value d n) (writes_if_read r)) (m.value d n)) (sym asks)
taken_values code xs m g t (turned_down h f passes) d n = refl
taken_values code xs m g t (not_taken f) d n = refl

-- no request changes an extent
done_extent : (a : Asked) (m : Meaning) (g : Option Listed) → (done a m g).meaning.extent ≡ m.extent
done_extent (read_bits e i k) m g = refl
done_extent (read_words e i k) m g = refl
done_extent (write_bits e i vs) m g = refl
done_extent (write_words e i vs) m g = refl
done_extent (random_read ws ds) m g = refl
done_extent (register ws ds) m g = refl
done_extent monitor m g = refl
done_extent (random_bits ss) m g = refl
done_extent (random_write ws ds) m g = refl

pub taken_extent : (code : Code) (xs : List ℕ) (m : Meaning) (g : Option Listed) (t : Served) → CameTo code xs m g t → t.meaning.extent ≡ m.extent
taken_extent code xs m g t (carried_out h a passes asks) = done_extent a m g
taken_extent code xs m g t (turned_down h f passes) = refl
taken_extent code xs m g t (not_taken f) = refl

pub taken_list : (code : Code) (xs : List ℕ) (m : Meaning) (g : Option Listed) (t : Served) → CameTo code xs m g t
    → t.registered ≡ cond (is_none t.fault_met) (option_or (list_if_read (asked_in code xs)) g) g
taken_list code xs m g t (carried_out h a passes asks) =
    done_list h a m g ∙ ap (λ r. cond (is_none (late_fault h (done a m g).answer)) (option_or (list_if_read r) g) g) (sym asks)
taken_list code xs m g t (turned_down h f passes) = refl
taken_list code xs m g t (not_taken f) = refl

-- the header of a frame that was taken up is that of the request that it is the writing of
head_as : (code : Code) (xs : List ℕ) (h : Header) (a : Asked) (q : Says code xs a) → Sendable a → tested code 4096 xs ≡ Ok h → h ≡ head_of code q.front a
head_as code xs h a q ok passes =
    let back = (frames.taken_up code 4096 xs).back q.front (command_number a) (subcommand_number a) (writing code a) q.rest q.fits (command_fits a) (subcommand_fits a) (ok.1 code) (omega arith) q.is in
    same_ok h (head_of code q.front a) (sym passes ∙ back)

-- what an answer comes to
answer_comes : (code : Code) (xs space : List ℕ) (h : Header) (a : Asked) → AllBytes xs → tested code 4096 xs ≡ Ok h → asked_in code xs ≡ Ok a → (r : Answered)
    → ComesOf (is_none (late_fault h r)) code xs space (taken h.size (length (answer_bytes code h r)) (late_fault h r) (sets space 0 (answer_bytes code h r)))
answer_comes code xs space h a all passes asks (accepted d) =
    let only = asked_says code xs a all asks in
    let f = only.says.front in
    let head = head_as code xs h a only.says only.sendable passes in
    let whole : h.size ≡ length (frame_of code f a) = ap (λ (k : Header). k.size) head ∙ sym (length_request code f (command_number a) (subcommand_number a) (writing code a)) in
    let e = ap (λ k. answer_bytes code k (accepted d)) head in
    (a, d, only, asks, (whole, refl), (ap length e, ap (sets space 0) e))
answer_comes code xs space h a all passes asks (refused c) = inr (h, c, (tested_exact code 4096 xs h all passes).0, (refl, refl), (refl, refl))

pub taken_comes : (code : Code) (xs space : List ℕ) (m : Meaning) (g : Option Listed) (t : Served) → AllBytes xs → CameTo code xs m g t → ComesOf (is_none t.fault_met) code xs space (answer t space)
taken_comes code xs space m g t all (carried_out h a passes asks) = answer_comes code xs space h a all passes asks (done a m g).answer
taken_comes code xs space m g t all (turned_down h f passes) = inr (h, f.cause, (tested_exact code 4096 xs h all passes).0, (refl, refl), (refl, refl))
taken_comes code xs space m g t all (not_taken f) = inl (refl, refl)

-- a frame that met no fault had room for its reply
pub had_room : (code : Code) (xs : List ℕ) (space : ℕ) (m : Meaning) (flag : Bool) (g : Option Listed) → is_none (served code xs space m flag g).fault_met ≡ true → 4096 ≤ space
had_room code xs space m flag g e = go (ltb space 4096) refl _ e
  where
    go : (b : Bool) → ltb space 4096 ≡ b → (r : Result Header Fault) → is_none (taken_up code m flag g xs (cond b (Err (fault NoReplySpace 0)) r)).fault_met ≡ true → 4096 ≤ space
    go true h r e = let z : ◌≡◌ {A = ℕ} 0 1 = cc in absurd (omega arith)
    go false h r e = omega (arith, ltb-false space 4096 h)

-- a request that meets no cause is carried out
pub done_if_good : (a : Asked) (m : Meaning) (flag : Bool) (g : Option Listed) → cause_of (reaction a m flag g).answer ≡ None → reaction a m flag g ≡ done a m g
done_if_good a m flag g e = go (writes a && not flag) e
  where
    judged_so : (r : Result Asked Cause) → verdict m a ≡ r → cause_of (by_verdict m g r).answer ≡ None → by_verdict m g r ≡ done a m g
    judged_so (Ok b) v e = let same : b ≡ a = verdict_keeps m a b v in ap (λ x. done x m g) same
    judged_so (Err c) v e = cc

    go : (b : Bool) → cause_of (cond b (unchanged (refused WriteOff) m g) (by_verdict m g (verdict m a))).answer ≡ None
        → cond b (unchanged (refused WriteOff) m g) (by_verdict m g (verdict m a)) ≡ done a m g
    go true e = cc
    go false e = judged_so (verdict m a) refl e

-- no fault, no cause
pub no_cause : (f : Option Fault) → is_none f ≡ true → cause_met f ≡ None
no_cause None e = refl
no_cause (Some x) e = let z : ◌≡◌ {A = ℕ} 0 1 = cc in absurd (omega arith)

-- a request that passes its tests and is carried out meets no cause, but for a monitor with nothing registered
done_accepts : (a : Asked) (m : Meaning) (g : Option Listed) → (a ≡ monitor → is_some g ≡ true) → cause_of (done a m g).answer ≡ None
done_accepts (read_bits d i n) m g h = refl
done_accepts (read_words d i n) m g h = refl
done_accepts (write_bits d i vs) m g h = refl
done_accepts (write_words d i vs) m g h = refl
done_accepts (random_read ws ds) m g h = refl
done_accepts (register ws ds) m g h = refl
done_accepts monitor m None h = let no : ◌≡◌ {A = Bool} false true = h refl in cc
done_accepts monitor m (Some l) h = refl
done_accepts (random_bits ss) m g h = refl
done_accepts (random_write ws ds) m g h = refl

not_off : (a : Asked) (flag : Bool) → (writes a ≡ true → flag ≡ true) → (writes a && not flag) ≡ false
not_off a flag h = go (writes a) refl
  where
    go : (w : Bool) → writes a ≡ w → (w && not flag) ≡ false
    go true e = ap not (h e)
    go false e = refl

no_fault_met : (f : Option Fault) → cause_met f ≡ None → f ≡ None
no_fault_met None e = refl
no_fault_met (Some x) e = cc

-- and so such a frame is answered with no fault
pub passing_accepted : (s : State) (code : Code) (xs before after : List ℕ) (r : Answer) (m' : Meaning) (g' : Option Listed) → Came (at_frame s code xs before) r before after m' g'
    → PassingAccepted s code xs (length before) r
passing_accepted s code xs before after r m' g' came a says ok room passes on shown =
    let m = s.meaning in
    let g = s.registered in
    let x = answers_alike code xs (length before) m s.flag g a says.front says.rest says.fits ok room says.is in
    let carried : reaction a m s.flag g ≡ done a m g = ap (λ b. cond b (unchanged (refused WriteOff) m g) (by_verdict m g (verdict m a))) (not_off a s.flag on) ∙ ap (by_verdict m g) passes in
    no_fault_met r.fault (ap cause_met came.tells.meets ∙ x.cause ∙ ap (λ d. cause_of d.answer) carried ∙ done_accepts a m g shown)
