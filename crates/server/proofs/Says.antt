-- A request that is written by the forms is answered by its field values alone.
use Rattle.std.proofs.Common.{◌≡◌, ℕ, ◌+◌, ◌<◌, ◌≤◌, Bool, true, false, cond, not, ◌&&◌, List, [], ◌∷◌, ◌++◌, length, take, drop, Ok, Err, Option, Result, sym, refl, ap, ◌∙◌, subst, arith, take_at}
use lib.Seq.{sets}
use Rattle.memory.specs.Meaning.{Meaning}
use Rattle.memory.specs.Leaving.{Leaving, Leads}
use Rattle.wire.specs.declared.code.Code.{Code}
use Rattle.wire.proofs.Places.{drop_sets}
use Rattle.frame.specs.declared.fault.Cause.TheVariants.{WriteOff}
use Rattle.frame.specs.declared.fault.Fault.{Fault}
use Rattle.frame.specs.declared.header.Header.{Header}
use Rattle.frame.specs.Headers.{tested}
use Rattle.frame.specs.Written.{Front, FrontFits, front_bytes}
use Rattle.frame.proofs.Written.{length_front, length_request, take_request}
use Rattle.frame.proofs.Written as frames
use Rattle.request.specs.Requests.{Asked, read_bits, read_words, write_bits, write_words, random_read, register, monitor, random_bits, random_write, command_of}
use Rattle.request.specs.Verdicts.{command, Test, judge, tests, verdict, forget}
use Rattle.request.specs.Readings.{judged_by, request_in}
use Rattle.request.specs.Writing.{writing}
use Rattle.request.proofs.Alike.{alike}
use Rattle.server.specs.declared.answer.Answer.{Answer}
use Rattle.server.specs.Registered.{Listed}
use Rattle.server.specs.Answers.{Answered, accepted, refused, answer_bytes}
use Rattle.server.specs.Serves.{Done, unchanged, done, late_fault, answered, taken_up, Served, served, Came}
use Rattle.server.specs.Laws.{ReadsMoveNothing}
use Rattle.server.proofs.Upheld.{stays}
use Rattle.server.specs.Says.{command_number, subcommand_number, writes, by_verdict, reaction, frame_of, head_of, Sendable, cause_of, cause_met, AlikeAnswer}

-- what `Reacted` says of a call, of what is fixed of it
pub record Reacts (code : Code) (f : Front) (a : Asked) (d : Done) (t : Served) : Type 0 where
  pub whole : t.taken ≡ length (frame_of code f a)
  pub reply : t.bytes ≡ answer_bytes code (head_of code f a) d.answer
  pub cause : cause_met t.fault_met ≡ cause_of d.answer
  pub writes : t.writes ≡ d.writes
  pub leaves : t.meaning ≡ d.meaning
  pub lists : t.registered ≡ d.registered

-- and what `AlikeAnswer` says
abbrev pub AnswersAlike : Code → List ℕ → ℕ → Meaning → Bool → Option Listed → Served → Type 0
AnswersAlike code xs space m flag g t =
    (a : Asked) (f : Front) (rest : List ℕ) → FrontFits f → Sendable a → 4096 ≤ space → xs ≡ frame_of code f a ++ rest → Reacts code f a (reaction a m flag g) t

-- the numbers of a command fit their fields
pub command_fits : (a : Asked) → command_number a < 65536
command_fits (read_bits d i n) = omega arith
command_fits (read_words d i n) = omega arith
command_fits (write_bits d i vs) = omega arith
command_fits (write_words d i vs) = omega arith
command_fits (random_read ws ds) = omega arith
command_fits (register ws ds) = omega arith
command_fits monitor = omega arith
command_fits (random_bits vs) = omega arith
command_fits (random_write ws ds) = omega arith

pub subcommand_fits : (a : Asked) → subcommand_number a < 65536
subcommand_fits (read_bits d i n) = omega arith
subcommand_fits (read_words d i n) = omega arith
subcommand_fits (write_bits d i vs) = omega arith
subcommand_fits (write_words d i vs) = omega arith
subcommand_fits (random_read ws ds) = omega arith
subcommand_fits (register ws ds) = omega arith
subcommand_fits monitor = omega arith
subcommand_fits (random_bits vs) = omega arith
subcommand_fits (random_write ws ds) = omega arith

-- the command of a request is served, but for a write while the flag is off
pub asked_for : (a : Asked) (flag : Bool) → command_of (command_number a) (subcommand_number a) flag ≡ cond (writes a && not flag) (Err WriteOff) (Ok (command a))
asked_for (read_bits d i n) flag = refl
asked_for (read_words d i n) flag = refl
asked_for (write_bits d i vs) true = refl
asked_for (write_bits d i vs) false = refl
asked_for (write_words d i vs) true = refl
asked_for (write_words d i vs) false = refl
asked_for (random_read ws ds) flag = refl
asked_for (register ws ds) flag = refl
asked_for monitor flag = refl
asked_for (random_bits vs) true = refl
asked_for (random_bits vs) false = refl
asked_for (random_write ws ds) true = refl
asked_for (random_write ws ds) false = refl

late_cause : (h : Header) (x : Answered) → cause_met (late_fault h x) ≡ cause_of x
late_cause h (accepted d) = refl
late_cause h (refused c) = refl

-- an answer comes to what the judgment without its place says
answered_as : (code : Code) (f : Front) (a : Asked) (m : Meaning) (g : Option Listed) (r : Result Asked Fault) → Reacts code f a (by_verdict m g (forget r)) (answered code (head_of code f a) m g r)
answered_as code f a m g (Ok b) =
    record { whole = sym (length_request code f (command_number a) (subcommand_number a) (writing code a)); reply = refl; cause = late_cause (head_of code f a) (done b m g).answer; writes = refl; leaves = refl; lists = refl }
answered_as code f a m g (Err e) =
    record { whole = sym (length_request code f (command_number a) (subcommand_number a) (writing code a)); reply = refl; cause = refl; writes = refl; leaves = refl; lists = refl }

-- the judgment of the frame, without its place
judged_as : (code : Code) (f : Front) (a : Asked) (m : Meaning) (flag : Bool) → Sendable a
    → forget (request_in code m flag (head_of code f a) (frame_of code f a)) ≡ cond (writes a && not flag) (Err WriteOff) (verdict m a)
judged_as code f a m flag ok = go (writes a && not flag) (asked_for a flag)
  where
    go : (b : Bool) → command_of (command_number a) (subcommand_number a) flag ≡ cond b (Err WriteOff) (Ok (command a))
        → forget (request_in code m flag (head_of code f a) (frame_of code f a)) ≡ cond b (Err WriteOff) (verdict m a)
    go true e = ap (λ c. forget (judged_by code m (head_of code f a) (frame_of code f a) c)) e
    go false e =
        (alike code m flag (head_of code f a) (frame_of code f a) a (front_bytes code f (command_number a) (subcommand_number a) (length (writing code a))) ok.0 refl
        (length_front code f (command_number a) (subcommand_number a) (length (writing code a))) e).0

reaction_is : (a : Asked) (m : Meaning) (g : Option Listed) (b : Bool) → by_verdict m g (cond b (Err WriteOff) (verdict m a)) ≡ cond b (unchanged (refused WriteOff) m g) (by_verdict m g (verdict m a))
reaction_is a m g true = refl
reaction_is a m g false = refl

pub answers_alike : (code : Code) (xs : List ℕ) (space : ℕ) (m : Meaning) (flag : Bool) (g : Option Listed) → AnswersAlike code xs space m flag g (served code xs space m flag g)
answers_alike code xs space m flag g a f rest fits ok room is =
    let h = head_of code f a in
    let c = command_number a in
    let s = subcommand_number a in
    let ys = writing code a in
    let read = request_in code m flag h (frame_of code f a) in
    let head : tested code space xs ≡ Ok h = (frames.taken_up code space xs).back f c s ys rest fits (command_fits a) (subcommand_fits a) (ok.1 code) room is in
    let cut : take h.size xs ≡ frame_of code f a = ap (take h.size) is ∙ take_request code f c s ys rest in
    let same : served code xs space m flag g ≡ answered code h m g read = ap (taken_up code m flag g xs) head ∙ ap (λ zs. answered code h m g (request_in code m flag h zs)) cut in
    let comes : by_verdict m g (forget read) ≡ reaction a m flag g = ap (by_verdict m g) (judged_as code f a m flag ok) ∙ reaction_is a m g (writes a && not flag) in
    let Q : Done → Type 0 = λ d. Reacts code f a d (answered code h m g read) in
    subst (Reacts code f a (reaction a m flag g)) (sym same) (subst Q comes (answered_as code f a m g read))

-- what was stored at the front of a space that has room for it stands there
in_front : (before bytes : List ℕ) (n : ℕ) → n ≡ length bytes → length bytes ≤ length before → take n (sets before 0 bytes) ≡ bytes
in_front before bytes n e fits = ap (take n) (drop_sets before 0 bytes (omega arith)) ∙ take_at bytes (drop (0 + length bytes) before) n (sym e)

-- what a call came to is such an answer
pub alike_answer : (code : Code) (xs : List ℕ) (m m' : Meaning) (flag : Bool) (g g' : Option Listed) (r : Answer) (before after : List ℕ)
    → Came (served code xs (length before) m flag g) r before after m' g' → r.length ≤ length before → AlikeAnswer code xs m flag g r before after m' g'
alike_answer code xs m m' flag g g' r before after came within a f rest fits ok room is =
    let t = answers_alike code xs (length before) m flag g a f rest fits ok room is in
    record {
      whole = came.tells.takes ∙ t.whole;
      long = came.tells.long ∙ ap length t.reply;
      reply = ap (take r.length) came.tells.reply ∙ in_front before (served code xs (length before) m flag g).bytes r.length came.tells.long (subst (λ n. n ≤ length before) came.tells.long within) ∙ t.reply;
      cause = ap cause_met came.tells.meets ∙ t.cause;
      leaves = came.means ∙ t.leaves;
      lists = came.lists ∙ t.lists;
    }

-- a request that is no write makes no point writes
reads_only : (a : Asked) (m : Meaning) (g : Option Listed) → writes a ≡ false → (done a m g).writes ≡ []
reads_only (read_bits d i n) m g e = refl
reads_only (read_words d i n) m g e = refl
reads_only (write_bits d i vs) m g e = cc
reads_only (write_words d i vs) m g e = cc
reads_only (random_read ws ds) m g e = refl
reads_only (register ws ds) m g e = refl
reads_only monitor m g e = refl
reads_only (random_bits vs) m g e = cc
reads_only (random_write ws ds) m g e = cc

-- whatever the tests say
judged_only : (ts : List Test) (a : Asked) (m : Meaning) (g : Option Listed) → (done a m g).writes ≡ [] → (by_verdict m g (judge ts a)).writes ≡ []
judged_only [] a m g e = e
judged_only (t ∷ ts) a m g e = go t.1 (judged_only ts a m g e)
  where
    go : (b : Bool) → (by_verdict m g (judge ts a)).writes ≡ [] → (by_verdict m g (cond b (judge ts a) (Err t.0))).writes ≡ []
    go true h = h
    go false h = refl

reacts_only : (a : Asked) (m : Meaning) (flag : Bool) (g : Option Listed) → writes a ≡ false → (reaction a m flag g).writes ≡ []
reacts_only a m flag g e = go (writes a && not flag)
  where
    go : (b : Bool) → (cond b (unchanged (refused WriteOff) m g) (by_verdict m g (verdict m a))).writes ≡ []
    go true = refl
    go false = judged_only (tests m a) a m g (reads_only a m g e)

pub reads_move_nothing : {S : Type 0} (leaves : Leaving S) (code : Code) (xs : List ℕ) (space : ℕ) (m : Meaning) (flag : Bool) (g : Option Listed) (s s' : S)
    → Leads leaves s (served code xs space m flag g).writes s' → ReadsMoveNothing code xs space s s'
reads_move_nothing leaves code xs space m flag g s s' l a f rest fits ok room is reads =
    let t = answers_alike code xs space m flag g a f rest fits ok room is in
    stays leaves s s' _ l (t.writes ∙ reacts_only a m flag g reads)
