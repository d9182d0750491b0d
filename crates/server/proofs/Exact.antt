-- A frame whose request was accepted is the writing of that request, and of no other.
use Rattle.std.proofs.Common.{arith, ◌≡◌, ℕ, ◌≤◌, Bool, true, false, cond, not, ◌&&◌, eqb, List, ◌++◌, length, take, drop, None, Ok, Err, Option, Result, sym, refl, ap, ◌∙◌, subst, drop_at}
use Rattle.std.proofs.lemmas.Bool.{eqb-true, and_parts}
use Rattle.device.specs.declared.types.Device.{Device}
use Rattle.memory.specs.Meaning.{Meaning, extent_limit}
use Rattle.wire.specs.declared.code.Code.{Code}
use Rattle.wire.specs.Numbers.{AllBytes, then}
use Rattle.wire.proofs.Exact.{bytes_front, same_ok}
use Rattle.frame.specs.declared.fault.Cause.{Cause}
use Rattle.frame.specs.declared.fault.Cause.TheVariants.{WriteOff}
use Rattle.frame.specs.declared.fault.Fault.{Fault}
use Rattle.frame.specs.declared.header.Header.{Header}
use Rattle.frame.specs.Headers.{tested}
use Rattle.frame.specs.Written.{IsWritten, Front, front_bytes, request_bytes, header_of}
use Rattle.frame.proofs.Written.{length_front, take_request}
use Rattle.frame.proofs.Written as frames
use Rattle.frame.proofs.Exact.{tested_exact}
use Rattle.request.specs.Requests.{Asked, read_bits, read_words, write_bits, write_words, random_read, register, monitor, random_bits, random_write, Command, ReadBits, ReadWords, WriteBits, WriteWords, RandomRead, Register, Monitor, RandomBits, RandomWrite, while_on, command_of}
use Rattle.request.specs.Verdicts.{command, verdict}
use Rattle.request.specs.Readings.{judged_by, request_in}
use Rattle.request.specs.Writing.{writing}
use Rattle.request.specs.Laws.{Passed}
use Rattle.request.proofs.Alike.{alike, all_passed}
use Rattle.request.proofs.Walked.{IsAsked, request_exact}
use Rattle.server.specs.declared.answer.Answer.{Answer}
use Rattle.server.specs.Registered.{Listed}
use Rattle.server.specs.Serves.{answered, taken_up, served, Came}
use Rattle.server.specs.Says.{command_number, subcommand_number, writes, frame_of, head_of, Sendable}
use Rattle.server.specs.Writings.{Says, SaysOnly}
use Rattle.server.specs.Asks.{largest, asked_in}
use Rattle.server.specs.Taking.{AcceptedSays}
use Rattle.server.proofs.Looser.{request_too, tested_too}
use Rattle.server.proofs.Says.{command_fits, subcommand_fits, asked_for}

-- the numbers of a command and its subcommand
abbrev numbers : Command → ℕ × ℕ
numbers ReadBits = (0x0401, 1)
numbers ReadWords = (0x0401, 0)
numbers WriteBits = (0x1401, 1)
numbers WriteWords = (0x1401, 0)
numbers RandomRead = (0x0403, 0)
numbers Register = (0x0801, 0)
numbers Monitor = (0x0802, 0)
numbers RandomBits = (0x1402, 1)
numbers RandomWrite = (0x1402, 0)

numbers_said : (a : Asked) → numbers (command a) ≡ (command_number a, subcommand_number a)
numbers_said (read_bits d i n) = refl
numbers_said (read_words d i n) = refl
numbers_said (write_bits d i vs) = refl
numbers_said (write_words d i vs) = refl
numbers_said (random_read ws ds) = refl
numbers_said (register ws ds) = refl
numbers_said monitor = refl
numbers_said (random_bits vs) = refl
numbers_said (random_write ws ds) = refl

module _ (c s : ℕ) (k : Command) where
  -- one command tried, and then the others
  tried : (k' : Command) (x r : Result Command Cause) → cond (eqb c (numbers k').0 && eqb s (numbers k').1) x r ≡ Ok k → (x ≡ Ok k → k' ≡ k) → (r ≡ Ok k → (c, s) ≡ numbers k) → (c, s) ≡ numbers k
  tried k' x r e here others = go (eqb c (numbers k').0 && eqb s (numbers k').1) refl e
    where
      go : (b : Bool) → (eqb c (numbers k').0 && eqb s (numbers k').1) ≡ b → cond b x r ≡ Ok k → (c, s) ≡ numbers k
      go true f h =
          let t = and_parts (eqb c (numbers k').0) (eqb s (numbers k').1) f in
          (λ i. (eqb-true c (numbers k').0 t.0 i, eqb-true s (numbers k').1 t.1 i)) ∙ ap numbers (here h)
      go false f h = others h

  served_on : (flag : Bool) (k' : Command) → while_on flag k' ≡ Ok k → k' ≡ k
  served_on true k' e = same_ok k' k e
  served_on false k' e = cc

  -- a command that is served has its numbers
  served_by : (flag : Bool) → command_of c s flag ≡ Ok k → (c, s) ≡ numbers k
  served_by flag e =
      tried ReadBits (Ok ReadBits) _ e (same_ok ReadBits k)
      (λ e. tried ReadWords (Ok ReadWords) _ e (same_ok ReadWords k)
      (λ e. tried WriteBits (while_on flag WriteBits) _ e (served_on flag WriteBits)
      (λ e. tried WriteWords (while_on flag WriteWords) _ e (served_on flag WriteWords)
      (λ e. tried RandomRead (Ok RandomRead) _ e (same_ok RandomRead k)
      (λ e. tried Register (Ok Register) _ e (same_ok Register k)
      (λ e. tried Monitor (Ok Monitor) _ e (same_ok Monitor k)
      (λ e. tried RandomBits (while_on flag RandomBits) _ e (served_on flag RandomBits)
      (λ e. tried RandomWrite (while_on flag RandomWrite) _ e (served_on flag RandomWrite) (λ e. cc)))))))))

-- the frame behind a header that was written: cut off from what follows, and its data
record Cut (code : Code) (xs : List ℕ) (h : Header) (f : Front) (c s : ℕ) (ys : List ℕ) : Type 0 where
  pub whole : take h.size xs ≡ request_bytes code f c s ys
  pub behind : drop h.data_at (take h.size xs) ≡ ys

cut_off : (code : Code) (xs : List ℕ) (h : Header) (f : Front) (c s : ℕ) (ys rest : List ℕ) → xs ≡ request_bytes code f c s ys ++ rest → h ≡ header_of code f c s (length ys) → Cut code xs h f c s ys
cut_off code xs h f c s ys rest is head =
    let front = front_bytes code f c s (length ys) in
    let whole : take h.size xs ≡ request_bytes code f c s ys = ap (λ (k : Header). take k.size xs) head ∙ ap (take (header_of code f c s (length ys)).size) is ∙ take_request code f c s ys rest in
    let long : length front ≡ h.data_at = length_front code f c s (length ys) ∙ ap (λ (k : Header). k.data_at) (sym head) in
    record { whole = whole; behind = ap (drop h.data_at) whole ∙ drop_at front ys h.data_at long }

module _ (code : Code) (xs : List ℕ) (space : ℕ) (m : Meaning) (flag : Bool) (h : Header) (a : Asked) where
  -- a request whose writing stands in the frame is the one that was read
  read_as : (b : Asked) (f : Front) → Sendable b → h ≡ head_of code f b → take h.size xs ≡ frame_of code f b → request_in code m flag h (take h.size xs) ≡ Ok a → b ≡ a
  read_as b f ok head whole r = go (writes b && not flag) (asked_for b flag)
    where
      front : List ℕ
      front = front_bytes code f (command_number b) (subcommand_number b) (length (writing code b))

      read : request_in code m flag (head_of code f b) (frame_of code f b) ≡ Ok a
      read = ap (request_in code m flag (head_of code f b)) (sym whole) ∙ ap (λ k. request_in code m flag k (take h.size xs)) (sym head) ∙ r

      go : (n : Bool) → command_of (command_number b) (subcommand_number b) flag ≡ cond n (Err WriteOff) (Ok (command b)) → b ≡ a
      go true e =
          let refused : ◌≡◌ {A = Result Asked Fault} (judged_by code m (head_of code f b) (frame_of code f b) (Err WriteOff)) (Ok a) = ap (judged_by code m (head_of code f b) (frame_of code f b)) (sym e) ∙ read in
          cc
      go false e = sym ((alike code m flag (head_of code f b) (frame_of code f b) b front ok.0 refl (length_front code f (command_number b) (subcommand_number b) (length (writing code b))) e).1 a read)

  only_one : tested code space xs ≡ Ok h → request_in code m flag h (take h.size xs) ≡ Ok a → 4096 ≤ space → (b : Asked) → Sendable b → Says code xs b → b ≡ a
  only_one t r room b ok s =
      let ys = writing code b in
      let head : tested code space xs ≡ Ok (head_of code s.front b) = (frames.taken_up code space xs).back s.front (command_number b) (subcommand_number b) ys s.rest s.fits (command_fits b) (subcommand_fits b) (ok.1 code) room s.is in
      let same : h ≡ head_of code s.front b = same_ok h (head_of code s.front b) (sym t ∙ head) in
      let cut = cut_off code xs h s.front (command_number b) (subcommand_number b) ys s.rest s.is same in
      read_as b s.front ok same cut.whole r

  -- the data that was read, with the numbers of its command, is the writing of the request
  said_by : IsWritten code xs h → IsAsked code flag h (take h.size xs) a → Says code xs a
  said_by w q =
      let cut = cut_off code xs h w.front h.command h.subcommand w.ys w.rest w.is w.head in
      let ys : w.ys ≡ writing code a = sym cut.behind ∙ q.is in
      let n : (h.command, h.subcommand) ≡ (command_number a, subcommand_number a) = served_by h.command h.subcommand (command a) flag q.served ∙ numbers_said a in
      record { front = w.front; fits = w.fits; rest = w.rest; is = w.is ∙ (λ i. request_bytes code w.front (n i).0 (n i).1 (ys i) ++ w.rest) }

-- a frame that was read, and whose request was accepted, is the writing of that request, and of no other
pub says_only : (code : Code) (xs : List ℕ) (space : ℕ) (m : Meaning) (flag : Bool) (h : Header) (a : Asked) → AllBytes xs → ((d : Device) → m.extent d ≤ extent_limit d)
    → tested code space xs ≡ Ok h → request_in code m flag h (take h.size xs) ≡ Ok a → SaysOnly code xs a × (verdict m a ≡ Ok a)
says_only code xs space m flag h a all small t r =
    let w = tested_exact code space xs h all t in
    let q = request_exact code m flag h (take h.size xs) a (bytes_front h.size xs all) small r in (
      record { says = said_by code xs space m flag h a w.0 q; sendable = (q.fits, q.short); only = only_one code xs space m flag h a t r w.1 },
      subst (Passed m) r (all_passed code m flag h (take h.size xs)),
    )

-- and that request is what it asks
asks_so : (code : Code) (xs : List ℕ) (space : ℕ) (m : Meaning) (flag : Bool) (h : Header) (a : Asked) → ((d : Device) → m.extent d ≤ extent_limit d)
    → tested code space xs ≡ Ok h → request_in code m flag h (take h.size xs) ≡ Ok a → asked_in code xs ≡ Ok a
asks_so code xs space m flag h a small t r =
    ap (λ q. then q (λ k. request_in code largest true k (take k.size xs))) (tested_too code space xs h t) ∙ request_too code m small flag h (take h.size xs) a r

-- a frame that asks something is the writing of what it asks, and of nothing else
pub asked_says : (code : Code) (xs : List ℕ) (a : Asked) → AllBytes xs → asked_in code xs ≡ Ok a → SaysOnly code xs a
asked_says code xs a all e = go (tested code 4096 xs) refl e
  where
    go : (q : Result Header Fault) → tested code 4096 xs ≡ q → then q (λ k. request_in code largest true k (take k.size xs)) ≡ Ok a → SaysOnly code xs a
    go (Ok h) t r = (says_only code xs 4096 largest true h a all (λ d. omega arith) t r).0
    go (Err f) t r = cc

-- what a call came to without a fault is such a frame
pub accepted_says : (code : Code) (xs : List ℕ) (m m' : Meaning) (flag : Bool) (g g' : Option Listed) (r : Answer) (before after : List ℕ) → AllBytes xs → ((d : Device) → m.extent d ≤ extent_limit d)
    → Came (served code xs (length before) m flag g) r before after m' g' → AcceptedSays code xs m r
accepted_says code xs m m' flag g g' r before after all small came none = go (tested code (length before) xs) refl (sym came.tells.meets ∙ none)
  where
    read : (h : Header) (x : Result Asked Fault) → tested code (length before) xs ≡ Ok h → request_in code m flag h (take h.size xs) ≡ x → (answered code h m g x).fault_met ≡ None
        → (a : Asked) × SaysOnly code xs a × (asked_in code xs ≡ Ok a) × (verdict m a ≡ Ok a)
    read h (Ok a) t e f = let s = says_only code xs (length before) m flag h a all small t e in (a, s.0, asks_so code xs (length before) m flag h a small t e, s.1)
    read h (Err x) t e f = cc

    go : (x : Result Header Fault) → tested code (length before) xs ≡ x → (taken_up code m flag g xs x).fault_met ≡ None → (a : Asked) × SaysOnly code xs a × (asked_in code xs ≡ Ok a) × (verdict m a ≡ Ok a)
    go (Ok h) t f = read h (request_in code m flag h (take h.size xs)) t refl f
    go (Err x) t f = cc
