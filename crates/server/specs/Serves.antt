-- What taking a frame answers and leaves.
use Rattle.std.specs.Prelude.{◌≡◌, ℕ, Bool, List, [], ◌++◌, length, take, Some, None, Ok, Err, Option, Result}
use Rattle.std.proofs.lemmas.List.Edits.{sets}
use Rattle.memory.specs.Meaning.{Meaning}
use Rattle.memory.specs.Leaving.{Write}
use Rattle.wire.specs.declared.code.Code.{Code}
use Rattle.frame.specs.declared.fault.Cause.TheVariants.{NotRegistered}
use Rattle.frame.specs.declared.fault.Fault.{Fault}
use Rattle.frame.specs.declared.header.Header.{Header}
use Rattle.frame.specs.Faults.{fault}
use Rattle.frame.specs.Headers.{tested}
use Rattle.request.specs.Requests.{Asked, read_bits, read_words, write_bits, write_words, random_read, register, monitor, random_bits, random_write}
use Rattle.request.specs.Readings.{request_in}
use Rattle.server.specs.declared.answer.Answer.{Answer}
use Rattle.server.specs.declared.points.Width.TheVariants.{Word, Double}
use Rattle.server.specs.Points.{words, bits, values_of}
use Rattle.server.specs.Writes.{after_writes, in_row, as_point, as_word, as_double, as_words, each}
use Rattle.server.specs.Registered.{Listed}
use Rattle.server.specs.Answers.{Answered, accepted, refused, no_data, in_bits, in_words, in_both, answer_bytes}

-- the answer to a request that passed its tests, the point writes that it makes, in their order, and what these leave of the memory's meaning, and it of the registration
pub record Done : Type 0 where
  pub answer : Answered
  pub writes : List Write
  pub meaning : Meaning
  pub registered : Option Listed

-- the answer to a list of words and double words that are shown
abbrev pub shown_list : Meaning → Listed → Answered
shown_list m l = accepted (in_both (values_of Word m.value l.0) (values_of Double m.value l.1))

-- the answer to a monitor request: the registered list, if there is one
abbrev pub monitored : Meaning → Option Listed → Answered
monitored m None = refused NotRegistered
monitored m (Some l) = shown_list m l

-- what is left of a memory and a registration by an answer that changes neither
abbrev pub unchanged : Answered → Meaning → Option Listed → Done
unchanged a m g = record { answer = a; writes = []; meaning = m; registered = g }

-- what accepted writes leave
abbrev pub wrote : List Write → Meaning → Option Listed → Done
wrote ws m g = record { answer = accepted no_data; writes = ws; meaning = after_writes m ws; registered = g }

-- carrying a request out, in no code
abbrev pub done : Asked → Meaning → Option Listed → Done
done (read_bits d i n) m g = unchanged (accepted (in_bits (bits m.value d i n))) m g
done (read_words d i n) m g = unchanged (accepted (in_words (words m.value d i n))) m g
done (write_bits d i vs) m g = wrote (in_row d i vs) m g
done (write_words d i vs) m g = wrote (as_words d i vs) m g
done (random_read ws ds) m g = unchanged (shown_list m (ws, ds)) m g
done (register ws ds) m g = record { answer = accepted no_data; writes = []; meaning = m; registered = Some (ws, ds) }
done monitor m g = unchanged (monitored m g) m g
done (random_bits ss) m g = wrote (each as_point ss) m g
done (random_write ws ds) m g = wrote (each as_word ws ++ each as_double ds) m g

-- what a call answers: the bytes taken, the reply's bytes, any fault; the point writes that it makes; and what it leaves
pub record Served : Type 0 where
  pub taken : ℕ
  pub bytes : List ℕ
  pub fault_met : Option Fault
  pub writes : List Write
  pub meaning : Meaning
  pub registered : Option Listed

-- the fault of an answer that comes after all data were read: it is at the command
abbrev pub late_fault : Header → Answered → Option Fault
late_fault h (accepted d) = None
late_fault h (refused c) = Some (fault c h.command_at)

abbrev pub finished : Code → Header → Done → Served
finished code h d =
    record { taken = h.size; bytes = answer_bytes code h d.answer; fault_met = late_fault h d.answer; writes = d.writes; meaning = d.meaning; registered = d.registered }

-- a request that failed a test draws the error reply, takes the whole frame and leaves all as it was
abbrev pub answered : Code → Header → Meaning → Option Listed → Result Asked Fault → Served
answered code h m g (Ok a) = finished code h (done a m g)
answered code h m g (Err f) = record { taken = h.size; bytes = answer_bytes code h (refused f.cause); fault_met = Some f; writes = []; meaning = m; registered = g }

-- a frame that is not taken up draws no reply and leaves all as it was
abbrev pub taken_up : Code → Meaning → Bool → Option Listed → List ℕ → Result Header Fault → Served
taken_up code m flag g xs (Ok h) = answered code h m g (request_in code m flag h (take h.size xs))
taken_up code m flag g xs (Err f) = record { taken = 0; bytes = []; fault_met = Some f; writes = []; meaning = m; registered = g }

-- taking the frame at the front of xs, in a code, with so much reply space
abbrev pub served : Code → List ℕ → ℕ → Meaning → Bool → Option Listed → Served
served code xs space m flag g = taken_up code m flag g xs (tested code space xs)

-- an answer tells this, and the reply space then holds the reply in front and what it held behind
pub record Tells (taken : ℕ) (bytes : List ℕ) (met : Option Fault) (a : Answer) (before after : List ℕ) : Type 0 where
  pub takes : a.taken ≡ taken
  pub long : a.length ≡ length bytes
  pub meets : a.fault ≡ met
  pub reply : after ≡ sets before 0 bytes

-- an answer tells what a request that was carried out is answered, and the reply space holds it
abbrev pub Replies : Code → Header → Answered → Answer → List ℕ → List ℕ → Type 0
Replies code h d a before after = Tells h.size (answer_bytes code h d) (late_fault h d) a before after

-- a call came to this
pub record Came (s : Served) (a : Answer) (before after : List ℕ) (m : Meaning) (g : Option Listed) : Type 0 where
  pub tells : Tells s.taken s.bytes s.fault_met a before after
  pub means : m ≡ s.meaning
  pub lists : g ≡ s.registered
