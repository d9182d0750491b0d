-- What a request that is written by the forms is answered, by its field values alone.
use Rattle.std.specs.Prelude.{◌≡◌, ℕ, ◌+◌, ◌*◌, ◌≤◌, Bool, true, false, cond, not, ◌&&◌, List, ◌++◌, length, take, Some, None, Ok, Err, Option, Result}
use Rattle.memory.specs.Meaning.{Meaning}
use Rattle.wire.specs.declared.code.Code.{Code}
use Rattle.wire.specs.Numbers.{per_byte}
use Rattle.frame.specs.declared.fault.Cause.{Cause}
use Rattle.frame.specs.declared.fault.Cause.TheVariants.{WriteOff}
use Rattle.frame.specs.declared.fault.Fault.{Fault}
use Rattle.frame.specs.declared.header.Header.{Header}
use Rattle.frame.specs.Written.{Front, FrontFits, request_bytes, header_of}
use Rattle.request.specs.Requests.{Asked, read_bits, read_words, write_bits, write_words, random_read, register, monitor, random_bits, random_write}
use Rattle.request.specs.Verdicts.{verdict}
use Rattle.request.specs.Writing.{writing, FitsBoth}
use Rattle.server.specs.declared.answer.Answer.{Answer}
use Rattle.server.specs.Registered.{Listed}
use Rattle.server.specs.Answers.{Answered, accepted, refused, answer_bytes}
use Rattle.server.specs.Serves.{Done, unchanged, done}

-- the number of a request's command
abbrev pub command_number : Asked → ℕ
command_number (read_bits d i n) = 0x0401
command_number (read_words d i n) = 0x0401
command_number (write_bits d i vs) = 0x1401
command_number (write_words d i vs) = 0x1401
command_number (random_read ws ds) = 0x0403
command_number (register ws ds) = 0x0801
command_number monitor = 0x0802
command_number (random_bits vs) = 0x1402
command_number (random_write ws ds) = 0x1402

-- and of its subcommand: 1 for points in bits
abbrev pub subcommand_number : Asked → ℕ
subcommand_number (read_bits d i n) = 1
subcommand_number (read_words d i n) = 0
subcommand_number (write_bits d i vs) = 1
subcommand_number (write_words d i vs) = 0
subcommand_number (random_read ws ds) = 0
subcommand_number (register ws ds) = 0
subcommand_number monitor = 0
subcommand_number (random_bits vs) = 1
subcommand_number (random_write ws ds) = 0

-- whether a request writes
abbrev pub writes : Asked → Bool
writes (read_bits d i n) = false
writes (read_words d i n) = false
writes (write_bits d i vs) = true
writes (write_words d i vs) = true
writes (random_read ws ds) = false
writes (register ws ds) = false
writes monitor = false
writes (random_bits vs) = true
writes (random_write ws ds) = true

-- what comes of a verdict: a request that passed is carried out, any other is refused
abbrev pub by_verdict : Meaning → Option Listed → Result Asked Cause → Done
by_verdict m g (Ok a) = done a m g
by_verdict m g (Err c) = unchanged (refused c) m g

-- what comes of a request, in no code: a write while the flag is off is refused first, then its field values are judged, then it is carried out
abbrev pub reaction : Asked → Meaning → Bool → Option Listed → Done
reaction a m flag g = cond (writes a && not flag) (unchanged (refused WriteOff) m g) (by_verdict m g (verdict m a))

-- the frame of a request, around its writing in a code
abbrev pub frame_of : Code → Front → Asked → List ℕ
frame_of code f a = request_bytes code f (command_number a) (subcommand_number a) (writing code a)

-- and its header
abbrev pub head_of : Code → Front → Asked → Header
head_of code f a = header_of code f (command_number a) (subcommand_number a) (length (writing code a))

-- within the widths and the length limit of both codes
abbrev pub Sendable : Asked → Type 0
Sendable a = FitsBoth a × ((code : Code) → 6 * per_byte code + length (writing code a) ≤ 8192)

-- the cause of an answer that refuses, and that of a fault
abbrev pub cause_of : Answered → Option Cause
cause_of (accepted d) = None
cause_of (refused c) = Some c

abbrev pub cause_met : Option Fault → Option Cause
cause_met None = None
cause_met (Some f) = Some f.cause

-- a frame that is the writing of a request is taken whole; the reply, at the front of the reply space, is the writing of the answer `d` in the same code, and `d` is what is left
pub record Reacted (code : Code) (f : Front) (a : Asked) (d : Done) (r : Answer) (after : List ℕ) (m : Meaning) (g : Option Listed) : Type 0 where
  pub whole : r.taken ≡ length (frame_of code f a)
  pub long : r.length ≡ length (answer_bytes code (head_of code f a) d.answer)
  pub reply : take r.length after ≡ answer_bytes code (head_of code f a) d.answer
  pub cause : cause_met r.fault ≡ cause_of d.answer
  pub leaves : m ≡ d.meaning
  pub lists : g ≡ d.registered

-- a frame that is the writing of a request is answered by its field values alone, in whichever code, and whatever follows it
abbrev pub AlikeAnswer : Code → List ℕ → Meaning → Bool → Option Listed → Answer → List ℕ → List ℕ → Meaning → Option Listed → Type 0
AlikeAnswer code xs m flag g r before after m' g' =
    (a : Asked) (f : Front) (rest : List ℕ) → FrontFits f → Sendable a → 4096 ≤ length before → xs ≡ frame_of code f a ++ rest
    → Reacted code f a (reaction a m flag g) r after m' g'
