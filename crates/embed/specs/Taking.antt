-- What taking a frame answers and leaves of all that the caller lends.
use Rattle.std.specs.Prelude.{◌≡◌, ℕ, ◌≤◌, Bool, true, false, List, length, Some, None, is_some, Ok, Err, Option, Result}
use Rattle.std.proofs.lemmas.List.Edits.{sets}
use Rattle.wire.specs.declared.code.Code.{Code}
use Rattle.memory.specs.declared.layout.Form.{Form}
use Rattle.memory.specs.Meaning.{Meaning}
use Rattle.memory.specs.Leaving.{Leaving, Leads}
use Rattle.memory.specs.Stored.{stored, units_put}
use Rattle.memory.specs.Kept.{Kept}
use Rattle.frame.specs.declared.fault.Fault.{Fault}
use Rattle.frame.specs.Faults.{number_of}
use Rattle.server.specs.Serves.{Served, served}
use Rattle.embed.specs.declared.results.BenchAnswer.{BenchAnswer}
use Rattle.embed.specs.declared.registered.BenchRegistration.{BenchRegistration}
use Rattle.embed.specs.Registered.{is_listing, kept_list}

-- the number of a fault, and its place; 0 and 0 for none
abbrev pub fault_number : Option Fault → ℕ
fault_number (Some f) = number_of f.cause
fault_number None = 0

abbrev pub fault_place : Option Fault → ℕ
fault_place (Some f) = f.place
fault_place None = 0

-- the answer to a call whose arguments are refused
abbrev pub refusal : ℕ → BenchAnswer
refusal s = record { taken = 0; length = 0; place = 0; fault = 0; status = s }

-- an answer, the reply space and the registration tell what taking the frame at the front of xs came to: what was taken lies within xs, the reply within
-- its space; a fault leaves the registration what it was, and the next call finds it good
pub record Told (xs : List ℕ) (s : Served) (a : BenchAnswer) (before after : List ℕ) (k k' : BenchRegistration) : Type 0 where
  pub done : a.status ≡ 0
  pub takes : a.taken ≡ s.taken
  pub long : a.length ≡ length s.bytes
  pub fault : a.fault ≡ fault_number s.fault_met
  pub place : a.place ≡ fault_place s.fault_met
  pub within : (a.taken ≤ length xs) × (a.length ≤ length before)
  pub reply : after ≡ sets before 0 s.bytes
  pub lists : kept_list k' ≡ s.registered
  pub declined : is_some s.fault_met ≡ true → k' ≡ k
  pub listing : is_listing k' ≡ true

-- taking a frame over any memory: what it tells, and what it leaves of the memory and of its meaning
pub record Serves {S : Type 0} (meaning : S → Meaning) (leaves : Leaving S) (c : Code) (xs : List ℕ) (flag : Bool) (m : S) (reply : List ℕ) (k : BenchRegistration) (a : BenchAnswer) (m' : S) (reply' : List ℕ) (k' : BenchRegistration) : Type 0 where
  pub tells : Told xs (served c xs (length reply) (meaning m) flag (kept_list k)) a reply reply' k k'
  pub means : meaning m' ≡ (served c xs (length reply) (meaning m) flag (kept_list k)).meaning
  pub left : Leads leaves m (served c xs (length reply) (meaning m) flag (kept_list k)).writes m'

-- a call whose arguments are refused: all that was lent is as it was
pub record Refused (s : ℕ) (a : BenchAnswer) (reply us : List ℕ) (k : BenchRegistration) (reply' us' : List ℕ) (k' : BenchRegistration) : Type 0 where
  pub answer : a ≡ refusal s
  pub reply_space : reply' ≡ reply
  pub units : us' ≡ us
  pub registration : k' ≡ k

-- what taking a frame comes to, over storage of these extents
abbrev pub served_in : Form → Code → List ℕ → Bool → List ℕ → List ℕ → List ℕ → BenchRegistration → Served
served_in f c xs flag es reply us k = served c xs (length reply) (stored f us es) flag (kept_list k)

-- a frame that was taken: it is told, the units are exactly what its writes make of them, and whatever of them holds no point is kept
pub record Taken (f : Form) (es xs : List ℕ) (s : Served) (a : BenchAnswer) (reply us reply' us' : List ℕ) (k k' : BenchRegistration) : Type 0 where
  pub tells : Told xs s a reply reply' k k'
  pub units : us' ≡ units_put f es us s.writes
  pub kept : Kept f es us us'
  pub means : stored f us' es ≡ s.meaning

-- a call whose other arguments are good: by whether the registration can be listed
abbrev pub TakenBy : Bool → Form → Code → List ℕ → Bool → List ℕ → BenchAnswer → List ℕ → List ℕ → BenchRegistration → List ℕ → List ℕ → BenchRegistration → Type 0
TakenBy true f c xs flag es a reply us k reply' us' k' = Taken f es xs (served_in f c xs flag es reply us k) a reply us reply' us' k k'
TakenBy false f c xs flag es a reply us k reply' us' k' = Refused 104 a reply us k reply' us' k'

-- a call
abbrev pub Takes : Form → Result Code ℕ → Result (List ℕ) ℕ → List ℕ → Bool → BenchAnswer → List ℕ → List ℕ → BenchRegistration → List ℕ → List ℕ → BenchRegistration → Type 0
Takes f (Err s) e xs flag a reply us k reply' us' k' = Refused s a reply us k reply' us' k'
Takes f (Ok c) (Err s) xs flag a reply us k reply' us' k' = Refused s a reply us k reply' us' k'
Takes f (Ok c) (Ok es) xs flag a reply us k reply' us' k' = TakenBy (is_listing k) f c xs flag es a reply us k reply' us' k'
