-- A history of calls to a server: what each call shows and leaves, and what a list of calls comes to.
use Rattle.std.specs.Prelude.{◌≡◌, ℕ, ◌<◌, ◌≤◌, Bool, true, List, [], ◌∷◌, ◌++◌, length, Some, None, Ok, Err, Option, Result}
use Rattle.std.proofs.lemmas.List.Edits.{sets}
use Rattle.device.specs.declared.types.Device.{Device}
use Rattle.memory.specs.declared.refusal.Refusal.{Refusal}
use Rattle.memory.specs.Meaning.{Meaning, write_answer, written as after_write, extent_limit}
use Rattle.memory.specs.Leaving.{Write}
use Rattle.wire.specs.declared.code.Code.{Code}
use Rattle.frame.specs.declared.fault.Fault.{Fault}
use Rattle.server.specs.declared.server.Server.{Server}
use Rattle.server.specs.declared.settings.Settings.{Settings}
use Rattle.server.specs.declared.registration.Registration.{Registration}
use Rattle.server.specs.Registered.{Listed, registered}
use Rattle.server.specs.Serves.{Served, served}
use Rattle.device.specs.Devices.{kind_of}
use Rattle.device.specs.declared.types.Kind.TheVariants.{Bit}
use Rattle.server.specs.declared.answer.Answer.{Answer}

-- a call
pub data Move : Type 0 where
  -- taking a frame: its code, the bytes that it stands at the front of, and the reply space as it is then
  frame : Code → List ℕ → List ℕ → Move
  -- the bench gives a point a value
  setting : Device → ℕ → ℕ → Move
  -- a calibration window is opened
  opening : Move
  -- and ended
  ending : Move

-- an outcome
pub data Shown : Type 0 where
  -- the bytes taken, the reply's length, any fault, and the reply space then
  taken : ℕ → ℕ → Option Fault → List ℕ → Shown
  -- what the memory answered
  written : Result (Unit {0}) Refusal → Shown
  -- the write flag then, and none if the call was declined
  window : Option Bool → Shown

-- what neither a frame nor a setting reads or changes: the write flag before the calibration window, if one is open
pub record Aside : Type 0 where
  pub before : Option Bool

-- the memory's meaning, the write flag, what is registered, and what frames and settings leave aside
pub record State : Type 0 where
  pub meaning : Meaning
  pub flag : Bool
  pub registered : Option Listed
  pub aside : Aside

-- no window is open
abbrev pub no_window : Aside
no_window = record { before = None }

-- the state of a memory, settings and a registration, by what the memory means and what the registration lists, with what stands aside
abbrev pub state_at : {A R : Type 0} → (A → Meaning) → (R → Option Listed) → A → Settings → R → Aside → State
state_at means lists memory settings registration aside =
    record { meaning = means memory; flag = settings.write_flag; registered = lists registration; aside = aside }

-- the state of a server while no window is open
abbrev pub state_of : {A : Type 0} → (A → Meaning) → Server A → State
state_of means server = state_at means registered server.memory server.settings server.registration no_window

-- a state with another meaning of the memory
abbrev pub with_meaning : Meaning → State → State
with_meaning m s = record { meaning = m; flag = s.flag; registered = s.registered; aside = s.aside }

-- a state with this write flag, and with this flag before the window, if one is open
abbrev pub with_flag : Bool → Option Bool → State → State
with_flag flag before s = record { meaning = s.meaning; flag = flag; registered = s.registered; aside = record { before = before } }

-- the state of a memory, settings and a registration within a window that was opened over these settings
abbrev pub in_window_of : {A : Type 0} → (A → Meaning) → A → Settings → Registration → State
in_window_of means memory settings registration =
    with_flag true (Some settings.write_flag) (state_at means registered memory settings registration no_window)

-- what taking a frame comes to
abbrev pub at_frame : State → Code → List ℕ → List ℕ → Served
at_frame s code xs space = served code xs (length space) s.meaning s.flag s.registered

-- a state once a frame came to this
abbrev pub after_frame : Served → State → State
after_frame t s = record { meaning = t.meaning; flag = s.flag; registered = t.registered; aside = s.aside }

-- an opening turns the flag on and remembers what it was; it is declined while a window is open
abbrev pub once_opened : Option Bool → State → State
once_opened None s = with_flag true (Some s.flag) s
once_opened (Some was) s = s

-- an ending puts the flag back; it is declined while no window is open
abbrev pub once_ended : Option Bool → State → State
once_ended None s = s
once_ended (Some was) s = with_flag was None s

-- what a call leaves
abbrev pub step : State → Move → State
step s (frame code xs space) = after_frame (at_frame s code xs space) s
step s (setting d n v) = with_meaning (after_write (write_answer s.meaning d n v) s.meaning d n v) s
step s opening = once_opened s.aside.before s
step s ending = once_ended s.aside.before s

-- a write that was carried out, and none that was refused
abbrev pub only_ok : Result (Unit {0}) Refusal → Write → List Write
only_ok (Ok _) w = w ∷ []
only_ok (Err _) w = []

-- the flag that an opening or an ending shows
abbrev pub on_opening : Option Bool → Option Bool
on_opening None = Some true
on_opening (Some was) = None

-- a reply stands at the front of the space, and what was behind it is kept
abbrev pub answer : Served → List ℕ → Shown
answer t space = taken t.taken (length t.bytes) t.fault_met (sets space 0 t.bytes)

-- what an answer of the server tells, with the reply space as it is then
abbrev pub shown_by : Answer → List ℕ → Shown
shown_by a space = taken a.taken a.length a.fault space

-- what a call shows
abbrev pub outcome : State → Move → Shown
outcome s (frame code xs space) = answer (at_frame s code xs space) space
outcome s (setting d n v) = written (write_answer s.meaning d n v)
outcome s opening = window (on_opening s.aside.before)
outcome s ending = window s.aside.before

-- the point writes that a call makes, in their order: none where it is refused, and none of an opening or an ending
abbrev pub made_by : State → Move → List Write
made_by s (frame code xs space) = (at_frame s code xs space).writes
made_by s (setting d n v) = only_ok (write_answer s.meaning d n v) (d, n, v)
made_by s opening = []
made_by s ending = []

-- what a list of calls shows, call by call
abbrev pub shown : State → List Move → List Shown
shown s [] = []
shown s (m ∷ ms) = outcome s m ∷ shown (step s m) ms

-- and leaves
abbrev pub after : State → List Move → State
after s [] = s
after s (m ∷ ms) = after (step s m) ms

-- the point writes that a list of calls makes
abbrev pub made_through : State → List Move → List Write
made_through s [] = []
made_through s (m ∷ ms) = made_by s m ++ made_through (step s m) ms

-- the end of the list ends a window too
abbrev pub closed : State → State
closed s = once_ended s.aside.before s

abbrev pub final : State → List Move → State
final s ms = closed (after s ms)

-- a memory's meaning as every memory has it: no extent passes its limit, and a bit point holds 0 or 1
pub record Lawful (m : Meaning) : Type 0 where
  pub small : (d : Device) → m.extent d ≤ extent_limit d
  pub narrow : (d : Device) (n : ℕ) → kind_of d ≡ Bit → m.value d n < 2

-- a history: from the state s the calls ms showed os and led to the state s', where a window may be open
pub record Reached (s : State) (ms : List Move) (os : List Shown) (s' : State) : Type 0 where
  pub lawful : Lawful s.meaning
  pub showed : os ≡ shown s ms
  pub led : s' ≡ after s ms

-- the same where the end of the calls ends a window too, and leaves z
pub record Ran (s : State) (ms : List Move) (os : List Shown) (z : State) : Type 0 where
  pub lawful : Lawful s.meaning
  pub showed : os ≡ shown s ms
  pub left : z ≡ final s ms
