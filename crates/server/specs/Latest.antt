-- What a history says of a point and of the registration, and what a server keeps to by it.
use Rattle.std.specs.Prelude.{◌≡◌, ℕ, ◌<◌, ◌≤◌, Bool, true, false, cond, ◌⊎◌, List, [], ◌∷◌, length, take, Some, None, Ok, Option, slice_index_or}
use Rattle.std.specs.Option.{option_or}
use Rattle.std.proofs.lemmas.List.Edits.{sets}
use Rattle.device.specs.declared.types.Device.{Device}
use Rattle.memory.specs.Meaning.{same_point}
use Rattle.memory.specs.Leaving.{Write}
use Rattle.wire.specs.declared.code.Code.{Code}
use Rattle.wire.specs.Numbers.{AllBytes}
use Rattle.frame.specs.declared.fault.Cause.{Cause}
use Rattle.frame.specs.declared.fault.Cause.TheVariants.{NotRegistered}
use Rattle.frame.specs.declared.header.Header.{Header}
use Rattle.frame.specs.Written.{IsWritten}
use Rattle.request.specs.Requests.{Asked, random_read, monitor}
use Rattle.server.specs.Points.{Values}
use Rattle.server.specs.Registered.{Listed}
use Rattle.server.specs.Answers.{Data, Answered, accepted, refused, answer_bytes}
use Rattle.server.specs.Says.{Sendable, frame_of, head_of, cause_of, cause_met}
use Rattle.server.specs.Writings.{Says, SaysOnly}
use Rattle.server.specs.Histories.{Move, frame, ending, Shown, taken, written, window}
use Rattle.server.specs.Asks.{asked_in, sent, list_sent, data_shown, is_accepted}

-- the value of a point once writes are made in their order, from v
abbrev pub given : Device → ℕ → ℕ → List Write → ℕ
given d n v [] = v
given d n v (w ∷ ws) = given d n (cond (same_point w.0 w.1 d n) w.2 v) ws

-- the value that the latest accepted call gave a point, or v if none did
abbrev pub latest : Device → ℕ → ℕ → List Move → List Shown → ℕ
latest d n v [] os = v
latest d n v (m ∷ ms) [] = v
latest d n v (m ∷ ms) (o ∷ os) = latest d n (cond (is_accepted o) (given d n v (sent m)) v) ms os

-- the values that the calls left, from V
abbrev pub by_history : Values → List Move → List Shown → Values
by_history V ms os d n = latest d n (V d n) ms os

-- what is registered once a call showed this: the list that it sent, if it was accepted and sent one, and what was registered before, if not
abbrev pub list_then : Option Listed → Move → Shown → Option Listed
list_then g m o = cond (is_accepted o) (option_or (list_sent m) g) g

-- the list that the latest accepted registration sent, or g if there was none
abbrev pub latest_list : Option Listed → List Move → List Shown → Option Listed
latest_list g [] os = g
latest_list g (m ∷ ms) [] = g
latest_list g (m ∷ ms) (o ∷ os) = latest_list (list_then g m o) ms os

-- the call with an index is the taking of this frame
abbrev pub FrameAt : List Move → ℕ → Code → List ℕ → List ℕ → Type 0
FrameAt ms k code xs space = (k < length ms) × (slice_index_or ms k ending ≡ frame code xs space)

-- the outcome with an index
abbrev pub nth : List Shown → ℕ → Shown
nth os k = slice_index_or os k (window None)

-- an outcome left this reply at the front of the space, and behind it what the space held
abbrev pub Replied : Shown → List ℕ → List ℕ → Type 0
Replied (taken t n f after) space bytes = (n ≡ length bytes) × (after ≡ sets space 0 bytes)
Replied (written r) space bytes = ⊥
Replied (window f) space bytes = ⊥

-- a frame that is the writing of a request drew this answer, in its own code
abbrev pub Draws : {code : Code} {xs : List ℕ} {a : Asked} → Says code xs a → Answered → List ℕ → Shown → Type 0
Draws {code = code} {a = a} says answer space o = Replied o space (answer_bytes code (head_of code says.front a) answer)

-- a frame of so many bytes was taken whole, and its fault is that of the answer
abbrev pub TakenWhole : ℕ → Answered → Shown → Type 0
TakenWhole size answer (taken t n f after) = (t ≡ size) × (cause_met f ≡ cause_of answer)
TakenWhole size answer (written r) = ⊥
TakenWhole size answer (window f) = ⊥

-- what comes of a frame: an accepted one is the writing of one request, which is what it asks, and draws a reply with 0000; any other draws no reply, or one
-- with the end code of its fault
abbrev pub ComesOf : Bool → Code → List ℕ → List ℕ → Shown → Type 0
ComesOf true code xs space o =
    (a : Asked) × (d : Data) × (only : SaysOnly code xs a) × (asked_in code xs ≡ Ok a) × TakenWhole (length (frame_of code only.says.front a)) (accepted d) o
    × Draws only.says (accepted d) space o
ComesOf false code xs space o =
    Replied o space [] ⊎ ((h : Header) × (c : Cause) × IsWritten code xs h × TakenWhole h.size (refused c) o × Replied o space (answer_bytes code h (refused c)))

-- of the calls ms with the outcomes os, which found the values V and left V'
pub record LatestWins (V V' : Values) (ms : List Move) (os : List Shown) : Type 0 where
  -- each point has the value of the latest accepted write, or its starting value
  pub points : (d : Device) (n : ℕ) → V' d n ≡ latest d n (V d n) ms os
  -- a frame of bytes counts as accepted just where its end code is 0000
  pub frames : (k : ℕ) (code : Code) (xs space : List ℕ) → FrameAt ms k code xs space → AllBytes xs → ComesOf (is_accepted (nth os k)) code xs space (nth os k)
  -- an accepted read shows what its form makes of the values latest before it
  pub reads : (k : ℕ) (code : Code) (xs space : List ℕ) (a : Asked) (says : Says code xs a) (d : Data) → FrameAt ms k code xs space → Sendable a
      → data_shown a (by_history V (take k ms) (take k os)) ≡ Some d → is_accepted (nth os k) ≡ true → Draws says (accepted d) space (nth os k)

-- of the calls ms with the outcomes os, which found the values V and the registration g
pub record LatestShown (V : Values) (g : Option Listed) (ms : List Move) (os : List Shown) : Type 0 where
  -- a monitor request is refused as long as no registration was accepted
  pub unregistered : (k : ℕ) (code : Code) (xs space : List ℕ) (says : Says code xs monitor) → FrameAt ms k code xs space → 4096 ≤ length space
      → latest_list g (take k ms) (take k os) ≡ None → Draws says (refused NotRegistered) space (nth os k)
  -- and then it gets what a random read of the latest list gets at that moment
  pub registered : (k : ℕ) (code : Code) (xs space : List ℕ) (says : Says code xs monitor) (l : Listed) (d : Data) → FrameAt ms k code xs space → 4096 ≤ length space
      → latest_list g (take k ms) (take k os) ≡ Some l → data_shown (random_read l.0 l.1) (by_history V (take k ms) (take k os)) ≡ Some d
      → (is_accepted (nth os k) ≡ true) × Draws says (accepted d) space (nth os k)
