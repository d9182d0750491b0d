-- A run of a sheet is a history: of an opening, the frames that it answered, and an ending; without the sheet's version byte, of no call at all.
use Rattle.std.specs.Prelude.{◌≡◌, ℕ, ◌+◌, List, [], ◌∷◌, Some, None, Option}
use Rattle.frame.specs.declared.fault.Fault.{Fault}
use Rattle.server.specs.Histories.{Move, frame, setting, opening, ending, Shown, taken, written, window, State, Reached, shown}
use Rattle.sheet.specs.declared.run.RunEnd.{RunEnd}

abbrev pub counts : Option Fault → ℕ
counts None = 1
counts (Some f) = 0

-- how many frames were answered without a fault
abbrev pub good_replies : List Shown → ℕ
good_replies [] = 0
good_replies (taken n long met space ∷ os) = counts met + good_replies os
good_replies (written r ∷ os) = good_replies os
good_replies (window f ∷ os) = good_replies os

-- the reply space as a call leaves it
abbrev pub space_left : List ℕ → Shown → List ℕ
space_left space (taken n long met after) = after
space_left space (written r) = space
space_left space (window f) = space

-- the reply space after the last frame, and as it was before if there was none
abbrev pub last_space : List ℕ → List Shown → List ℕ
last_space space [] = space
last_space space (o ∷ os) = last_space (space_left space o) os

-- a frame finds the reply space as it is
abbrev pub Finds : List ℕ → Move → Type 0
Finds space (frame code bytes found) = found ≡ space
Finds space (setting d n v) = Unit {0}
Finds space opening = Unit {0}
Finds space ending = Unit {0}

-- each frame finds the reply space as the calls before it left it
abbrev pub OneSpace : List ℕ → List Move → List Shown → Type 0
OneSpace space [] os = Unit {0}
OneSpace space (m ∷ ms) [] = Unit {0}
OneSpace space (m ∷ ms) (o ∷ os) = Finds space m × OneSpace (space_left space o) ms os

-- from the state s and the reply space `before`, the calls ms led to s' and the reply space `after`; they share one reply space, the last reply stands in it, and the run counts the replies without a fault
pub record IsHistory (s : State) (before : List ℕ) (ms : List Move) (r : RunEnd) (after : List ℕ) (s' : State) : Type 0 where
  pub reached : Reached s ms (shown s ms) s'
  pub counted : r.count ≡ good_replies (shown s ms)
  pub one_space : OneSpace before ms (shown s ms)
  pub last : after ≡ last_space before (shown s ms)
