-- The calls of a list and their outcomes, with everything that they hold written out.
use Rattle.std.specs.Prelude.{◌≡◌, ℕ, true, List, map, take, drop, is_none, is_some, vec_items, vec_len}
use Rattle.std.specs.Global.{Vec}
use Rattle.server.specs.Histories.{State, Reached, Aside, Move, frame, setting, opening, ending, Shown, taken, written, window}
use Rattle.history.specs.declared.call.Call.{Call}
use Rattle.history.specs.declared.call.Call.TheVariants.{Frame, Set, Open, End}
use Rattle.history.specs.declared.call.Outcome.{Outcome}
use Rattle.history.specs.declared.call.Outcome.TheVariants.{Taken, Written, Window}

abbrev pub move : Call → Move
move (Frame code bytes space) = frame code bytes.now space.now
move (Set d n v) = setting d n v
move Open = opening
move End = ending

abbrev pub moves : List Call → List Move
moves cs = map move cs

abbrev pub showing : Outcome → Shown
showing (Taken a space) = taken a.taken a.length a.fault (vec_items space)
showing (Written r) = written r
showing (Window f) = window f

abbrev pub showings : List Outcome → List Shown
showings os = map showing os

-- a call that leaves it as it is whether a window is open: an opening within one and an ending outside are declined
abbrev pub StaysIn : Move → Aside → Type 0
StaysIn (frame code bytes space) w = Unit {0}
StaysIn (setting d n v) w = Unit {0}
StaysIn opening w = is_some w.before ≡ true
StaysIn ending w = is_none w.before ≡ true

-- the calls that are left of a list once so many are carried out
abbrev pub Left : List Move → ℕ → List Call → Type 0
Left all n cs = drop n all ≡ moves cs

-- of all the calls of a list so many showed these outcomes and led from the state s to here, and these are left
pub record SoFar (s : State) (all : List Move) (rest : List Call) (os : Vec Outcome) (here : State) : Type 0 where
  pub left : Left all (vec_len os) rest
  pub reached : Reached s (take (vec_len os) all) (showings (vec_items os)) here
