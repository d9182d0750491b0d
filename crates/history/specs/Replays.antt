-- What a replay of a list of calls comes to.
use Rattle.std.specs.Prelude.{◌≡◌, ◌<◌, true, false, List, length, take, is_ok, vec_items, vec_len}
use Rattle.server.specs.Histories.{State}
use Rattle.server.specs.Pairs.{EndAlike}
use Rattle.server.specs.Kept.{KeptToEnd, EndsOn}
use Rattle.history.specs.declared.replaying.Replayed.{Replayed}
use Rattle.history.specs.declared.call.Call.{Call}
use Rattle.history.specs.Moves.{moves, showings}

-- from the state s the first calls of a list were carried out, as many as there are outcomes, and left the state z
pub record Replays (s : State) (calls : List Call) (r : Replayed) (z : State) : Type 0 where
  -- they keep to everything that a history keeps to
  pub kept : KeptToEnd s (take (vec_len r.outcomes) (moves calls)) (showings (vec_items r.outcomes)) z
  -- and carry every history on that led here
  pub onward : EndsOn s (take (vec_len r.outcomes) (moves calls)) (showings (vec_items r.outcomes)) z
  -- the write flag is what it was
  pub flag : z.flag ≡ s.flag
  -- all calls were carried out unless it says so
  pub whole : is_ok r.end ≡ true → vec_len r.outcomes ≡ length calls
  -- and it says so only where a call is left, save for a list of none
  pub want : is_ok r.end ≡ false → 0 < length calls → vec_len r.outcomes < length calls

-- of two servers that start alike paired calls were carried out, all of them: the outcomes say the same, and both servers end alike
abbrev pub BothAlike : State → State → List Call → List Call → Replayed → Replayed → State → State → Type 0
BothAlike s t cs ds r q z y =
    is_ok r.end ≡ true → is_ok q.end ≡ true → EndAlike s t (moves cs) (moves ds) (showings (vec_items r.outcomes)) (showings (vec_items q.outcomes)) z y
