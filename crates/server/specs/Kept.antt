-- What a history keeps to, and a call that carries every history on.
use Rattle.std.specs.Prelude.{◌≡◌, List, [], ◌∷◌, ◌++◌}
use Rattle.server.specs.Histories.{Move, Shown, State, closed, Reached}
use Rattle.server.specs.Latest.{LatestWins, LatestShown}
use Rattle.server.specs.Pairs.{EndAlike}

-- what holds of calls ms that showed os and led from the state s to the state s'
pub record KeptTo (s : State) (ms : List Move) (os : List Shown) (s' : State) : Type 0 where
  -- each call showed what is fixed of it, and left what is fixed of it
  pub reached : Reached s ms os s'
  -- the latest accepted write wins
  pub latest : LatestWins s.meaning.value s'.meaning.value ms os
  -- a monitor shows the latest accepted registration
  pub monitors : LatestShown s.meaning.value s.registered ms os
  -- another server, over any memory, that started alike and was given calls that are paired with these one by one, told the same and ended alike
  pub alike : (t t' : State) (ns : List Move) (ps : List Shown) → Reached t ns ps t' → EndAlike s t ms ns os ps s' t'

-- calls that showed os and led from s to s' carry every history on that led to s
abbrev pub GoesOn : State → List Move → List Shown → State → Type 0
GoesOn s ms os s' = (s₀ : State) (ns : List Move) (ps : List Shown) → Reached s₀ ns ps s → KeptTo s₀ (ns ++ ms) (ps ++ os) s'

-- and so does one call
abbrev pub CarriesOn : State → Move → Shown → State → Type 0
CarriesOn s m o s' = GoesOn s (m ∷ []) (o ∷ []) s'

-- the same of calls whose end ends a window too, which leaves z
pub record KeptToEnd (s : State) (ms : List Move) (os : List Shown) (z : State) : Type 0 where
  pub last : State
  pub kept : KeptTo s ms os last
  pub closes : z ≡ closed last

abbrev pub EndsOn : State → List Move → List Shown → State → Type 0
EndsOn s ms os z = (s₀ : State) (ns : List Move) (ps : List Shown) → Reached s₀ ns ps s → KeptToEnd s₀ (ns ++ ms) (ps ++ os) z
