-- Numbers one behind the other.
use Rattle.std.specs.Prelude.{ℕ, ◌+◌, ◌≤◌, List, [], ◌∷◌, ◌++◌}
use Rattle.wire.specs.declared.code.Code.{Code}
use Rattle.wire.specs.declared.series.Number.{Number}
use Rattle.wire.specs.Numbers.{encode}

-- no number has more than four bytes
abbrev pub AllShort : List Number → Type 0
AllShort [] = Unit {0}
AllShort (n ∷ ns) = (n.size ≤ 4) × AllShort ns

-- how many bytes they have
abbrev pub series_size : List Number → ℕ
series_size [] = 0
series_size (n ∷ ns) = n.size + series_size ns

-- what is sent for them
abbrev pub series_bytes : Code → List Number → List ℕ
series_bytes code [] = []
series_bytes code (n ∷ ns) = encode code n.size n.value ++ series_bytes code ns

-- what is sent for values that all have `size` bytes
abbrev pub values_bytes : Code → ℕ → List ℕ → List ℕ
values_bytes code size [] = []
values_bytes code size (v ∷ vs) = encode code size v ++ values_bytes code size vs
