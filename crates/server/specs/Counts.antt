-- A count that may be absent.
use Rattle.std.specs.Prelude.{ℕ, Some, None, Option}

abbrev pub counted : Option ℕ → ℕ
counted None = 0
counted (Some n) = n
