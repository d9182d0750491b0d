-- The bytes that divide the words of a line.
use Rattle.std.specs.Prelude.{ℕ, Bool, ◌||◌, ◌==◌}

-- a blank (32), a tab (9) or a carriage return (13)
abbrev pub is_blank : ℕ → Bool
is_blank c = c == 32 || c == 9 || c == 13
