-- The point writes that a request makes, in order, and what they leave.
use Rattle.std.specs.Prelude.{ℕ, zero, suc, ◌+◌, ◌/◌, ◌%◌, List, [], ◌∷◌, ◌++◌}
use Rattle.device.specs.declared.types.Device.{Device}
use Rattle.device.specs.declared.types.Kind.{Kind}
use Rattle.device.specs.declared.types.Kind.TheVariants.{Bit, Word as Whole}
use Rattle.device.specs.Devices.{kind_of}
use Rattle.memory.specs.Meaning.{Meaning, put}
use Rattle.memory.specs.Leaving.{Write}
use Rattle.request.specs.Limits.{points}
use Rattle.request.specs.Requests.{Setting}
use Rattle.server.specs.declared.points.Width.{Width}
use Rattle.server.specs.declared.points.Width.TheVariants.{Point, Word, Double}
use Rattle.server.specs.Points.{Values}

-- the values once all writes are made, one after the other: a later one wins
abbrev pub puts : Values → List Write → Values
puts V [] = V
puts V (w ∷ ws) = puts (put V w.0 w.1 w.2) ws

-- the meaning then: nothing else moves
abbrev pub after_writes : Meaning → List Write → Meaning
after_writes m ws = record { extent = m.extent; value = puts m.value ws; opened = m.opened }

-- a value for each point, one point behind the other
abbrev pub in_row : Device → ℕ → List ℕ → List Write
in_row d n [] = []
in_row d n (v ∷ vs) = (d, n, v) ∷ in_row d (n + 1) vs

-- so many bit points from a number, the lowest number from bit 0
abbrev pub spread : Device → ℕ → ℕ → ℕ → List Write
spread d n zero v = []
spread d n (suc k) v = (d, n, v % 2) ∷ spread d (n + 1) k (v / 2)

abbrev pub word_write : Kind → Device → ℕ → ℕ → List Write
word_write Bit d n v = spread d n 16 v
word_write Whole d n v = (d, n, v) ∷ []

-- a word: on a bit device 16 points
abbrev pub as_word : Device → ℕ → ℕ → List Write
as_word d n v = word_write (kind_of d) d n v

-- a double word: the low word first
abbrev pub as_double : Device → ℕ → ℕ → List Write
as_double d n v = as_word d n (v % 65536) ++ as_word d (n + points (kind_of d) 1) (v / 65536)

-- words one behind the other
abbrev pub as_words : Device → ℕ → List ℕ → List Write
as_words d n [] = []
as_words d n (v ∷ vs) = as_word d n v ++ as_words d (n + points (kind_of d) 1) vs

-- one point
abbrev pub as_point : Device → ℕ → ℕ → List Write
as_point d n v = (d, n, v) ∷ []

-- each setting in turn, by what one setting writes
abbrev pub each : (Device → ℕ → ℕ → List Write) → List Setting → List Write
each f [] = []
each f (s ∷ ss) = f s.0.0 s.0.1 s.1 ++ each f ss

-- what a setting writes
abbrev pub as_width : Width → Device → ℕ → ℕ → List Write
as_width Point d n v = as_point d n v
as_width Word d n v = as_word d n v
as_width Double d n v = as_double d n v
