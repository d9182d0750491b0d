-- The numbers of a memory's refusals.
use Rattle.std.specs.Prelude.{ℕ}
use Rattle.memory.specs.declared.refusal.Refusal.{Refusal}
use Rattle.memory.specs.declared.refusal.Refusal.TheVariants.{NoRoom, NoLock, Outside, Closed, TooWide}

abbrev pub number_of : Refusal → ℕ
number_of NoRoom = 9
number_of NoLock = 10
number_of Outside = 11
number_of Closed = 12
number_of TooWide = 13
