-- Which points locked ranges close, and what one more lock answers and leaves.
use Rattle.std.specs.Prelude.{◌≡◌, ℕ, Bool, false, cond, not, ◌&&◌, List, [], ◌∷◌, ◌++◌, length, Ok, Err, Result, ◌==◌, nat_le, nat_lt}
use Rattle.std.specs.List.{list_any}
use Rattle.std.proofs.Common.{ap}
use Rattle.device.specs.declared.types.Device.{Device}
use Rattle.device.specs.declared.types.Device.TheVariants.{M}
use Rattle.device.specs.Devices.{place_of}
use Rattle.memory.specs.Meaning.{Meaning}
use Rattle.memory.specs.declared.locks.Range.{Range}
use Rattle.memory.specs.declared.refusal.Refusal.{Refusal}
use Rattle.memory.specs.declared.refusal.Refusal.TheVariants.{NoLock}

-- whether a point lies in a range, its first and its last number among them
abbrev pub covers : Range → Device → ℕ → Bool
covers r d n = place_of r.device == place_of d && (nat_le r.first n && nat_le n r.last)

-- whether a point lies in one of the ranges
abbrev pub is_locked : List Range → Device → ℕ → Bool
is_locked rs d n = list_any (λ r. covers r d n) rs

-- the range that fills a place where none is held
abbrev pub no_range : Range
no_range = record { device = M; first = 0; last = 0 }

-- whether one more range can be locked beside so many: a seventeenth cannot, nor one whose last number comes before the first
abbrev pub may_lock : ℕ → Range → Bool
may_lock held r = nat_lt held 16 && nat_le r.first r.last

abbrev pub lock_answer : List Range → Range → Result (Unit {0}) Refusal
lock_answer rs r = cond (may_lock (length rs) r) (Ok tt) (Err NoLock)

-- the locked ranges after a lock that gave this answer
abbrev pub locks_after : Result (Unit {0}) Refusal → List Range → Range → List Range
locks_after (Ok _) rs r = rs ++ (r ∷ [])
locks_after (Err _) rs r = rs

-- a memory under locks: a point is open if it is open below and lies in no locked range
abbrev pub under : List Range → Meaning → Meaning
under rs m = record { extent = m.extent; value = m.value; opened = λ d n. m.opened d n && not (is_locked rs d n) }

-- what is closed below is closed under locks
pub shut_under : (rs : List Range) (m : Meaning) (d : Device) (n : ℕ) → m.opened d n ≡ false → (under rs m).opened d n ≡ false
shut_under rs m d n e = ap (λ b. b && not (is_locked rs d n)) e
