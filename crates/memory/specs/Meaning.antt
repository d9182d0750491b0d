-- The meaning of a device memory, and what its calls answer and leave.
use Rattle.std.specs.Prelude.{◌≡◌, ℕ, ◌<◌, ◌≤◌, Bool, false, cond, ◌&&◌, Some, None, Ok, Err, Option, Result, ◌==◌, nat_lt}
use Rattle.device.specs.declared.types.Device.{Device}
use Rattle.device.specs.declared.types.Kind.{Kind}
use Rattle.device.specs.declared.types.Kind.TheVariants.{Bit, Word}
use Rattle.device.specs.Devices.{kind_of, place_of}
use Rattle.memory.specs.declared.refusal.Refusal.{Refusal}
use Rattle.memory.specs.declared.refusal.Refusal.TheVariants.{Outside, Closed, TooWide}

-- the largest extent that a device may have
abbrev pub extent_limit : Device → ℕ
extent_limit d = 65536

-- one more than the largest value of a point of this kind
abbrev pub value_limit : Kind → ℕ
value_limit Bit = 2
value_limit Word = 65536

-- an extent for each device, a value for each point (0 outside), and for each point whether it is open (never outside)
pub record Meaning : Type 0 where
  pub extent : Device → ℕ
  pub value : Device → ℕ → ℕ
  pub opened : Device → ℕ → Bool

-- the value inside, nothing outside
abbrev pub told : Meaning → Device → ℕ → Option ℕ
told m d n = cond (nat_lt n (m.extent d)) (Some (m.value d n)) None

-- a write refuses a point outside, then a closed point, then a value too wide for the kind
abbrev pub write_answer : Meaning → Device → ℕ → ℕ → Result (Unit {0}) Refusal
write_answer m d n v =
    cond (nat_lt n (m.extent d)) (cond (m.opened d n) (cond (nat_lt v (value_limit (kind_of d))) (Ok tt) (Err TooWide)) (Err Closed)) (Err Outside)

-- whether two points are one
abbrev pub same_point : Device → ℕ → Device → ℕ → Bool
same_point d n e k = place_of d == place_of e && n == k

-- the values once a point has been given a value: no other point moves
abbrev pub put : (Device → ℕ → ℕ) → Device → ℕ → ℕ → Device → ℕ → ℕ
put f d n v e k = cond (same_point d n e k) v (f e k)

-- the meaning after a write that answered r: that point has that value, and nothing else changes; a refusal changes nothing
abbrev pub written : Result (Unit {0}) Refusal → Meaning → Device → ℕ → ℕ → Meaning
written (Ok _) m d n v = record { extent = m.extent; value = put m.value d n v; opened = m.opened }
written (Err _) m d n v = m

-- no extent passes its limit, a bit point holds 0 or 1, and outside no value stands and no point is open
pub record Sound {S : Type 0} (means : S → Meaning) : Type 0 where
  pub small : (s : S) (d : Device) → (means s).extent d ≤ extent_limit d
  pub narrow : (s : S) (d : Device) (n : ℕ) → kind_of d ≡ Bit → (means s).value d n < 2
  pub outside : (s : S) (d : Device) (n : ℕ) → (means s).extent d ≤ n → (means s).value d n ≡ 0
  pub shut : (s : S) (d : Device) (n : ℕ) → (means s).extent d ≤ n → (means s).opened d n ≡ false
