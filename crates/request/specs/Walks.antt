-- A walk over a request's fields, from the front: which fields come, and what is tested after each.
use Rattle.std.specs.Prelude.{ℕ, zero, suc, ◌+◌, Bool, cond, List, [], ◌∷◌, length, Ok, Err, Result, nat_le}
use Rattle.device.specs.declared.types.Device.{Device}
use Rattle.wire.specs.declared.code.Code.{Code}
use Rattle.wire.specs.Numbers.{then}
use Rattle.frame.specs.declared.fault.Cause.{Cause}
use Rattle.frame.specs.declared.fault.Cause.TheVariants.{BadSize}
use Rattle.frame.specs.declared.fault.Fault.{Fault}
use Rattle.frame.specs.Faults.{fault}
use Rattle.request.specs.Fields.{number_at, counts_at, device_at, words_at, bits_at}

-- `A` is what was read
pub data Walk (A : Type 0) : Type 0 where
  -- no field is left
  done : A → Walk A
  -- a number of so many bytes
  number : ℕ → (ℕ → Walk A) → Walk A
  -- a pair of counts
  counts : (ℕ → ℕ → Walk A) → Walk A
  -- a device field
  device : (Device → ℕ → Walk A) → Walk A
  -- so many values of two bytes
  words : ℕ → (List ℕ → Walk A) → Walk A
  -- so many points in bits
  bits : ℕ → (List ℕ → Walk A) → Walk A
  -- a test whose fault is at the last field
  at_field : Cause → Bool → Walk A → Walk A
  -- a test whose fault is at the last device field
  at_device : Cause → Bool → Walk A → Walk A

-- the walk over the bytes of a frame: `dv` is the place of the last device field, `fd` of the last field
abbrev pub run : {A : Type 0} → Code → List ℕ → Walk A → ℕ → ℕ → ℕ → Result A Fault
run code bytes (done a) dv fd at = cond (nat_le (length bytes) at) (Ok a) (Err (fault BadSize at))
run code bytes (number size k) dv fd at = then (number_at code bytes at size) (λ a. run code bytes (k a.0) dv at (at + a.1))
run code bytes (counts k) dv fd at = then (counts_at code bytes at) (λ a. run code bytes (k a.0 a.1) dv at (at + a.2))
run code bytes (device k) dv fd at = then (device_at code bytes at) (λ a. run code bytes (k a.0 a.1) at at (at + a.2))
run code bytes (words n k) dv fd at = then (words_at code bytes at n) (λ a. run code bytes (k a.0) dv at (at + a.1))
run code bytes (bits n k) dv fd at = then (bits_at code bytes at n) (λ a. run code bytes (k a.0) dv at (at + a.1))
run code bytes (at_field c b w) dv fd at = cond b (run code bytes w dv fd at) (Err (fault c fd))
run code bytes (at_device c b w) dv fd at = cond b (run code bytes w dv fd at) (Err (fault c dv))

-- n entries, each by the walk `e`
abbrev pub list : {X A : Type 0} → ((X → Walk A) → Walk A) → ℕ → (List X → Walk A) → Walk A
list e zero k = k []
list e (suc n) k = e (λ x. list e n (λ xs. k (x ∷ xs)))
