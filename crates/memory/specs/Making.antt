-- Whether a storage can be made with given extents over given units, and what is made.
use Rattle.std.specs.Prelude.{ℕ, zero, suc, ◌≤◌, Bool, true, cond, ◌&&◌, List, replicate, Ok, Err, Result, nat_le, slice_index}
use Rattle.device.specs.declared.types.Device.{Device}
use Rattle.device.specs.Devices.{device_at_place}
use Rattle.memory.specs.Meaning.{extent_limit}
use Rattle.memory.specs.Layout.{room, extent_in}
use Rattle.memory.specs.declared.layout.Form.{Form}
use Rattle.memory.specs.declared.refusal.Refusal.{Refusal}
use Rattle.memory.specs.declared.refusal.Refusal.TheVariants.{NoRoom}

-- no extent passes its device's limit
abbrev pub Small : List ℕ → Type 0
Small es = (d : Device) → extent_in es d ≤ extent_limit d

-- the same as a test, of the first places
unfoldable pub small_below : List ℕ → ℕ → Bool
small_below es zero = true
small_below es (suc p) = nat_le (slice_index es p) (extent_limit (device_at_place p)) && small_below es p

-- whether a storage of these extents can be made over so many units
abbrev pub is_fit : Form → List ℕ → ℕ → Bool
is_fit f es len = small_below es 12 && nat_le (room f es) len

-- how many units a storage of these extents takes
abbrev pub needed : Form → List ℕ → Result ℕ Refusal
needed f es = cond (small_below es 12) (Ok (room f es)) (Err NoRoom)

-- what is told beforehand of a making
abbrev pub making : Form → List ℕ → ℕ → Result (Unit {0}) Refusal
making f es len = cond (is_fit f es len) (Ok tt) (Err NoRoom)

-- the extents of what is made: no points at all where it does not fit
abbrev pub made_of : Form → List ℕ → ℕ → List ℕ
made_of f es len = cond (is_fit f es len) es (replicate 12 0)
