-- The search of the table.
use Rattle.std.specs.Prelude.{ℕ, Bool, cond, ◌&&◌, List, [], ◌∷◌, Some, None, Option, ◌==◌, slice_index}
use Rattle.device.specs.declared.table.Row.{Row}
use Rattle.device.specs.declared.types.Device.{Device}
use Rattle.device.specs.Devices.{rows}

-- the device of the first row that passes a test
abbrev pub first_row : (Row → Bool) → List Row → Option Device
first_row test [] = None
first_row test (r ∷ rs) = cond (test r) (Some r.device) (first_row test rs)

abbrev pub has_code : ℕ → Row → Bool
has_code code r = r.code == code

abbrev pub has_symbol : ℕ → ℕ → Row → Bool
has_symbol a b r = slice_index r.symbol 0 == a && slice_index r.symbol 1 == b

abbrev pub device_by_code : ℕ → Option Device
device_by_code code = first_row (has_code code) rows

abbrev pub device_by_symbol : ℕ → ℕ → Option Device
device_by_symbol a b = first_row (has_symbol a b) rows
