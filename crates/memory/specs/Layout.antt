-- Where the points lie in a storage of units, 16-bit words or bytes.
use Rattle.std.specs.Prelude.{◌≡◌, ℕ, zero, suc, ◌+◌, ◌*◌, ◌/◌, ◌≤◌, List, slice_index}
use Rattle.device.specs.declared.types.Device.{Device}
use Rattle.device.specs.declared.types.Kind.{Kind}
use Rattle.device.specs.declared.types.Kind.TheVariants.{Bit, Word}
use Rattle.device.specs.Devices.{kind_of, place_of, device_at_place}
use Rattle.memory.specs.declared.layout.Form.{Form}
use Rattle.memory.specs.declared.layout.Form.TheVariants.{Packed, Image}

-- how many units so many points take
abbrev pub units_for : Form → Kind → ℕ → ℕ
units_for Packed Bit n = (n + 15) / 16
units_for Packed Word n = n
units_for Image Bit n = n
units_for Image Word n = 2 * n

-- the first unit of a point, counted from its device's first
abbrev pub unit_of : Form → Kind → ℕ → ℕ
unit_of Packed Bit n = n / 16
unit_of Packed Word n = n
unit_of Image Bit n = n
unit_of Image Word n = 2 * n

-- how many units a point lies in
abbrev pub width : Form → Kind → ℕ
width Packed κ = 1
width Image Bit = 1
width Image Word = 2

-- the first unit of the device at a place: the devices follow one another in the order of their places
unfoldable pub start : Form → List ℕ → ℕ → ℕ
start f es zero = 0
start f es (suc p) = start f es p + units_for f (kind_of (device_at_place p)) (slice_index es p)

-- all the units
abbrev pub room : Form → List ℕ → ℕ
room f es = start f es 12

-- the numbers say where the units of each device begin, in the order of the places, and behind the last device where they end
abbrev pub AreStarts : Form → List ℕ → List ℕ → Type 0
AreStarts f es ss = (p : ℕ) → p ≤ 12 → slice_index ss p ≡ start f es p

-- the extent of a device, by the extents in the order of the places
abbrev pub extent_in : List ℕ → Device → ℕ
extent_in es d = slice_index es (place_of d)

-- the first unit of a point
abbrev pub index_of : Form → List ℕ → Device → ℕ → ℕ
index_of f es d n = start f es (place_of d) + unit_of f (kind_of d) n
