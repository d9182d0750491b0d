-- What the points of a storage hold by its units, and what a write to a point leaves of them.
use Rattle.std.specs.Prelude.{◌≡◌, ℕ, ◌+◌, ◌-◌, ◌*◌, ◌/◌, ◌%◌, ◌^◌, ◌<◌, cond, List, [], ◌∷◌, Ok, Err, Result, ◌==◌, bit_and, bit_or, nat_lt, slice_index, slice_set}
use Rattle.device.specs.declared.types.Device.{Device}
use Rattle.device.specs.declared.types.Kind.{Kind}
use Rattle.device.specs.declared.types.Kind.TheVariants.{Bit, Word}
use Rattle.device.specs.Devices.{kind_of}
use Rattle.memory.specs.Meaning.{Meaning, value_limit}
use Rattle.memory.specs.Leaving.{Write}
use Rattle.memory.specs.Layout.{extent_in, index_of}
use Rattle.memory.specs.declared.layout.Form.{Form}
use Rattle.memory.specs.declared.layout.Form.TheVariants.{Packed, Image}
use Rattle.memory.specs.declared.refusal.Refusal.{Refusal}
use Rattle.memory.specs.declared.refusal.Refusal.TheVariants.{Outside, TooWide}

-- the bit of a word
abbrev pub bit_at : ℕ → ℕ → ℕ
bit_at x k = x / 2 ^ k % 2

-- the word with a bit of it set where the value is 1, and cleared else
abbrev pub with_bit : ℕ → ℕ → ℕ → ℕ
with_bit x k v = cond (v == 1) (bit_or x (2 ^ k)) (bit_and x (65535 - 2 ^ k))

-- a packed point's word once the point has the value
abbrev pub with_part : Kind → ℕ → ℕ → ℕ → ℕ
with_part Bit x n v = with_bit x (n % 16) v
with_part Word x n v = v

-- what a packed point holds, by its word
abbrev pub part_of : Kind → ℕ → ℕ → ℕ
part_of Bit x n = bit_at x (n % 16)
part_of Word x n = x

-- what an image's point holds, by the bytes and its first: a word's low byte comes first, and a bit is 0 where its byte is
abbrev pub byte_part : Kind → List ℕ → ℕ → ℕ
byte_part Bit bs i = cond (slice_index bs i == 0) 0 1
byte_part Word bs i = slice_index bs i + 256 * slice_index bs (i + 1)

-- the bytes once that point has the value
abbrev pub with_bytes : Kind → List ℕ → ℕ → ℕ → List ℕ
with_bytes Bit bs i v = slice_set bs i v
with_bytes Word bs i v = slice_set (slice_set bs i (v % 256)) (i + 1) (v / 256)

-- what the point n with the first unit i holds
abbrev pub point_in : Form → Kind → List ℕ → ℕ → ℕ → ℕ
point_in Packed κ us i n = part_of κ (slice_index us i) n
point_in Image κ us i n = byte_part κ us i

-- the units once that point has the value
abbrev pub with_point : Form → Kind → List ℕ → ℕ → ℕ → ℕ → List ℕ
with_point Packed κ us i n v = slice_set us i (with_part κ (slice_index us i) n v)
with_point Image κ us i n v = with_bytes κ us i v

-- a point's value; 0 where there is no point
abbrev pub value_in : Form → List ℕ → List ℕ → Device → ℕ → ℕ
value_in f us es d n = cond (nat_lt n (extent_in es d)) (point_in f (kind_of d) us (index_of f es d n) n) 0

-- what a storage with these units and extents means: all its points are open
abbrev pub stored : Form → List ℕ → List ℕ → Meaning
stored f us es = record { extent = extent_in es; value = value_in f us es; opened = λ d n. nat_lt n (extent_in es d) }

-- the units after a write that answered r; a refusal changes nothing
abbrev pub units_after : Form → Result (Unit {0}) Refusal → List ℕ → List ℕ → Device → ℕ → ℕ → List ℕ
units_after f (Ok _) us es d n v = with_point f (kind_of d) us (index_of f es d n) n v
units_after f (Err _) us es d n v = us

-- of a storage's place, extents, starts and units, before and after: a point inside was given a value that its kind can hold, the units are exactly
-- those that the value makes of them, and nothing else is new
pub record PointPut (f : Form) (d : Device) (n v a : ℕ) (es ss us : List ℕ) (a' : ℕ) (es' ss' us' : List ℕ) : Type 0 where
  pub inside : n < extent_in es d
  pub narrow : v < value_limit (kind_of d)
  pub place : a' ≡ a
  pub extents : es' ≡ es
  pub starts : ss' ≡ ss
  pub units : us' ≡ with_point f (kind_of d) us (index_of f es d n) n v

-- the units once all writes are made, one after the other
abbrev pub units_put : Form → List ℕ → List ℕ → List Write → List ℕ
units_put f es us [] = us
units_put f es us (w ∷ ws) = units_put f es (with_point f (kind_of w.0) us (index_of f es w.0 w.1) w.1 w.2) ws

-- what a write answers where every point is open
abbrev pub admitted : Device → ℕ → ℕ → ℕ → Result (Unit {0}) Refusal
admitted d extent n v = cond (nat_lt n extent) (cond (nat_lt v (value_limit (kind_of d))) (Ok tt) (Err TooWide)) (Err Outside)
