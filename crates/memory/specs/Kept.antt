-- What writes to a storage keep: its length, and whatever of it holds no point.
use Rattle.std.specs.Prelude.{◌≡◌, ℕ, ◌+◌, ◌%◌, ◌<◌, Bool, true, false, cond, ◌⊎◌, List, length, ◌==◌, nat_lt, slice_index}
use Rattle.std.proofs.Common.{arith}
use Rattle.std.proofs.lemmas.Bool.{le-ltb}
use Rattle.device.specs.declared.types.Device.{Device}
use Rattle.device.specs.declared.types.Kind.{Kind}
use Rattle.device.specs.declared.types.Kind.TheVariants.{Bit, Word}
use Rattle.device.specs.Devices.{kind_of}
use Rattle.memory.specs.Meaning.{Sound}
use Rattle.memory.specs.Layout.{extent_in, index_of}
use Rattle.memory.specs.Making.{Small}
use Rattle.memory.specs.Stored.{bit_at, point_in, stored}
use Rattle.memory.specs.declared.layout.Form.{Form}
use Rattle.memory.specs.declared.layout.Form.TheVariants.{Packed, Image}

-- how many cells a unit has: a word's bits, or the whole byte
abbrev pub cells : Form → ℕ
cells Packed = 16
cells Image = 1

-- the cell of a unit
abbrev pub cell : Form → ℕ → ℕ → ℕ
cell Packed x k = bit_at x k
cell Image x k = x

-- the point n with the first unit i holds the cell k of the unit j
abbrev pub Holds : Form → Kind → ℕ → ℕ → ℕ → ℕ → Type 0
Holds Packed Bit i n j k = (j ≡ i) × (k ≡ n % 16)
Holds Packed Word i n j k = j ≡ i
Holds Image Bit i n j k = j ≡ i
Holds Image Word i n j k = (j ≡ i) ⊎ (j ≡ i + 1)

-- no point holds the cell k of the unit j
abbrev pub Spare : Form → List ℕ → ℕ → ℕ → Type 0
Spare f es j k = (d : Device) (n : ℕ) → n < extent_in es d → Holds f (kind_of d) (index_of f es d n) n j k → ⊥

-- of a storage's units, before and after
pub record Kept (f : Form) (es us us' : List ℕ) : Type 0 where
  pub long : length us' ≡ length us
  pub spare : (j k : ℕ) → k < cells f → Spare f es j k → cell f (slice_index us' j) k ≡ cell f (slice_index us j) k

narrow_or : (b : Bool) (x : ℕ) → x < 2 → cond b x 0 < 2
narrow_or true x h = h
narrow_or false x h = omega arith

flag : (b : Bool) → cond b 0 1 < 2
flag true = omega arith
flag false = omega arith

point_narrow : (f : Form) (κ : Kind) (us : List ℕ) (i n : ℕ) → κ ≡ Bit → point_in f κ us i n < 2
point_narrow Packed Bit us i n e = omega arith
point_narrow Packed Word us i n e = let z : ◌≡◌ {A = ℕ} 0 1 = cc in omega arith
point_narrow Image Bit us i n e = flag (slice_index us i == 0)
point_narrow Image Word us i n e = let z : ◌≡◌ {A = ℕ} 0 1 = cc in omega arith

-- a memory whose points lie in a storage is a sound one
pub stored_sound : {S : Type 0} (f : Form) (es us : S → List ℕ) → ((s : S) → Small (es s)) → Sound (λ s. stored f (us s) (es s))
stored_sound f es us small =
    record {
      small = small;
      narrow = λ s d n e. narrow_or (nat_lt n (extent_in (es s) d)) _ (point_narrow f (kind_of d) (us s) (index_of f (es s) d n) n e);
      outside = λ s d n h. rw (le-ltb n (extent_in (es s) d) h);
      shut = λ s d n h. le-ltb n (extent_in (es s) d) h;
    }
