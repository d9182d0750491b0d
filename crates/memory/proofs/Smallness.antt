-- The test that no extent passes its device's limit.
use Rattle.std.proofs.Common.{◌≡◌, ℕ, ◌^◌, ◌<◌, ◌≤◌, Bool, true, eqb, leb, List, get_or, replicate, Decides, refl, ap, subst, arith, eqb→eq}
use Rattle.std.proofs.lemmas.Bool.{leb-true}
use Rattle.std.proofs.lemmas.Bool.Decides.{Decides-below_and}
use Rattle.device.specs.declared.types.Device.{Device}
use Rattle.device.specs.Devices.{place_of, device_at_place}
use Rattle.device.proofs.Places.{place_below, at_place}
use Rattle.memory.specs.declared.layout.Form.{Form}
use Rattle.memory.specs.declared.layout.Form.TheVariants.{Packed, Image}
use Rattle.memory.specs.Meaning.{extent_limit}
use Rattle.memory.specs.Layout.{extent_in, start, room}
use Rattle.memory.specs.Making.{Small, small_below}
use Rattle.memory.proofs.Bitwise.{all_at}

-- whether the extent at a place passes no limit
abbrev pub is_small : List ℕ → ℕ → Bool
is_small es p = leb (get_or es p 0) (extent_limit (device_at_place p))

pub decides_small : (es : List ℕ) (p : ℕ) → Decides (small_below es p) ((k : ℕ) → k < p → is_small es k ≡ true)
unfolding small_below
decides_small es p = Decides-below_and (is_small es) (λ k. is_small es k ≡ true) (small_below es) (λ k. ((λ e. e), (λ e. e))) refl (λ _. refl) p

pub small_each : (es : List ℕ) → small_below es 12 ≡ true → Small es
small_each es t d =
    let here : is_small es (place_of d) ≡ true = (decides_small es 12).0 t (place_of d) (place_below d) in
    subst (λ (e : Device). extent_in es d ≤ extent_limit e) (at_place d) (leb-true _ _ here)

-- the device at a place stands at that place
place_at : (p : ℕ) → p < 12 → place_of (device_at_place p) ≡ p
place_at p h = eqb→eq _ _ (all_at (λ q. eqb (place_of (device_at_place q)) q) 12 tt p h)

-- small extents are far from the largest number
pub small_low : (es : List ℕ) → Small es → (k : ℕ) → k < 12 → get_or es k 0 < 2 ^ 32
small_low es small k h = omega (arith, small (device_at_place k), ap (λ p. get_or es p 0) (place_at k h))

pub none_room : (f : Form) → room f (replicate 12 0) ≡ 0
unfolding start
none_room Packed = refl
none_room Image = refl
