-- Where the devices' units begin, and that no two devices share a unit.
use Rattle.std.proofs.Common.{◌≡◌, ℕ, zero, suc, ◌+◌, ◌*◌, ◌^◌, ◌<◌, ◌≤◌, List, length, get_or, set, replicate, sym, refl, ap, ◌∙◌, subst, ⊎_elim, add-one, arith}
use Rattle.std.proofs.lemmas.Bool.{cases_eq}
use Rattle.device.specs.declared.types.Device.{Device}
use Rattle.device.specs.declared.types.Kind.{Kind}
use Rattle.device.specs.declared.types.Kind.TheVariants.{Bit, Word}
use Rattle.device.specs.Devices.{kind_of, place_of, device_at_place}
use Rattle.device.proofs.Places.{place_below, at_place}
use Rattle.memory.specs.declared.layout.Form.{Form}
use Rattle.memory.specs.declared.layout.Form.TheVariants.{Packed, Image}
use Rattle.memory.specs.Layout.{start, room, units_for, unit_of, width, index_of, extent_in}
use Rattle.memory.proofs.Units.{here, there}

pub start_more : (f : Form) (es : List ℕ) (p : ℕ) → start f es (p + 1) ≡ start f es p + units_for f (kind_of (device_at_place p)) (get_or es p 0)
unfolding start
start_more f es p = ap (start f es) (add-one p)

-- before the first device nothing begins
pub none_begun : (f : Form) (es : List ℕ) (p : ℕ) → p ≤ 0 → get_or (replicate 13 0) p 0 ≡ start f es p
unfolding start
none_begun f es p h = let z : 0 ≡ p = omega arith in subst (λ (m : ℕ). get_or (replicate 13 0) m 0 ≡ start f es m) z refl

start_mono : (f : Form) (es : List ℕ) (p q : ℕ) → p ≤ q → start f es p ≤ start f es q
unfolding start
start_mono f es p zero h = let e : p ≡ 0 = omega arith in rw e (omega arith)
start_mono f es p (suc q) h =
    ⊎_elim
    (λ (e : p ≡ suc q). rw e (omega arith))
    (λ (ne : p ≡ suc q → ⊥). let i : start f es p ≤ start f es q = start_mono f es p q (omega arith) in omega arith)
    (cases_eq p (suc q))

unit_below : (f : Form) (κ : Kind) (n x : ℕ) → n < x → unit_of f κ n + width f κ ≤ units_for f κ x
unit_below Packed Bit n x h = omega arith
unit_below Packed Word n x h = omega arith
unit_below Image Bit n x h = omega arith
unit_below Image Word n x h = omega arith

-- a point lies before the next device's first unit
index_below : (f : Form) (es : List ℕ) (d : Device) (n : ℕ) → n < extent_in es d → index_of f es d n + width f (kind_of d) ≤ start f es (place_of d + 1)
index_below f es d n h =
    let k : kind_of (device_at_place (place_of d)) ≡ kind_of d = ap kind_of (at_place d) in
    let b : unit_of f (kind_of d) n + width f (kind_of d) ≤ units_for f (kind_of (device_at_place (place_of d))) (extent_in es d) = rw k (unit_below f (kind_of d) n _ h) in
    omega (arith, start_more f es (place_of d))

pub index_room : (f : Form) (es : List ℕ) (d : Device) (n : ℕ) → n < extent_in es d → index_of f es d n + width f (kind_of d) ≤ room f es
index_room f es d n h = omega (arith, index_below f es d n h, start_mono f es (place_of d + 1) 12 (omega (arith, place_below d)))

-- and before each point of a later device
pub apart : (f : Form) (es : List ℕ) (d e : Device) (n k : ℕ) → n < extent_in es d → place_of d < place_of e → index_of f es d n + width f (kind_of d) ≤ index_of f es e k
apart f es d e n k h p = omega (arith, index_below f es d n h, start_mono f es (place_of d + 1) (place_of e) (omega arith))

units_most : (f : Form) (κ : Kind) (n : ℕ) → n < 2 ^ 32 → units_for f κ n ≤ 2 ^ 33
units_most Packed Bit n h = omega arith
units_most Packed Word n h = omega arith
units_most Image Bit n h = omega arith
units_most Image Word n h = omega arith

-- no start lies past so many times the largest extent
pub start_most : (f : Form) (es : List ℕ) (p : ℕ) → ((k : ℕ) → k < p → get_or es k 0 < 2 ^ 32) → start f es p ≤ 2 ^ 33 * p
unfolding start
start_most f es zero h = omega arith
start_most f es (suc p) h = omega (arith, start_most f es p (λ k l. h k (omega arith)), units_most f (kind_of (device_at_place p)) (get_or es p 0) (h p (omega arith)))

-- one beginning more: that of the device behind the place p
pub starts_more : (f : Form) (es ss : List ℕ) (p n : ℕ) → p + 1 < length ss → ((q : ℕ) → q ≤ p → get_or ss q 0 ≡ start f es q) → n ≡ units_for f (kind_of (device_at_place p)) (get_or es p 0)
    → (q : ℕ) → q ≤ p + 1 → get_or (set ss (p + 1) (get_or ss p 0 + n)) q 0 ≡ start f es q
starts_more f es ss p n room so_far e q h =
    ⊎_elim
    (λ (same : q ≡ p + 1).
    subst (λ (m : ℕ). get_or (set ss (p + 1) (get_or ss p 0 + n)) m 0 ≡ start f es m) (sym same)
    (here ss (p + 1) (get_or ss p 0 + n) room ∙ (λ i. so_far p (omega arith) i + e i) ∙ sym (start_more f es p)))
    (λ (other : q ≡ p + 1 → ⊥). there ss (p + 1) (get_or ss p 0 + n) q other ∙ so_far q (omega arith))
    (cases_eq q (p + 1))
