-- The rows of the table beside the extents: whether the extents are small, pair by pair.
use Rattle.std.proofs.Common.{◌≡◌, ℕ, zero, suc, ◌<◌, ◌≤◌, Bool, true, false, ◌&&◌, leb, List, [], ◌∷◌, ◌++◌, length, get_or, take, refl, ap, ◌∙◌, arith, not-suc-le-zero, le_of_suc-le-suc}
use Rattle.std.specs.List.{zip, list_all}
use Rattle.std.proofs.lemmas.List.Folds.{list_all-append}
use Rattle.std.proofs.lemmas.List.{get_or_default}
use Rattle.std.proofs.Math.ListN.{get_or-map}
use Rattle.device.specs.declared.table.Row.{Row}
use Rattle.device.specs.declared.types.Device.TheVariants.{M}
use Rattle.device.specs.Devices.{devices, rows, row_of, kind_of, device_at_place}
use Rattle.memory.specs.Meaning.{extent_limit}
use Rattle.memory.specs.Making.{small_below}

-- whether the points of a row pass no limit
abbrev pub small_in : Row × ℕ → Bool
small_in x = leb x.1 (extent_limit x.0.device)

-- one pair more
pair_more : {A B : Type 0} (xs : List A) (ys : List B) (p : ℕ) (d : A) (e : B) → p < length xs → p < length ys
    → zip (take (suc p) xs) ys ≡ zip (take p xs) ys ++ (get_or xs p d, get_or ys p e) ∷ []
pair_more [] ys p d e h k = absurd (not-suc-le-zero h)
pair_more (x ∷ xs) [] p d e h k = absurd (not-suc-le-zero k)
pair_more (x ∷ xs) (y ∷ ys) zero d e h k = refl
pair_more (x ∷ xs) (y ∷ ys) (suc p) d e h k = ap (λ l. (x, y) ∷ l) (pair_more xs ys p d e (le_of_suc-le-suc h) (le_of_suc-le-suc k))

-- a test of a list with one element more at its end
all_push : {X : Type 0} (t : X → Bool) (xs : List X) (x : X) → list_all t (xs ++ x ∷ []) ≡ t x && list_all t xs
all_push t xs x = list_all-append t xs (x ∷ []) ∙ swap (list_all t xs) (t x)
  where
    swap : (a b : Bool) → a && (b && true) ≡ b && a
    swap true true = refl
    swap true false = refl
    swap false true = refl
    swap false false = refl

-- the row at a place is that of the device there
row_here : (p : ℕ) → get_or rows p (row_of M) ≡ row_of (device_at_place p)
row_here p = get_or-map row_of devices p M

-- the kind in the row at a place, whatever is read where there is none
pub kind_here : (p : ℕ) (r : Row) → p < 12 → (get_or rows p r).kind ≡ kind_of (device_at_place p)
kind_here p r h = ap (λ (x : Row). x.kind) (get_or_default rows p r (row_of M) h ∙ row_here p)

module _ (es : List ℕ) (long : length es ≡ 12) where
  here : (p : ℕ) → p < 12 → zip (take (suc p) rows) es ≡ zip (take p rows) es ++ (row_of (device_at_place p), get_or es p 0) ∷ []
  here p h = pair_more rows es p (row_of M) 0 h (omega arith) ∙ ap (λ (r : Row). zip (take p rows) es ++ (r, get_or es p 0) ∷ []) (row_here p)

  pub small_pairs : (p : ℕ) → p ≤ 12 → list_all small_in (zip (take p rows) es) ≡ small_below es p
  unfolding small_below
  small_pairs zero h = refl
  small_pairs (suc p) h =
      ap (list_all small_in) (here p (omega arith))
      ∙ all_push small_in (zip (take p rows) es) (row_of (device_at_place p), get_or es p 0)
      ∙ ap (λ b. small_in (row_of (device_at_place p), get_or es p 0) && b) (small_pairs p (omega arith))
