-- A search of the table, row by row.
use Rattle.std.proofs.Common.{◌≡◌, Bool, true, false, cond, List, [], ◌∷◌, Some, None, Option, refl, ap, ◌∙◌}
use Rattle.std.specs.Option.{option_map}
use Rattle.std.specs.List.{find}
use denote.Ref.{Bor}
use Rattle.device.specs.declared.table.Row.{Row}
use Rattle.device.specs.declared.types.Device.{Device}
use Rattle.device.specs.Search.{first_row}

-- the device of the first row is that of the row that `find` gives
first_found : (test : Row → Bool) (rows : List Row) → option_map (λ r. r.device) (find test rows) ≡ first_row test rows
first_found test [] = refl
first_found test (r ∷ rs) = go (test r) (first_found test rs)
  where
    go : (b : Bool) → option_map (λ x. x.device) (find test rs) ≡ first_row test rs → option_map (λ x. x.device) (cond b (Some r) (find test rs)) ≡ cond b (Some r.device) (first_row test rs)
    go true e = refl
    go false e = e

-- the same, where the row is given by reference
pub row_found : (test : Row → Bool) (rows : List Row) (o : Option (Bor Row)) (d : Option Device) → option_map (λ r. r.now) o ≡ find test rows → d ≡ option_map (λ r. r.now.device) o → d ≡ first_row test rows
row_found test rows o d e m = m ∙ twice o ∙ ap (option_map (λ (r : Row). r.device)) e ∙ first_found test rows
  where
    twice : (p : Option (Bor Row)) → option_map (λ r. r.now.device) p ≡ option_map (λ (r : Row). r.device) (option_map (λ r. r.now) p)
    twice None = refl
    twice (Some r) = refl
