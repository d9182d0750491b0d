use Rattle.std.proofs.Common.{◌≡◌, ℕ, zero, suc, ◌+◌, ◌&&◌, sym, refl, ap, ◌∙◌, arith, rules, tests}
use Rattle.std.specs.List.{list_all, range_with_len}
use Rattle.std.proofs.lemmas.Iterator.{YieldsList-from_range}
use Rattle.std.proofs.lemmas.Iterator.Search.{all_from_yields_List}
use Rattle.device.specs.declared.types.Device.{Device}
use Rattle.memory.specs.Meaning.{Meaning}
use Rattle.request.specs.Limits.{all_open}
use Rattle.request.proofs.spans.all_open.Goals as goal

-- the points, by how far each lies behind the first
all_open_from : (m : Meaning) (d : Device) (number i n place : ℕ) → place ≡ number + i → list_all (λ k. m.opened d (number + k)) (range_with_len i n) ≡ all_open m d place n
all_open_from m d number i zero place e = refl
all_open_from m d number i (suc n) place e =
    ap (λ k. m.opened d k && list_all (λ k. m.opened d (number + k)) (range_with_len (i + 1) n)) (sym e)
    ∙ ap (λ b. m.opened d place && b) (all_open_from m d number (i + 1) n (place + 1) (omega (arith, e)))

pub returns : goal.returns
returns g c =
    let m = g.M.ReadableMemory.means c.args.memory.now in
    all_from_yields_List (λ k. m.opened c.args.device (c.args.number + k)) _ _ _ c.all.ensures.ran (YieldsList-from_range 0 c.args.points c.args.points refl (omega arith)) (λ x b q k. search (rules, tests))
    ∙ all_open_from m c.args.device c.args.number 0 c.args.points c.args.number (omega arith)
