use Rattle.std.proofs.Common.{◌≡◌, rules}
use Rattle.std.specs.Option.{option_map}
use Rattle.std.proofs.lemmas.Iterator.{YieldsList-from_slice}
use Rattle.std.proofs.lemmas.Iterator.Search.{find_from_yields_List}
use borrow.Author.Tests.{tests}
use Rattle.device.specs.Devices.{rows}
use Rattle.device.specs.Search.{has_symbol, device_by_symbol}
use Rattle.device.proofs.Rows.{row_found}
use Rattle.device.proofs.Found.{by_symbol_found}
use Rattle.device.proofs.table.by_symbol.Goals as goal

pub returns : goal.returns
returns c =
    let test = has_symbol c.args.first c.args.second in
    let row = find_from_yields_List test _ _ c.find.result c.find.ensures.ran (YieldsList-from_slice rows c.iter.ensures.rest) (λ x b q k. search (rules, tests)) in
    let device : c.map.result ≡ option_map (λ r. r.now.device) c.find.result = search rules in
    let value : c.map.result ≡ device_by_symbol c.args.first c.args.second = row_found test rows c.find.result c.map.result row device in
    record { value = value; found = by_symbol_found c.args.first c.args.second c.map.result value }
