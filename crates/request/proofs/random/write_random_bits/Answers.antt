use Rattle.std.proofs.Common.{Ok, rules}
use Rattle.request.specs.Readings.{held, held_random_bits}
use Rattle.request.proofs.Judged.{as_held, bits_judged, bits_whole}
use Rattle.request.proofs.random.write_random_bits.Goals as goal

pub returns-in_err-count : goal.returns-in_err-count
returns-in_err-count g c =
    let code = g.C.WireCode.which in
    let m = g.M.ReadableMemory.means c.args.memory.now in
    let h = as_held code (bits_judged code m c.args.place.frame.now c.args.place.at) (bits_whole code m c.args.place.frame.now c.args.place.at) (held c.from_residual.result) (search rules) in
    record { value = h.0; whole = h.1; stands = search rules }

pub returns : goal.returns
returns g c =
    let code = g.C.WireCode.which in
    let m = g.M.ReadableMemory.means c.args.memory.now in
    let r = Ok (held_random_bits c.in_ok-count.count c.rest.result.now c.in_ok-count.list.at) in
    let h = as_held code (bits_judged code m c.args.place.frame.now c.args.place.at) (bits_whole code m c.args.place.frame.now c.args.place.at) r (search rules) in
    record { value = h.0; whole = h.1; stands = search rules }
