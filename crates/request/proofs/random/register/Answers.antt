use Rattle.std.proofs.Common.{Ok, rules}
use Rattle.request.specs.Readings.{held, held_register}
use Rattle.request.proofs.Judged.{as_held, register_judged, register_whole}
use Rattle.request.proofs.random.register.Goals as goal

pub returns-in_err-words : goal.returns-in_err-words
returns-in_err-words g c =
    let code = g.C.WireCode.which in
    let m = g.M.ReadableMemory.means c.args.memory.now in
    let h = as_held code (register_judged code m c.args.place.frame.now c.args.place.at) (register_whole code m c.args.place.frame.now c.args.place.at) (held c.from_residual.result) (search rules) in
    record { value = h.0; whole = h.1; stands = search rules }

pub returns : goal.returns
returns g c =
    let code = g.C.WireCode.which in
    let m = g.M.ReadableMemory.means c.args.memory.now in
    let r = Ok (held_register c.in_ok-words.words c.in_ok-words.doubles c.rest.result.now c.in_ok-words.list.at) in
    let h = as_held code (register_judged code m c.args.place.frame.now c.args.place.at) (register_whole code m c.args.place.frame.now c.args.place.at) r (search rules) in
    record { value = h.0; whole = h.1; stands = search rules }
