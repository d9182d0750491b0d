use Rattle.std.proofs.Common.{length, arith, rules}
use Rattle.std.proofs.lemmas.Grind.{common_steps}
use Rattle.request.specs.Entries.{bit_setting_at}
use Rattle.request.proofs.Turns.{can_read, bits_read}
use Rattle.request.proofs.random.bits_list.Goals as goal

pub list_end-requires : goal.list_end-requires
list_end-requires g c = can_read _ _ (length c.args.place.frame.now) (search rules) (λ at h. (search rules, λ r k. search rules)) _ _ (omega (arith, c.in_ok-count.ensures.within))

pub to-requires : goal.to-requires
to-requires g c = c.in_ok-end.ensures.within (length c.args.place.frame.now) (λ at h. (search rules, λ r k. search rules)) (omega (arith, c.in_ok-count.ensures.within))

pub returns-in_err-end-clause-value : goal.returns-in_err-end-clause-value
returns-in_err-end-clause-value g c = let e = c.list_end.ensures.value (bit_setting_at g.C.WireCode.which (g.M.ReadableMemory.means c.args.memory.now) c.args.place.frame.now) (λ at y k. search rules) in grind (arith, common_steps)

pub returns-in_err-ended-clause-value : goal.returns-in_err-ended-clause-value
returns-in_err-ended-clause-value g c =
    let m = g.M.ReadableMemory.means c.args.memory.now in
    let frame = c.args.place.frame.now in
    let e = c.list_end.ensures.value (bit_setting_at g.C.WireCode.which m frame) (λ at y k. search rules) in
    let read = bits_read g.C.WireCode.which m frame c.args.place.at c.in_ok-count.count c.in_ok-count.used c.on-list.result.at c.in_ok-end.end (search rules) (search rules) c.on-list.ensures.at (search rules) in
    search rules

pub returns-clause-value : goal.returns-clause-value
returns-clause-value g c =
    let m = g.M.ReadableMemory.means c.args.memory.now in
    let frame = c.args.place.frame.now in
    let e = c.list_end.ensures.value (bit_setting_at g.C.WireCode.which m frame) (λ at y k. search rules) in
    let read = bits_read g.C.WireCode.which m frame c.args.place.at c.in_ok-count.count c.in_ok-count.used c.on-list.result.at c.in_ok-end.end (search rules) (search rules) c.on-list.ensures.at (search rules) in
    search rules
