use Rattle.std.proofs.Common.{length, rules}
use Rattle.wire.specs.Numbers.{number_in}
use Rattle.request.specs.Fields.{value_at}
use Rattle.request.proofs.Parts.{value_reads}
use Rattle.request.proofs.Turns.{can_read, there_if_read}
use Rattle.request.proofs.batch.check_words.Goals as goal

pub list_end-requires : goal.list_end-requires
list_end-requires g c = can_read _ _ (length c.args.place.frame.now) (search rules) (λ at h. (search rules, λ r k. search rules)) _ _ c.args.place.inside

pub returns-clause-whole : goal.returns-clause-whole
returns-clause-whole g c =
    let code = g.C.WireCode.which in
    let bytes = c.args.place.frame.now in
    let e = c.list_end.ensures.value (value_at code bytes) (λ at y k. search rules) in
    there_if_read bytes (value_at code bytes) (number_in code 2) (value_reads code bytes) c.args.count c.args.place.at c.list_end.result e
