use Rattle.std.proofs.Common.{◌≡◌, ◌+◌, ◌*◌, ◌++◌, length, take, drop, None, sym, ap, ◌∙◌, arith, length-append, take_at, drop_at}
use Rattle.std.proofs.lemmas.List.{take_all}
use lib.Seq.{sets}
use Rattle.wire.specs.Numbers.{per_byte}
use Rattle.wire.specs.Series.{values_bytes}
use Rattle.wire.proofs.Places.{sets_sets}
use Rattle.wire.proofs.Lengths.{length_values}
use Rattle.server.specs.declared.points.Width.TheVariants.{Word, Double}
use Rattle.server.specs.Points.{values_of}
use Rattle.server.specs.Registered.{words_of, doubles_of, all_of}
use Rattle.server.proofs.Shows.{length_shown}
use Rattle.server.proofs.Telling.{reply_told}
use Rattle.server.proofs.reply.Reply.show_kept.Goals as goal

pub returns-clause-tells : goal.returns-clause-tells
returns-clause-tells g c =
    let code = g.C.WireCode.which in
    let x = c.args in
    let V = (g.M.ReadableMemory.means x.memory.now).value in
    let o = g.R.Registering.lists x.registration.now in
    let ws = words_of o in
    let ds = doubles_of o in
    let many = c.requires.many in
    let front : take x.words (drop 0 (all_of o)) ≡ ws = take_at ws ds x.words many.0 in
    let rest : take x.doubles (drop x.words (all_of o)) ≡ ds = ap (take x.doubles) (drop_at ws ds x.words many.0) ∙ take_all x.doubles ds (omega (arith, many.1)) in
    let head = c.write_head-at.ensures in
    let first = values_bytes code 2 (values_of Word V ws) in
    let second = values_bytes code 4 (values_of Double V ds) in
    let long : length first ≡ x.words * (2 * per_byte code) = length_values code 2 _ ∙ ap (λ n. n * (2 * per_byte code)) (length_shown Word V ws ∙ many.0) in
    let more : length second ≡ x.doubles * (4 * per_byte code) = length_values code 4 _ ∙ ap (λ n. n * (4 * per_byte code)) (length_shown Double V ds ∙ many.1) in
    let one = c.write_kept-end.ensures in
    let two = c.write_kept-length.ensures in
    let at = c.write_head-at.result in
    let put : c.write_kept-length.new.out ≡ sets c.write_head-at.new.out at (first ++ second) =
    two.written
    ∙ (λ i. sets ((one.written ∙ ap (λ as'. sets c.write_head-at.new.out at (values_bytes code 2 (values_of Word V as'))) front) i) (one.end i) (values_bytes code 4 (values_of Double V (rest i))))
    ∙ sets_sets c.write_head-at.new.out at (x.words * (2 * per_byte code)) first second long in
    let size : length (first ++ second) ≡ x.words * c.field_size.result + x.doubles * c.field_size-2.result =
    length-append first second ∙ (λ i. long i + more i) ∙ sym (λ i. x.words * c.field_size.ensures i + x.doubles * c.field_size-2.ensures i) in
    let ended : c.write_kept-length.result ≡ at + (x.words * c.field_size.result + x.doubles * c.field_size-2.result) =
    omega (arith, two.end, one.end, ap (λ k. x.words * k) c.field_size.ensures, ap (λ k. x.doubles * k) c.field_size-2.ensures) in
    let done = c.answer.ensures in
    reply_told code x.self.now.header 0 _ at None (first ++ second) x.self.now.space.now c.write_head-at.new.out _ c.answer.result done.taken (done.length ∙ ended) done.fault size head.end head.written put
