use Rattle.std.proofs.Common.{◌≡◌, ℕ, ◌+◌, ◌*◌, List, ◌++◌, length, drop, None, sym, ap, ◌∙◌, arith, length-append}
use lib.Seq.{sets}
use Rattle.wire.specs.Numbers.{per_byte}
use Rattle.wire.specs.Series.{values_bytes}
use Rattle.wire.proofs.Places.{sets_sets}
use Rattle.wire.proofs.Lengths.{length_values}
use Rattle.request.specs.Entries.{access_in}
use Rattle.request.specs.Fields.{list_in}
use Rattle.server.specs.declared.points.Width.TheVariants.{Word, Double}
use Rattle.server.specs.Points.{values_of}
use Rattle.server.proofs.Shows.{length_shown}
use Rattle.server.proofs.Telling.{reply_told}
use Rattle.server.proofs.reply.Reply.show_random.Goals as goal

pub returns-clause-tells : goal.returns-clause-tells
returns-clause-tells g c =
    let code = g.C.WireCode.which in
    let x = c.args in
    let V = (g.M.ReadableMemory.means x.memory.now).value in
    let r = access_in code in
    let part : drop (x.words * c.field_size-3.result) x.list.now ≡ drop (x.words * (4 * per_byte code)) x.list.now = ap (λ n. drop (x.words * n) x.list.now) c.field_size-3.ensures in
    let ws = list_in r x.words x.list.now in
    let ds = list_in r x.doubles (drop (x.words * (4 * per_byte code)) x.list.now) in
    let head = c.write_head-at.ensures in
    let first = values_bytes code 2 (values_of Word V ws) in
    let second = values_bytes code 4 (values_of Double V ds) in
    let many = c.requires.whole in
    let long : length first ≡ x.words * (2 * per_byte code) = length_values code 2 _ ∙ ap (λ n. n * (2 * per_byte code)) (length_shown Word V ws ∙ many.0) in
    let more : length second ≡ x.doubles * (4 * per_byte code) = length_values code 4 _ ∙ ap (λ n. n * (4 * per_byte code)) (length_shown Double V ds ∙ many.1) in
    let one = c.write_listed-end.ensures in
    let two = c.write_listed-length.ensures in
    let at = c.write_head-at.result in
    let end : c.write_listed-end.result ≡ at + x.words * (2 * per_byte code) = one.end ∙ ap (λ n. at + n * (2 * per_byte code)) many.0 in
    let put : c.write_listed-length.new.out ≡ sets c.write_head-at.new.out at (first ++ second) =
    two.written
    ∙ (λ i. sets (one.written i) (end i) (values_bytes code 4 (values_of Double V (list_in r x.doubles (part i)))))
    ∙ sets_sets c.write_head-at.new.out at (x.words * (2 * per_byte code)) first second long in
    let size : length (first ++ second) ≡ x.words * c.field_size.result + x.doubles * c.field_size-2.result =
    length-append first second ∙ (λ i. long i + more i) ∙ sym (λ i. x.words * c.field_size.ensures i + x.doubles * c.field_size-2.ensures i) in
    let behind : c.write_listed-length.result ≡ c.write_listed-end.result + x.doubles * (4 * per_byte code) =
    two.end ∙ ap (λ (l : List ℕ). c.write_listed-end.result + length (list_in r x.doubles l) * (4 * per_byte code)) part ∙ ap (λ n. c.write_listed-end.result + n * (4 * per_byte code)) many.1 in
    let ended : c.write_listed-length.result ≡ at + (x.words * c.field_size.result + x.doubles * c.field_size-2.result) =
    omega (arith, behind, end, ap (λ k. x.words * k) c.field_size.ensures, ap (λ k. x.doubles * k) c.field_size-2.ensures) in
    let done = c.answer.ensures in
    reply_told code x.self.now.header 0 _ at None (first ++ second) x.self.now.space.now c.write_head-at.new.out _ c.answer.result done.taken (done.length ∙ ended) done.fault size head.end head.written put
