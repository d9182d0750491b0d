use Rattle.std.proofs.Common.{◌≡◌, ◌+◌, ◌-◌, ◌*◌, ◌<◌, drop, sym, ap, ◌∙◌, subst, arith, rules}
use Rattle.device.specs.Devices.{kind_of}
use Rattle.memory.specs.Leaving.{Leads, Tries}
use Rattle.wire.specs.Numbers.{number_in}
use Rattle.request.specs.Fields.{list_in}
use Rattle.request.specs.Limits.{points}
use Rattle.request.specs.Writing.{Each}
use Rattle.server.specs.Writes.{as_word, as_words}
use Rattle.server.proofs.Trying.{rest_all, rest_turn, rest_none}
use Rattle.request.proofs.Turns.{in_goes_on, in_stops, in_none_left}
use Rattle.server.proofs.Listing.{words_more}
use Rattle.server.proofs.storing.put_words.Goals as goal

pub loop-i-init : goal.loop-i-init
loop-i-init g c =
    let x = c.args in
    let R = Tries g.M.ReadableMemory.means g.M.WritableMemory.leaves in
    let r = number_in g.C.WireCode.which 2 in
    let start : x.number + 0 * points (kind_of x.device) 1 ≡ x.number = omega arith in
    let whole : x.count - 0 ≡ x.count = omega arith in (
      rest_all R x.memory.now _ _ (λ i. as_words x.device (start i) (list_in r (whole i) x.bytes.now)),
      (λ e. subst (λ k. Each (λ v. v < 65536) (list_in r k x.bytes.now)) whole e),
    )

pub returns-in_default : goal.returns-in_default
returns-in_default g c =
    let x = c.args in
    let l = c.loop-i in
    let R = Tries g.M.ReadableMemory.means g.M.WritableMemory.leaves in
    let r = number_in g.C.WireCode.which 2 in
    let read = sym (sym c.in_default.is ∙ c.word_at.ensures.value) in
    let none = in_stops r x.bytes.now x.count l.i l.place (omega arith) _ read in
    record {
      leads = rest_none R x.memory.now (as_words x.device x.number (list_in r x.count x.bytes.now)) l.memory _ l.invariant.0 (ap (as_words x.device (x.number + l.i * points (kind_of x.device) 1)) none);
      small = l.invariant.1 (subst (Each (λ v. v < 65536)) (sym none) tt);
    }

pub loop-i-preserved : goal.loop-i-preserved
loop-i-preserved g c =
    let x = c.args in
    let l = c.loop-i in
    let q = c.in-Ok in
    let R = Tries g.M.ReadableMemory.means g.M.WritableMemory.leaves in
    let r = number_in g.C.WireCode.which 2 in
    let got = in_goes_on r x.bytes.now x.count l.i l.place (omega arith) _ (sym (sym q.is ∙ c.word_at.ensures.value)) in
    let small : q.value < 65536 = search rules in
    let rest = list_in r (x.count - (l.i + 1)) (drop (l.place + q.used) x.bytes.now) in
    let put : Leads R l.memory (as_word x.device (x.number + l.i * points (kind_of x.device) 1) q.value) c.put_word.new.memory =
    subst (λ p. Leads R l.memory (as_word x.device (x.number + l.i * p) q.value) c.put_word.new.memory) c.word_points-step.ensures.value c.put_word.ensures in (
      rest_turn R x.memory.now (as_words x.device x.number (list_in r x.count x.bytes.now)) l.memory c.put_word.new.memory _ _ _ l.invariant.0 put (words_more x.device x.number l.i q.value rest _ got),
      (λ e. l.invariant.1 (subst (Each (λ v. v < 65536)) (sym got) (small, e))),
    )

pub returns-clause-leads : goal.returns-clause-leads
returns-clause-leads g c =
    let x = c.args in
    let l = c.loop-i in
    let R = Tries g.M.ReadableMemory.means g.M.WritableMemory.leaves in
    let r = number_in g.C.WireCode.which 2 in
    let none = in_none_left r (drop l.place x.bytes.now) x.count l.i (omega arith) in
    rest_none R x.memory.now (as_words x.device x.number (list_in r x.count x.bytes.now)) l.memory _ l.invariant.0 (ap (as_words x.device (x.number + l.i * points (kind_of x.device) 1)) none)
