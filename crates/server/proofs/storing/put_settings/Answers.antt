use Rattle.std.proofs.Common.{◌≡◌, ℕ, ◌+◌, ◌-◌, ◌^◌, ◌<◌, drop, sym, ap, ◌∙◌, subst, arith}
use Rattle.memory.specs.Leaving.{Tries}
use Rattle.request.specs.Entries.{setting_in}
use Rattle.request.specs.Fields.{list_in}
use Rattle.request.specs.Writing.{Each}
use Rattle.server.specs.Points.{bytes_of}
use Rattle.server.specs.Writes.{each, as_width}
use Rattle.server.proofs.Trying.{rest_all, rest_turn, rest_none}
use Rattle.request.proofs.Turns.{in_goes_on, in_stops, in_none_left}
use Rattle.server.proofs.Listing.{each_more}
use Rattle.server.proofs.storing.put_settings.Goals as goal

ap-small : {v a b : ℕ} → a ≡ b → v < 256 ^ a → v < 256 ^ b
ap-small {v} e h = subst (λ k. v < 256 ^ k) e h

pub loop-init : goal.loop-init
loop-init g c =
    let x = c.args in
    let R = Tries g.M.ReadableMemory.means g.M.WritableMemory.leaves in
    let r = setting_in g.C.WireCode.which (bytes_of x.width) in
    let whole : x.count - 0 ≡ x.count = omega arith in (
      rest_all R x.memory.now _ _ (λ i. each (as_width x.width) (list_in r (whole i) (drop x.from x.list.now))),
      (λ e. subst (λ k. Each (λ s. s.1 < 256 ^ bytes_of x.width) (list_in r k (drop x.from x.list.now))) whole e),
    )

pub returns-in_default : goal.returns-in_default
returns-in_default g c =
    let x = c.args in
    let l = c.loop in
    let R = Tries g.M.ReadableMemory.means g.M.WritableMemory.leaves in
    let code = g.C.WireCode.which in
    let r = setting_in code (bytes_of x.width) in
    let read = sym (sym c.in_default.is ∙ c.setting_at.ensures.value ∙ ap (λ n. setting_in code n (drop l.place x.list.now)) c.bytes.ensures.value) in
    let none = in_stops r x.list.now x.count l.counter l.place (omega arith) _ read in
    record {
      leads = rest_none R x.memory.now (each (as_width x.width) (list_in r x.count (drop x.from x.list.now))) l.memory _ l.invariant.0 (ap (each (as_width x.width)) none);
      small = l.invariant.1 (subst (Each (λ s. s.1 < 256 ^ bytes_of x.width)) (sym none) tt);
    }

pub loop-preserved : goal.loop-preserved
loop-preserved g c =
    let x = c.args in
    let l = c.loop in
    let R = Tries g.M.ReadableMemory.means g.M.WritableMemory.leaves in
    let code = g.C.WireCode.which in
    let r = setting_in code (bytes_of x.width) in
    let q = c.in-Ok in
    let read = sym (q.ensures.value ∙ ap (λ n. setting_in code n (drop l.place x.list.now)) c.bytes.ensures.value) in
    let got = in_goes_on r x.list.now x.count l.counter l.place (omega arith) _ read in
    let rest = list_in r (x.count - (l.counter + 1)) (drop (l.place + q.used) x.list.now) in (
      rest_turn R x.memory.now (each (as_width x.width) (list_in r x.count (drop x.from x.list.now))) l.memory c.put_access.new.memory _ _ _ l.invariant.0 c.put_access.ensures
          (each_more (as_width x.width) ((q.device, q.number), q.value) rest _ got),
      (λ e. l.invariant.1 (subst (Each (λ s. s.1 < 256 ^ bytes_of x.width)) (sym got) (ap-small c.bytes.ensures.value q.ensures.within.2, e))),
    )

pub returns-clause-leads : goal.returns-clause-leads
returns-clause-leads g c =
    let x = c.args in
    let l = c.loop in
    let R = Tries g.M.ReadableMemory.means g.M.WritableMemory.leaves in
    let r = setting_in g.C.WireCode.which (bytes_of x.width) in
    let none = in_none_left r (drop l.place x.list.now) x.count l.counter (omega arith) in
    rest_none R x.memory.now (each (as_width x.width) (list_in r x.count (drop x.from x.list.now))) l.memory _ l.invariant.0 (ap (each (as_width x.width)) none)
