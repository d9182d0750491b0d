use Rattle.std.proofs.Common.{◌+◌, ◌-◌, ◌*◌, length, drop, sym, refl, ap, ◌∙◌, arith}
use lib.Seq.{sets}
use Rattle.wire.specs.Numbers.{per_byte}
use Rattle.wire.specs.Series.{values_bytes}
use Rattle.request.specs.Entries.{access_in}
use Rattle.request.specs.Fields.{list_in}
use Rattle.request.proofs.Turns.{in_goes_on, in_stops, in_none_left}
use Rattle.server.specs.Points.{bytes_of, values_of}
use Rattle.server.proofs.Shows.{one_of, listed_turn, long_turn}
use Rattle.server.proofs.showing.write_listed.Goals as goal

pub loop-preserved : goal.loop-preserved
loop-preserved g c =
    let x = c.args in
    let l = c.loop in
    let q = c.in-Ok in
    let code = g.C.WireCode.which in
    let V = (g.M.ReadableMemory.means x.memory.now).value in
    let k = bytes_of x.width * per_byte code in
    let r = access_in code in
    let got = in_goes_on r x.list.now x.count l.counter l.next (omega arith) _ (sym (sym q.is ∙ c.access_at.ensures.value)) in
    let rest = list_in r (x.count - (l.counter + 1)) (drop (l.next + q.used) x.list.now) in
    let post = c.write_sized-place.ensures in (
      rw (post.used, post.written) (listed_turn code x.width V l.out l.place _ _ (q.device, q.number) rest _ got c.access_value-value.ensures refl ∙ l.invariant.0),
      omega (arith, long_turn (q.device, q.number) rest _ k got, l.invariant.1, post.used),
      omega (arith, one_of x.count l.counter k (omega arith), l.invariant.2, post.used),
    )

pub returns-in_default : goal.returns-in_default
returns-in_default g c =
    let x = c.args in
    let l = c.loop in
    let code = g.C.WireCode.which in
    let V = (g.M.ReadableMemory.means x.memory.now).value in
    let k = bytes_of x.width * per_byte code in
    let read = sym (sym c.in_default.is ∙ c.access_at.ensures.value) in
    let none = in_stops (access_in code) x.list.now x.count l.counter l.next (omega arith) _ read in
    record {
      end = omega (arith, ap (λ as'. length as' * k) none, l.invariant.1);
      written = sym (ap (λ as'. sets l.out l.place (values_bytes code (bytes_of x.width) (values_of x.width V as'))) none) ∙ l.invariant.0;
    }

pub returns : goal.returns
returns g c =
    let x = c.args in
    let l = c.loop in
    let code = g.C.WireCode.which in
    let V = (g.M.ReadableMemory.means x.memory.now).value in
    let k = bytes_of x.width * per_byte code in
    let none = in_none_left (access_in code) (drop l.next x.list.now) x.count l.counter (omega arith) in
    record {
      end = omega (arith, ap (λ as'. length as' * k) none, l.invariant.1);
      written = sym (ap (λ as'. sets l.out l.place (values_bytes code (bytes_of x.width) (values_of x.width V as'))) none) ∙ l.invariant.0;
    }
