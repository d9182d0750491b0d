use Rattle.std.proofs.Common.{◌≡◌, ◌+◌, ◌*◌, refl, ap, ◌∙◌, arith}
use Rattle.wire.specs.Numbers.{per_byte}
use Rattle.server.specs.Points.{Values, bytes_of, value_of}
use Rattle.server.specs.Registered.{all_of, device_and_number, listed_access}
use Rattle.server.proofs.Shows.{one_of, listed_turn, kept_more}
use Rattle.server.proofs.showing.write_kept.Goals as goal

pub loop-i-preserved : goal.loop-i-preserved
loop-i-preserved g c =
    let x = c.args in
    let l = c.loop-i in
    let code = g.C.WireCode.which in
    let V : Values = (g.M.ReadableMemory.means x.memory.now).value in
    let k = bytes_of x.width * per_byte code in
    let o = g.R.Registering.lists x.registration.now in
    let a = listed_access o (x.from + l.i) in
    let here : device_and_number c.access-access.result ≡ a = c.access-access.ensures in
    let value : c.access_value-value.result ≡ value_of x.width V a.0 a.1 = c.access_value-value.ensures ∙ ap (λ b. value_of x.width V b.0 b.1) here in
    let post = c.write_sized-place.ensures in (
      rw (post.used, post.written) (listed_turn code x.width V l.out l.place _ _ a _ _ (kept_more (all_of o) _ x.from x.count l.i (omega arith) (omega arith)) value refl ∙ l.invariant.0),
      omega (arith, one_of x.count l.i k (omega arith), l.invariant.1, post.used),
    )
