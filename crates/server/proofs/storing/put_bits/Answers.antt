use Rattle.std.proofs.Common.{◌≡◌, ◌+◌, ◌-◌, ap, subst, arith}
use Rattle.memory.specs.Leaving.{Leads, Tries}
use Rattle.request.specs.Fields.{bit_in, bits_in}
use Rattle.server.specs.Writes.{in_row, as_point}
use Rattle.server.proofs.Trying.{rest_all, rest_turn, rest_none}
use Rattle.server.proofs.Listing.{bits_more}
use Rattle.server.proofs.storing.put_bits.Goals as goal

pub loop-i-init : goal.loop-i-init
loop-i-init g c =
    let x = c.args in
    let R = Tries g.M.ReadableMemory.means g.M.WritableMemory.leaves in
    let code = g.C.WireCode.which in
    let start : x.number + 0 ≡ x.number = omega arith in
    let whole : x.count - 0 ≡ x.count = omega arith in
    rest_all R x.memory.now _ _ (λ i. in_row x.device (start i) (bits_in code x.bytes.now 0 (whole i)))

pub loop-i-preserved : goal.loop-i-preserved
loop-i-preserved g c =
    let x = c.args in
    let l = c.loop-i in
    let R = Tries g.M.ReadableMemory.means g.M.WritableMemory.leaves in
    let code = g.C.WireCode.which in
    let one = as_point x.device (x.number + l.i) (bit_in code x.bytes.now l.i) in
    let put : Leads R l.memory one c.put_point.new.memory =
    subst (λ v. Leads R l.memory (as_point x.device (x.number + l.i) v) c.put_point.new.memory) c.bit_at.ensures.value c.put_point.ensures in
    rest_turn R x.memory.now (in_row x.device x.number (bits_in code x.bytes.now 0 x.count)) l.memory c.put_point.new.memory one _ _ l.invariant put (bits_more code x.bytes.now x.device x.number x.count l.i (omega arith))

pub returns : goal.returns
returns g c =
    let x = c.args in
    let l = c.loop-i in
    let R = Tries g.M.ReadableMemory.means g.M.WritableMemory.leaves in
    let code = g.C.WireCode.which in
    let none : x.count - l.i ≡ 0 = omega arith in
    rest_none R x.memory.now (in_row x.device x.number (bits_in code x.bytes.now 0 x.count)) l.memory _ l.invariant (ap (λ k. in_row x.device (x.number + l.i) (bits_in code x.bytes.now l.i k)) none)
