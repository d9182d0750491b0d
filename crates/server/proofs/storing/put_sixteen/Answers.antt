use Rattle.std.proofs.Common.{◌≡◌, ℕ, ◌+◌, ◌-◌, ◌/◌, ◌%◌, ◌^◌, ap, subst, arith}
use Rattle.std.proofs.lemmas.Nat.{shr-shr}
use Rattle.memory.specs.Leaving.{Tries}
use Rattle.server.specs.Writes.{as_point, spread}
use Rattle.server.proofs.Trying.{IsRest, rest_all, rest_turn, rest_none, spread_turn}
use Rattle.server.proofs.storing.put_sixteen.Goals as goal

pub loop-i-init : goal.loop-i-init
loop-i-init g c =
    let x = c.args in
    let R = Tries g.M.ReadableMemory.means g.M.WritableMemory.leaves in
    let start : x.number + 0 ≡ x.number = omega arith in
    let whole : x.value / 1 ≡ x.value = omega arith in
    rest_all R x.memory.now (spread x.device x.number 16 x.value) _ (λ i. spread x.device (start i) 16 (whole i))

pub loop-i-preserved : goal.loop-i-preserved
loop-i-preserved g c =
    let x = c.args in
    let l = c.loop-i in
    let R = Tries g.M.ReadableMemory.means g.M.WritableMemory.leaves in
    let all = spread x.device x.number 16 x.value in
    subst (λ (v : ℕ). IsRest R x.memory.now all c.put_point.new.memory (spread x.device (x.number + (l.i + 1)) (16 - (l.i + 1)) v)) (shr-shr x.value l.i 1)
    (rest_turn R x.memory.now all l.memory c.put_point.new.memory (as_point x.device (x.number + l.i) (x.value / 2 ^ l.i % 2)) _ _ l.invariant c.put_point.ensures (spread_turn x.device x.number l.i (x.value / 2 ^ l.i) (omega arith)))

pub returns : goal.returns
returns g c =
    let x = c.args in
    let l = c.loop-i in
    let R = Tries g.M.ReadableMemory.means g.M.WritableMemory.leaves in
    let none : 16 - l.i ≡ 0 = omega arith in
    rest_none R x.memory.now (spread x.device x.number 16 x.value) l.memory _ l.invariant (ap (λ k. spread x.device (x.number + l.i) k (x.value / 2 ^ l.i)) none)
