use Rattle.std.proofs.Common.{◌≡◌, ◌+◌, ◌-◌, [], ◌∷◌, ◌++◌, length, take, arith, refl, length-append, length-take}
use Rattle.std.proofs.lemmas.List.{length-reverse}
use Rattle.std.proofs.lemmas.Iterator.Adapters.{YieldsList-from_rev_slice}
use Rattle.std.proofs.lemmas.Iterator.Consumers.{YieldsList-turn, YieldsList-end}
use Rattle.wire.proofs.Numbers.{byte_more, three_bytes}
use Rattle.wire.proofs.Turns.{low_turn, byte_back}
use Rattle.wire.proofs.binary.read_bytes.Goals as goal

pub with_digit-value-requires : goal.with_digit-value-requires
with_digit-value-requires c =
    let n = length c.loop-byte.yielded in
    let size = c.args.size in
    let turn = YieldsList-turn (YieldsList-from_rev_slice (take size c.args.bytes.now) cc) c.loop-byte.yielded c.loop-byte.byte-iterator c.loop-byte.yielded_by c.next.result c.next.new.self c.in-Some.byte c.in-Some.is c.next.ensures.steps in
    let here = byte_back c.args.bytes.now size n c.in-Some.byte.now (omega arith) turn.0 turn.1 in
    omega (arith, here.0, here.1, c.type_inv.bytes (size - (n + 1)), c.loop-byte.invariant.3, three_bytes n (omega (arith, here.0)))

pub loop-byte-preserved : goal.loop-byte-preserved
loop-byte-preserved c =
    let n = length c.loop-byte.yielded in
    let size = c.args.size in
    let bytes = c.args.bytes.now in
    let turn = YieldsList-turn (YieldsList-from_rev_slice (take size bytes) cc) c.loop-byte.yielded c.loop-byte.byte-iterator c.loop-byte.yielded_by c.next.result c.next.new.self c.in-Some.byte c.in-Some.is c.next.ensures.steps in
    let here = byte_back bytes size n c.in-Some.byte.now (omega arith) turn.0 turn.1 in
    let more : length (c.loop-byte.yielded ++ c.in-Some.byte ∷ []) ≡ n + 1 = simp length-append (omega arith) in
    rw (more, c.with_digit-value.ensures) (
      tt,
      tt,
      low_turn bytes n size c.loop-byte.value c.in-Some.byte.now here.0 (omega arith) here.1 c.loop-byte.invariant.2,
      byte_more c.loop-byte.value c.in-Some.byte.now n (n + 1) refl c.loop-byte.invariant.3 (omega (arith, here.1, c.type_inv.bytes (size - (n + 1)))),
    )

pub returns : goal.returns
returns c =
    let size = c.args.size in
    let bytes = c.args.bytes.now in
    let end = YieldsList-end (YieldsList-from_rev_slice (take size bytes) cc) c.loop-byte.yielded c.loop-byte.byte-iterator c.loop-byte.yielded_by c.next.result c.next.new.self c.in-None.is c.next.ensures.steps in
    let all : length c.loop-byte.yielded ≡ size = omega (arith, end.1, length-reverse (take size bytes), length-take size bytes) in
    let none : size - size ≡ 0 = omega arith in
    record { value = rw (all, none) at c.loop-byte.invariant.2; below = rw all at c.loop-byte.invariant.3 }
