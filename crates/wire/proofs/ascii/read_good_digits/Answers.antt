use Rattle.std.proofs.Common.{◌≡◌, ◌+◌, ◌-◌, ◌*◌, get_or, ap, sym, ◌∙◌, arith}
use Rattle.std.specs.Option.{unwrap_or}
use Rattle.std.specs.Result.{result_ok}
use Rattle.wire.specs.Numbers.{hex_value}
use Rattle.wire.proofs.Numbers.{two_a_byte}
use Rattle.wire.proofs.Places.{part_at}
use Rattle.wire.proofs.Gathered.{gather_turn}
use Rattle.wire.proofs.ascii.read_good_digits.Goals as goal

pub loop-byte-preserved : goal.loop-byte-preserved
loop-byte-preserved c =
    let t = c.args.notation in
    let at = c.args.at in
    let i = c.loop-byte.byte-index in
    let bytes = c.args.bytes.now in
    let byte = part_at bytes at (at + c.field_size-count.result - at) i 0 (omega arith) in
    let digit : c.from-digit.result ≡ unwrap_or (hex_value (get_or bytes (at + i) 0)) 16 = c.from-digit.ensures ∙ c.table_digit.ensures ∙ ap (λ b. unwrap_or (hex_value b) 16) byte in
    rw c.base-base.ensures.value (gather_turn t bytes at i (c.args.size * 2) c.loop-byte.value c.loop-byte.good c.from-digit.result _ (omega arith) (omega arith) (omega arith) digit c.loop-byte.invariant)

pub returns-then-good-clause-value : goal.returns-then-good-clause-value
returns-then-good-clause-value c =
    let none : c.args.size * 2 - c.loop-byte.byte-index ≡ 0 = omega arith in
    let kept = rw (c.if-good.true, none) at c.loop-byte.invariant in
    ap result_ok kept.0

pub returns-then-good-clause-below : goal.returns-then-good-clause-below
returns-then-good-clause-below c =
    let all : c.loop-byte.byte-index ≡ c.args.size * 2 = omega arith in
    let kept = rw (c.if-good.true, all, two_a_byte c.args.size) at c.loop-byte.invariant in
    kept.1

pub returns-else-good-clause-value : goal.returns-else-good-clause-value
returns-else-good-clause-value c = sym (rw c.if-good.false at c.loop-byte.invariant)
