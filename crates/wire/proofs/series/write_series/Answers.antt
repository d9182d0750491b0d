use Rattle.std.proofs.Common.{◌*◌, sym, ap, ◌∙◌, arith}
use lib.Seq.{sets}
use Rattle.wire.specs.Numbers.{per_byte}
use Rattle.wire.specs.Series.{series_bytes, series_size}
use Rattle.wire.proofs.Runs.{short_at, size_turn, series_turn, series_ended}
use Rattle.wire.proofs.series.write_series.Goals as goal

pub write_number-place-requires : goal.write_number-place-requires
write_number-place-requires g c =
    let i = c.loop-number.number-index in (
      short_at c.args.numbers.now i c.requires.0 (omega arith),
      omega (arith, size_turn g.C.WireCode.which c.args.numbers.now i (omega arith), c.loop-number.invariant.1, c.requires.1),
    )

pub overflow_add-place : goal.overflow_add-place
overflow_add-place g c =
    let i = c.loop-number.number-index in
    omega (arith, size_turn g.C.WireCode.which c.args.numbers.now i (omega arith), c.loop-number.invariant.1, c.requires.1, c.write_number-place.ensures.used)

pub loop-number-preserved : goal.loop-number-preserved
loop-number-preserved g c =
    let code = g.C.WireCode.which in
    let ns = c.args.numbers.now in
    let i = c.loop-number.number-index in
    let post = c.write_number-place.ensures in (
      rw (post.used, post.written) (series_turn code ns i (omega arith) c.loop-number.out c.loop-number.place ∙ c.loop-number.invariant.0),
      omega (arith, size_turn code ns i (omega arith), c.loop-number.invariant.1, post.used),
    )

pub returns : goal.returns
returns g c =
    let code = g.C.WireCode.which in
    let ns = c.args.numbers.now in
    let none = series_ended ns c.loop-number.number-index (omega arith) in
    record {
      end = omega (arith, ap (λ l. series_size l * per_byte code) none, c.loop-number.invariant.1);
      written = sym (ap (λ l. sets c.loop-number.out c.loop-number.place (series_bytes code l)) none) ∙ c.loop-number.invariant.0;
    }
