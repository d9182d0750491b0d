use Rattle.std.proofs.Common.{◌≡◌, ◌+◌, ◌*◌, drop}
use lib.Seq.{sets}
use Rattle.wire.specs.Numbers.{per_byte}
use Rattle.wire.specs.Series.{series_size, series_bytes}
use Rattle.wire.proofs.series.write_series.Given as goal

abbrev pub invariant-loop-number : goal.invariant-loop-number
invariant-loop-number g l =
    let code = g.C.WireCode.which in
    (sets l.out l.place (series_bytes code (drop l.number-index l.numbers)) ≡ sets l.initial.out l.at (series_bytes code l.numbers))
    × (l.place + series_size (drop l.number-index l.numbers) * per_byte code ≡ l.at + series_size l.numbers * per_byte code)
