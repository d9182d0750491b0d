use Rattle.std.proofs.Common.{ap, rules}
use Rattle.memory.proofs.Points.{wrote_kept, kept_as}
use Rattle.memory.proofs.lending.set.Goals as goal

pub returns-clause-kept : goal.returns-clause-kept
returns-clause-kept g c =
    let x = c.args in
    let f = g.U.Unit.FORM in
    let s = c.new-storage.result in
    let made = c.new-storage.ensures in
    kept_as f made.extents (ap g.U.Unit.numbers made.units)
    (wrote_kept f (g.U.Unit.numbers s.units.now) s.extents x.device x.number x.value s.fits c.write.result c.write.ensures.answer (search rules))
