use Rattle.std.proofs.Common.{◌≡◌, Ok, ℕ, refl, ap, ◌∙◌}
use Rattle.device.specs.Devices.{kind_of}
use Rattle.memory.specs.Layout.{index_of, extent_in}
use Rattle.memory.specs.Stored.{with_point, admitted}
use Rattle.memory.proofs.Points.{went, wrote_meaning}
use Rattle.memory.proofs.storage.StorageWritableMemory.write.Goals as goal

pub put-requires : goal.put-requires
put-requires g c =
    let f = g.U.Unit.FORM in
    let s = c.args.self.now in
    let d = c.args.device in
    let n = c.args.number in
    let ok : Ok tt ≡ admitted d (extent_in s.extents d) n c.args.value = c.in_ok-admit.ensures ∙ ap (λ (e : ℕ). admitted d e n c.args.value) c.extent.ensures in
    let p = went f (g.U.Unit.numbers s.units.now) s.extents d n c.args.value s.fits (Ok tt) ok refl in
    rw c.kind.ensures (c.index_of-at.ensures.within p.0, p.1)

pub returns-clause-meaning : goal.returns-clause-meaning
returns-clause-meaning g c =
    let f = g.U.Unit.FORM in
    let s = c.args.self.now in
    let us = g.U.Unit.numbers s.units.now in
    let d = c.args.device in
    let n = c.args.number in
    let ok : Ok tt ≡ admitted d (extent_in s.extents d) n c.args.value = c.in_ok-admit.ensures ∙ ap (λ (e : ℕ). admitted d e n c.args.value) c.extent.ensures in
    let put : g.U.Unit.numbers c.put.new.units ≡ with_point f (kind_of d) us (index_of f s.extents d n) n c.args.value = cc in
    wrote_meaning f us s.extents d n c.args.value s.fits (Ok tt) ok refl put

pub returns-clause-left : goal.returns-clause-left
returns-clause-left g c =
    let s = c.args.self.now in
    let d = c.args.device in
    let n = c.args.number in
    let ok : Ok tt ≡ admitted d (extent_in s.extents d) n c.args.value = c.in_ok-admit.ensures ∙ ap (λ (e : ℕ). admitted d e n c.args.value) c.extent.ensures in
    let p = went g.U.Unit.FORM (g.U.Unit.numbers s.units.now) s.extents d n c.args.value s.fits (Ok tt) ok refl in
    record { inside = p.0; narrow = p.1; place = refl; extents = refl; starts = refl; units = cc }
