use Rattle.std.proofs.Common.{ℕ, get_or, ap, ◌∙◌, arith}
use Rattle.device.specs.Devices.{place_of}
use Rattle.memory.specs.Layout.{unit_of}
use Rattle.memory.proofs.Smallness.{small_low}
use Rattle.memory.proofs.Starts.{start_most, index_room}
use Rattle.memory.proofs.storage.Storage.index_of.Goals as goal

pub overflow_add-result : goal.overflow_add-result
overflow_add-result g c =
    let s = c.args.self.now in
    let p = c.place.result in
    omega (arith, s.begun p (omega arith), start_most g.U.Unit.FORM s.extents p (λ k h. small_low s.extents s.small k (omega arith)))

pub returns-clause-within : goal.returns-clause-within
returns-clause-within g c =
    let s = c.args.self.now in
    let f = g.U.Unit.FORM in
    let d = c.args.device in
    let n = c.args.number in
    λ h. omega (
      arith,
      s.fits,
      index_room f s.extents d n h,
      ap (λ (p : ℕ). get_or s.starts p 0) c.place.ensures.value ∙ s.begun (place_of d) (omega arith),
      c.unit_of.ensures.value ∙ (λ i. unit_of (c.FORM.ensures i) (c.kind.ensures i) n),
    )
