use Rattle.std.proofs.Common.{◌≡◌, get_or, refl, ap, ◌∙◌, arith, length-set}
use Rattle.device.specs.declared.types.Kind.{Kind}
use Rattle.device.specs.Devices.{device_at_place, kind_of}
use Rattle.memory.specs.Layout.{units_for}
use Rattle.memory.proofs.Pairs.{kind_here}
use Rattle.memory.proofs.Starts.{none_begun, start_most, starts_more}
use Rattle.memory.proofs.layout.starts_of.Goals as goal

pub overflow_add-starts : goal.overflow_add-starts
overflow_add-starts c =
    let l = c.loop-place in
    omega (arith, l.invariant.1 l.place (omega arith), start_most c.args.form c.args.extents.now l.place (λ k h. c.fits-extents k))

pub loop-place-init : goal.loop-place-init
loop-place-init c = (refl, none_begun c.args.form c.args.extents.now)

pub loop-place-preserved : goal.loop-place-preserved
loop-place-preserved c =
    let l = c.loop-place in
    let es = c.args.extents.now in
    let value : c.units_for.result ≡ units_for c.args.form (kind_of (device_at_place l.place)) (get_or es l.place 0) =
    c.units_for.ensures.value ∙ ap (λ (k : Kind). units_for c.args.form k (get_or es l.place 0)) (kind_here l.place _ (omega arith)) in (
      simp length-set l.invariant.0,
      starts_more c.args.form es l.starts l.place c.units_for.result (omega arith) l.invariant.1 value,
    )

pub returns : goal.returns
returns c = λ p h. c.loop-place.invariant.1 p (omega arith)
