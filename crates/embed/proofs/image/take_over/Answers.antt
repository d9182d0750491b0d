use Rattle.std.proofs.Common.{sym, ap, ◌∙◌}
use Rattle.memory.specs.Stored.{stored}
use Rattle.memory.specs.declared.layout.Form.TheVariants.{Image}
use Rattle.memory.proofs.Points.{all_put}
use Rattle.embed.proofs.image.take_over.Goals as goal

pub returns : goal.returns
returns c =
    let l = all_put Image (λ s. s.units.ghost_name) (λ s. s.extents) (λ s. s.starts) (λ s. s.units.now) (λ s. s.fits) _ c.args.image.now c.take.new.memory c.take.ensures.left in
    record {
      name = l.place;
      taken = record { tells = c.take.ensures.tells; units = l.units; kept = l.kept; means = sym (ap (stored Image c.take.new.memory.units.now) l.extents) ∙ c.take.ensures.means };
    }
