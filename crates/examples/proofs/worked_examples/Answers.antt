use Rattle.std.proofs.Common.{refl}
use Rattle.examples.proofs.worked_examples.Goals as goal

pub returns : goal.returns
returns c = refl
