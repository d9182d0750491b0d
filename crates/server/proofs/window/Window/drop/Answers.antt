use Rattle.std.proofs.Common.{refl}
use Rattle.server.proofs.Onward.{window_ended}
use Rattle.server.proofs.window.Window.drop.Goals as goal

pub returns-clause-carries : goal.returns-clause-carries
returns-clause-carries c = λ s. window_ended s _ _ _ refl
