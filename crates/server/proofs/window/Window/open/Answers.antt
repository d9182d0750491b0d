use Rattle.server.proofs.Onward.{window_opened}
use Rattle.server.proofs.window.Window.open.Goals as goal

pub returns-clause-carries : goal.returns-clause-carries
returns-clause-carries c =
    let e = c.switch-was.ensures in
    λ s. window_opened s _ _ _ e.was e.flag
