use Rattle.std.proofs.Common.{◌≡◌, ◌∙◌, arith}
use Rattle.server.proofs.Upheld.{takes_frame}
use Rattle.server.proofs.serve.serve.Goals as goal

pub returns-in-Ok-clause-fits : goal.returns-in-Ok-clause-fits
returns-in-Ok-clause-fits g c =
    let a = c.answer_frame in
    let whole : a.result.taken ≡ c.in-Ok.header.size = a.ensures.came.tells.takes ∙ takes_frame g.C.WireCode.which _ _ _ _ in
    (omega (arith, whole, c.in-Ok.ensures.within), a.ensures.fits)
