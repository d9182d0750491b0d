use Rattle.std.proofs.Common.{◌≡◌, ◌-◌, length, take, drop, ap, ◌∙◌, length-drop}
use lib.Seq.{take-length}
use Rattle.request.proofs.fields.Place.rest.Goals as goal

pub returns : goal.returns
returns c =
    let at = c.args.self.at in
    let xs = c.args.self.frame.now in
    let e : take (length xs - at) (drop at xs) ≡ drop at xs = rw (← length-drop at xs) (take-length (drop at xs)) in
    record { value = e; long = ap length e ∙ length-drop at xs }
