use Rattle.std.proofs.Common.{◌≡◌, Ok, length, ap, ◌∙◌, arith}
use Rattle.embed.proofs.Twelve.{twelve}
use Rattle.embed.proofs.arguments.extents_in.Goals as goal

pub returns-in-len12 : goal.returns-in-len12
returns-in-len12 c =
    let es = c.args.extents.now in
    let long : length es ≡ 12 = omega (arith, c.in-len12.len_at_least, c.in-len12.len_below) in
    ap Ok (twelve es long) ∙ rw long
