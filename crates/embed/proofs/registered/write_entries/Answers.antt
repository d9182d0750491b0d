use Rattle.std.proofs.Common.{◌≡◌, [], map, drop, sym, ap, ◌∙◌, arith}
use Rattle.std.proofs.lemmas.List.{drop_all}
use lib.Seq.{sets}
use Rattle.embed.specs.Registered.{kept_of}
use Rattle.embed.proofs.Entries.{all_written}
use Rattle.embed.proofs.registered.write_entries.Goals as goal

pub returns : goal.returns
returns c =
    let l = c.loop-i in
    let none : drop l.i c.args.accesses.now ≡ [] = drop_all l.i c.args.accesses.now (omega (arith, c.loop-i-test.false)) in
    all_written kept_of c.args.accesses.now c.args.entries.now l.entries (omega arith) (sym (ap (λ es. sets l.entries l.i (map kept_of es)) none) ∙ l.invariant)
