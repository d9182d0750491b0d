use Rattle.std.proofs.Common.{◌≡◌, ◌+◌, ◌-◌, ◌*◌, length, get_or, take, drop, Some, vec_items, sym, ap, ◌∙◌, rules}
use Rattle.bench.specs.Hex.{pairs, before}
use Rattle.bench.proofs.Digits.{ahead, turn_pairs, shift}
use Rattle.bench.proofs.hex.paired.Goals as goal

pub loop-rest-preserved : goal.loop-rest-preserved
loop-rest-preserved c =
    let xs = c.loop-rest.rest.now in
    let items = vec_items c.loop-rest.words in
    let rest = pairs (take (length xs - 2) (drop 2 xs)) in
    let word = c.from_be_bytes.result in
    let read : get_or xs 0 0 * 256 + get_or xs 1 0 ≡ word = search (rules, c.from_be_bytes.ensures) in
    turn_pairs c.args.bytes.now items xs c.in-len2-up.len_at_least c.loop-rest.invariant
    ∙ ap (λ w. ahead items (before (Some w) rest)) read
    ∙ shift items word rest
    ∙ ap (λ ys. ahead ys rest) (sym c.in_ok-push.ensures.items)
