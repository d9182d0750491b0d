use Rattle.std.proofs.Common.{◌≡◌, ◌-◌, length, get_or, take, drop, Some, vec_items, sym, ap, ◌∙◌, rules}
use Rattle.bench.specs.Hex.{byte_value, before, bytes_in}
use Rattle.bench.proofs.Digits.{ahead, odd, turn_read, shift}
use Rattle.bench.proofs.hex.read_bytes.Goals as goal

pub returns-then-text-eq1 : goal.returns-then-text-eq1
returns-then-text-eq1 c = λ _. odd c.args.text.now c.if-text-eq1.true

pub loop-rest-preserved : goal.loop-rest-preserved
loop-rest-preserved c =
    let xs = c.loop-rest.rest.now in
    let items = vec_items c.loop-rest.bytes in
    let rest = bytes_in (take (length xs - 2) (drop 2 xs)) in
    let byte = c.in_ok-byte.byte in
    let read : byte_value (get_or xs 0 0) (get_or xs 1 0) ≡ Some byte = search (rules, c.byte_of.ensures, c.ok_or.ensures, c.in_ok-byte.was) in
    turn_read c.args.text.now items xs c.in-len2-up.len_at_least c.loop-rest.invariant
    ∙ ap (λ o. ahead items (before o rest)) read
    ∙ shift items byte rest
    ∙ ap (λ ys. ahead ys rest) (sym c.in_ok-push.ensures.items)
