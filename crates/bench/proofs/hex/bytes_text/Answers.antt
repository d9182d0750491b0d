use Rattle.std.proofs.Common.{◌≡◌, ◌+◌, ◌++◌, drop, string_bytes, sym, ap, ◌∙◌, append-nil, arith}
use Rattle.std.proofs.lemmas.List.{drop_all}
use Rattle.bench.specs.Hex.{bytes_in, bytes_text}
use Rattle.bench.proofs.Digits.{turn_text, text_back}
use Rattle.bench.proofs.hex.bytes_text.Goals as goal

pub loop-byte-preserved : goal.loop-byte-preserved
loop-byte-preserved c =
    let xs = c.args.bytes.now in
    let i = c.loop-byte.byte-index in
    ap (λ t. t ++ bytes_text (drop (i + 1) xs)) c.in_ok-push_byte.ensures
    ∙ turn_text xs (string_bytes c.loop-byte.text) i c.loop-byte-test.true
    ∙ c.loop-byte.invariant

pub returns : goal.returns
returns c =
    let xs = c.args.bytes.now in
    let text = string_bytes c.loop-byte.text in
    let all : text ≡ bytes_text xs = sym (append-nil text) ∙ ap (λ ys. text ++ bytes_text ys) (sym (drop_all c.loop-byte.byte-index xs c.loop-byte-test.false)) ∙ c.loop-byte.invariant in
    record { text = all; back = ap bytes_in all ∙ text_back xs (λ i. omega (arith, c.type_inv.bytes i)) }
