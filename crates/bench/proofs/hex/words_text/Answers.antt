use Rattle.std.proofs.Common.{◌+◌, ◌++◌, drop, string_bytes, sym, ap, ◌∙◌, append-nil}
use Rattle.std.proofs.lemmas.List.{drop_all}
use Rattle.bench.specs.Hex.{bytes_text, halves}
use Rattle.bench.proofs.Digits.{turn_words}
use Rattle.bench.proofs.hex.words_text.Goals as goal

pub loop-word-preserved : goal.loop-word-preserved
loop-word-preserved c =
    let xs = c.args.words.now in
    let i = c.loop-word.word-index in
    ap (λ t. t ++ bytes_text (halves (drop (i + 1) xs))) c.in_ok-push_word.ensures
    ∙ turn_words xs (string_bytes c.loop-word.text) i c.loop-word-test.true
    ∙ c.loop-word.invariant

pub returns : goal.returns
returns c =
    let text = string_bytes c.loop-word.text in
    sym (append-nil text)
    ∙ ap (λ ys. text ++ bytes_text (halves ys)) (sym (drop_all c.loop-word.word-index c.args.words.now c.loop-word-test.false))
    ∙ c.loop-word.invariant
