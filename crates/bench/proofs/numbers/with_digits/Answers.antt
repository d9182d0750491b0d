use Rattle.std.specs.Prelude.{option_and_then}
use Rattle.std.proofs.Common.{◌+◌, drop, sym, ap, ◌∙◌}
use Rattle.std.proofs.lemmas.List.{drop_more, drop_all}
use Rattle.bench.specs.Decimals.{with_digits}
use Rattle.bench.proofs.numbers.with_digits.Goals as goal

pub returns-in_err-value : goal.returns-in_err-value
returns-in_err-value c =
    let xs = c.args.word.now in
    let i = c.loop-character.character-index in
    let v = c.loop-character.value in
    c.from_residual.ensures
    ∙ ap (option_and_then (λ n. with_digits n (drop (i + 1) xs))) c.in_err-value.ensures
    ∙ ap (with_digits v) (sym (drop_more xs i 0 c.loop-character-test.true))
    ∙ c.loop-character.invariant

pub loop-character-preserved : goal.loop-character-preserved
loop-character-preserved c =
    let xs = c.args.word.now in
    let i = c.loop-character.character-index in
    let v = c.loop-character.value in
    ap (option_and_then (λ n. with_digits n (drop (i + 1) xs))) c.in_ok-value.ensures
    ∙ ap (with_digits v) (sym (drop_more xs i 0 c.loop-character-test.true))
    ∙ c.loop-character.invariant

pub returns : goal.returns
returns c =
    ap (with_digits c.loop-character.value) (sym (drop_all c.loop-character.character-index c.args.word.now c.loop-character-test.false))
    ∙ c.loop-character.invariant
