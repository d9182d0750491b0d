use Rattle.std.proofs.Common.{◌≡◌, None, Some, Ok, sym, ap, ◌∙◌}
use Rattle.std.specs.Option.{ok_or}
use Rattle.std.specs.Result.{result_ok}
use Rattle.std.proofs.lemmas.Result.{err_from_is_err_and}
use Rattle.frame.specs.declared.fault.Cause.TheVariants.{BadRecord}
use Rattle.frame.specs.Faults.{fault}
use Rattle.sheet.specs.Records.{record_size}
use Rattle.sheet.proofs.Tests.{cut_off, all_there}
use Rattle.sheet.proofs.record.test_record.Goals as goal

pub returns-in_err-size-clause-value : goal.returns-in_err-size-clause-value
returns-in_err-size-clause-value c =
    let x = c.args in
    let p = err_from_is_err_and c.from_residual.result c.from_residual.ensures.1 in
    let cut = c.ok_or.ensures.ok_part ∙ ap result_ok c.in_err-size.was in
    let none : None ≡ record_size x.sheet.now x.at = sym cut ∙ c.record_size.ensures.value in
    let cause = sym c.in_err-size.was ∙ c.ok_or.ensures.value ∙ ap (ok_or c.record_size.result) c.at.ensures ∙ ap (λ o. ok_or o (fault BadRecord x.at)) cut in
    rw (p.1, p.2) (cause ∙ cut_off x.code x.space x.sheet.now x.at none)

pub returns-in_err-header-clause-value : goal.returns-in_err-header-clause-value
returns-in_err-header-clause-value c =
    let x = c.args in
    let size = c.in_ok-size.size in
    let p = err_from_is_err_and c.from_residual-in_err-header.result c.from_residual-in_err-header.ensures.1 in
    let some : Some size ≡ record_size x.sheet.now x.at = sym (c.ok_or.ensures.ok_part ∙ ap result_ok c.in_ok-size.was) ∙ c.record_size.ensures.value in
    rw (p.1, p.2) (all_there x.code x.space x.sheet.now x.at size _ some (sym c.in_err-header.was ∙ c.read_header.ensures.value))

pub returns-clause-value : goal.returns-clause-value
returns-clause-value c =
    let x = c.args in
    let size = c.in_ok-size.size in
    let some : Some size ≡ record_size x.sheet.now x.at = sym (c.ok_or.ensures.ok_part ∙ ap result_ok c.in_ok-size.was) ∙ c.record_size.ensures.value in
    c.frame_alone.ensures.value ∙ all_there x.code x.space x.sheet.now x.at size (Ok c.in_ok-header.header) some (sym c.in_ok-header.was ∙ c.read_header.ensures.value)
