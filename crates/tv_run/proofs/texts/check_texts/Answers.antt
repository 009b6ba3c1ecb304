use Rattle.tv_run.proofs.Common.{◌≡◌, arith, inl, IsTheDefinedReport, SaysRefinement}
use Rattle.tv_run.specs.Texts.{OfTexts}
use Rattle.tv_run.specs.declared.texts.CheckedTexts.{CheckedTexts}
use Rattle.tv_run.proofs.TextChecks.{judged_texts, refuses, stop_known, texts_in_range, texts_unlimited, unreported}
use Rattle.tv_run.proofs.texts.check_texts.Goals as goal

pub returns-in-Ok-clause-sound : goal.returns-in-Ok-clause-sound
returns-in-Ok-clause-sound c = λ within files check checks.
    let report = c.in-Ok.report in
    c.file_reports_are_sound.ensures files check report.answers.items report.text.items report.status (c.in-Ok.ensures.reports files check checks)

pub returns-in-Ok-clause-defined : goal.returns-in-Ok-clause-defined
returns-in-Ok-clause-defined c = λ within none files check checks.
    let report = c.in-Ok.report in
    let source = c.args.source.now in
    let target = c.args.target.now in
    let bounds = c.args.bounds.now in
    let budget = c.args.budget.now in
    c.file_reports_are_defined.ensures files check report.answers.items report.text.items report.status
    (texts_in_range source target bounds budget files check checks c.requires.in_range) (texts_unlimited source target bounds budget files check checks none) (c.in-Ok.ensures.reports files check checks)

pub returns-in-Ok-clause-complete : goal.returns-in-Ok-clause-complete
returns-in-Ok-clause-complete c = λ both. c.in-Ok.ensures.known

pub returns-in-Ok-clause-refused : goal.returns-in-Ok-clause-refused
returns-in-Ok-clause-refused c = λ above. absurd (omega (arith, above, c.in-Ok.ensures.known))

pub returns-in-Err-clause-sound : goal.returns-in-Err-clause-sound
returns-in-Err-clause-sound c =
    unreported c.stopped.result c.in-Err.stop
    (λ (checked : CheckedTexts). OfTexts c.args.source.now c.args.target.now c.args.bounds.now c.args.budget.now (λ files check. SaysRefinement files check checked.written.items checked.status))
    c.stopped.ensures.status

pub returns-in-Err-clause-defined : goal.returns-in-Err-clause-defined
returns-in-Err-clause-defined c =
    unreported c.stopped.result c.in-Err.stop
    (λ (checked : CheckedTexts).
    c.args.budget.now.conflicts ≡ 0 → OfTexts c.args.source.now c.args.target.now c.args.bounds.now c.args.budget.now (λ files check. IsTheDefinedReport files check checked.written.items checked.status))
    c.stopped.ensures.status

pub returns-in-Err-clause-complete : goal.returns-in-Err-clause-complete
returns-in-Err-clause-complete c =
    judged_texts c.is_one_module.ensures.apart c.stopped.result c.args.source.now c.args.target.now c.in-Err.stop c.in-Err.ensures.cause c.stopped.ensures.status c.stopped.ensures.fits

pub returns-in-Err-clause-refused : goal.returns-in-Err-clause-refused
returns-in-Err-clause-refused c =
    refuses c.stopped.result c.args.source.now c.args.target.now c.in-Err.stop c.in-Err.ensures.cause c.stopped.ensures.status c.stopped.ensures.line

pub returns-in-Ok-clause-known : goal.returns-in-Ok-clause-known
returns-in-Ok-clause-known c = inl c.in-Ok.ensures.known

pub returns-in-Err-clause-known : goal.returns-in-Err-clause-known
returns-in-Err-clause-known c =
    stop_known c.stopped.result c.args.source.now c.args.target.now c.in-Err.stop c.in-Err.ensures.cause c.stopped.ensures.status c.stopped.ensures.fits
