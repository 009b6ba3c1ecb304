use Rattle.tv_run.proofs.Named.{judgeable_module}
use Rattle.tv_run.proofs.TextChecks.{texts_report}
use Rattle.tv_run.proofs.texts.report_of_texts.Goals as goal

pub report_in_turn-requires-clause-in_range : goal.report_in_turn-requires-clause-in_range
report_in_turn-requires-clause-in_range c = c.requires.in_range

pub report_in_turn-requires-clause-source_is : goal.report_in_turn-requires-clause-source_is
report_in_turn-requires-clause-source_is c = judgeable_module _ _ c.in_ok-both.ensures.modules.source_is

pub report_in_turn-requires-clause-target_is : goal.report_in_turn-requires-clause-target_is
report_in_turn-requires-clause-target_is c = judgeable_module _ _ c.in_ok-both.ensures.modules.target_is

pub returns-clause-reports : goal.returns-clause-reports
returns-clause-reports c = λ files check checks.
    let read = c.in_ok-both.ensures.modules in
    texts_report c.args.source.now c.args.target.now c.args.bounds.now c.args.budget.now files check checks _ _ _ _ _ c.in_ok-both.ensures.within read.source_is.formed read.target_is.formed
    c.in_ok-report.ensures.report
