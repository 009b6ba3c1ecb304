use Rattle.tv_run.proofs.Common.{seen_check}
use Rattle.tv_run.proofs.Certified.{rows_certified, rows_headed, rows_named}
use Rattle.tv_run.proofs.Reporting.{reported}
use Rattle.tv_run.proofs.check.report_of_modules.Goals as goal

pub report_on-requires-clause-names : goal.report_on-requires-clause-names
report_on-requires-clause-names g c = rows_named _ _ _ c.args.source.now c.args.target.now _ c.in_ok-judgements.ensures.rows c.requires.source_is.named c.requires.target_is.named

pub report_on-requires-clause-certified : goal.report_on-requires-clause-certified
report_on-requires-clause-certified g c =
    rows_certified _ _ _ c.in_ok-judgements.judgements.rows.items c.in_ok-judgements.judgements.answers.items c.in_ok-judgements.ensures.answered c.in_ok-judgements.ensures.reported

pub report_on-requires-clause-each : goal.report_on-requires-clause-each
report_on-requires-clause-each g c =
    rows_headed _ _ _ c.in_ok-judgements.judgements.rows.items c.in_ok-judgements.judgements.answers.items c.in_ok-judgements.ensures.answered c.in_ok-judgements.ensures.reported

pub returns : goal.returns
returns g c =
    let judgements = c.in_ok-judgements.ensures in
    reported (seen_check c.args.check.now) c.args.source.now c.args.target.now c.in_ok-judgements.judgements.rows.items c.in_ok-judgements.judgements.answers.items _ _ _ _ judgements.rows judgements.answered judgements.reported c.in_ok-report.ensures
