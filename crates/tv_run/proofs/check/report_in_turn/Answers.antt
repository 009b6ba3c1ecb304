use Rattle.tv_run.proofs.Common.{Bool, sym, subst, AreRows, all_are_first, may_answer, seen_check}
use Rattle.tv_run.proofs.Certified.{rows_certified, rows_headed, rows_named}
use Rattle.tv_run.proofs.Reporting.{reported}
use Rattle.tv_run.proofs.check.report_in_turn.Goals as goal

pub report_on-requires-clause-names : goal.report_on-requires-clause-names
report_on-requires-clause-names c = rows_named _ _ _ c.args.source.now c.args.target.now _ c.in_ok-judgements.ensures.rows c.requires.source_is.named c.requires.target_is.named

pub report_on-requires-clause-certified : goal.report_on-requires-clause-certified
report_on-requires-clause-certified c =
    rows_certified _ _ _ c.in_ok-judgements.judgements.rows.items c.in_ok-judgements.judgements.answers.items c.in_ok-judgements.ensures.answered c.in_ok-judgements.ensures.reported

pub report_on-requires-clause-each : goal.report_on-requires-clause-each
report_on-requires-clause-each c =
    rows_headed _ _ _ c.in_ok-judgements.judgements.rows.items c.in_ok-judgements.judgements.answers.items c.in_ok-judgements.ensures.answered c.in_ok-judgements.ensures.reported

pub returns : goal.returns
returns c =
    let judgements = c.in_ok-judgements.ensures in
    reported (seen_check c.args.check.now) c.args.source.now c.args.target.now c.in_ok-judgements.judgements.rows.items c.in_ok-judgements.judgements.answers.items _ _ _ _
    (subst (λ (first : Bool). AreRows first (may_answer c.args.check.now.bounds c.args.check.now.budget) c.args.check.now.bounds c.args.source.now c.args.target.now c.in_ok-judgements.judgements.rows.items) (sym c.requires.whole) judgements.rows)
    (all_are_first _ _ _ _ judgements.answered) judgements.reported c.in_ok-report.ensures
