use Rattle.module_rows.proofs.Common.{sym, subst, ◌∙◌, IsJudgeableEntry}
use Rattle.module_rows.proofs.Answered.{no_rows, has_next, one_row, last_row, all_rows}
use Rattle.module_rows.proofs.Searches.{all_at}
use Rattle.module_rows.proofs.rows.source_rows.Goals as goal

pub loop-source-init : goal.loop-source-init
loop-source-init c = no_rows _ _ _ _ _ _ _ c.new-rows.ensures.items c.requires.answered

pub next_row-requires-clause-answered : goal.next_row-requires-clause-answered
next_row-requires-clause-answered c = has_next _ _ _ c.args.targets.now c.args.sources.now c.loop-source.source-index c.source-item.result _ _ _ c.loop-source-test.true (sym c.source-item.is) c.loop-source.invariant

pub next_row-requires-clause-source_judgeable : goal.next_row-requires-clause-source_judgeable
next_row-requires-clause-source_judgeable c = subst IsJudgeableEntry (sym c.source-item.is) (all_at IsJudgeableEntry c.args.sources.now c.loop-source.source-index c.source-item.result c.requires.source_judgeable c.loop-source-test.true)

pub loop-source-preserved : goal.loop-source-preserved
loop-source-preserved c =
    one_row _ _ _ _ c.args.sources.now c.loop-source.source-index c.source-item.result c.in_ok-row.row _ _ _ _ _ c.loop-source-test.true (sym c.source-item.is) c.in_ok-push.ensures.items c.loop-source.invariant c.in_ok-row.ensures.row c.in_ok-row.ensures.left
    (sym c.ends-ended.ensures ∙ c.if-ended.false)

pub returns-then-ended : goal.returns-then-ended
returns-then-ended c =
    let whole =
    last_row c.args.first c.args.judge.now.bounds c.args.judge.now.budget c.args.targets.now c.args.sources.now c.loop-source.source-index c.source-item.result c.in_ok-row.row _ _ _ _ _ c.loop-source-test.true (sym c.source-item.is) c.in_ok-push.ensures.items c.loop-source.invariant c.in_ok-row.ensures.row c.in_ok-row.ensures.left
    (sym c.ends-ended.ensures ∙ c.if-ended.true) in
    record { rows = whole.rows_are; reported = whole.reported }

pub returns : goal.returns
returns c =
    let whole = all_rows c.args.first c.args.judge.now.bounds c.args.judge.now.budget c.args.targets.now c.args.sources.now c.loop-source.source-index c.loop-source.rows.items _ _ c.loop-source-test.false c.loop-source.invariant in
    record { rows = whole.rows_are; reported = whole.reported }
