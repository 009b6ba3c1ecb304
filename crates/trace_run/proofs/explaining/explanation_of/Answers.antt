use Rattle.trace_run.proofs.Explained.{row_explained}
use Rattle.trace_run.proofs.explaining.explanation_of.Goals as goal

pub runs_of-requires : goal.runs_of-requires
runs_of-requires c =
    row_explained c.incorrect_fails.ensures c.args.judge.now.bounds c.args.judge.now.budget c.args.target.now.entries c.args.source.now c.in_ok-row.field-0.row.finding c.in_ok-row.field-0.pair
    c.requires.target_judgeable c.requires.source_judgeable c.in_ok-row.ensures.row.found c.in_ok-row.ensures.pair
