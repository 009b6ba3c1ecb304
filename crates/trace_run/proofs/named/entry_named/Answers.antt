use Rattle.std.proofs.Common.{sym, subst}
use Rattle.ir_reader.specs.Judgeable.{IsJudgeableEntry}
use Rattle.module_rows.proofs.Searches.{all_at}
use Rattle.trace_run.proofs.named.entry_named.Goals as goal

pub returns-then-branch-clause-judgeable : goal.returns-then-branch-clause-judgeable
returns-then-branch-clause-judgeable c =
    subst IsJudgeableEntry (sym c.entry-item.is) (all_at IsJudgeableEntry c.args.entries.now c.loop-entry.entry-index c.entry-item.result c.requires c.loop-entry-test.true)
