-- One more clause isn't empty.
use Rattle.log_tidy.proofs.Common.{◌∙◌, [], inl, inr, both_ways}
use Rattle.log_tidy.proofs.Listed.{item-more}
use Rattle.log_tidy.proofs.tidying.empty_clause.Goals as goal

pub loop-index-preserved : goal.loop-index-preserved
loop-index-preserved c h =
    elim (item-more c.args.clauses.now c.loop-index.index c.index-clauses-index.result [] c.loop-index-test.true h) [
      | inl g ↦ c.loop-index.invariant g
      | inr e ↦ both_ways c.is_empty.result c.if-is_empty.false (c.is_empty.ensures.1 (c.index-clauses-index.is ∙ e))
    ]
