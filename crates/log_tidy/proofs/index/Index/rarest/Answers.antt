-- Another literal of the clause.
use Rattle.log_tidy.proofs.Common.{List, subst, sym, Lit, Has}
use Rattle.log_tidy.proofs.Listed.{item-at}
use Rattle.log_tidy.proofs.index.Index.rarest.Goals as goal
use Rattle.log_tidy.proofs.index.Index.rarest.Goals.{then-count, else-count}

pub loop-literal-preserved : goal.loop-literal-preserved
loop-literal-preserved c =
    let literals = c.literals-literal-items.result.now in
    elim c.if-count.branch [
      | then-count w ↦
          subst (λ (ls : List Lit). Has ls c.if-count.rarest) c.literals-literal-items.ensures.value
          (subst (λ (l : Lit). Has literals l) (sym w.rarest-is) (item-at literals c.loop-literal.literal-index _ c.loop-literal-test.true))
      | else-count w ↦ subst (λ (l : Lit). Has c.args.clause.now l) (sym w.rarest-is) c.loop-literal.invariant
    ]
