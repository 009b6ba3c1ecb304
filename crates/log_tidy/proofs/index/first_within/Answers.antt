-- One more entry is of no clause within this one.
use Rattle.log_tidy.proofs.Common.{inl, inr, subst, sym, both_ways, standing, Entry, IsHit}
use Rattle.log_tidy.proofs.Listed.{item-more}
use Rattle.log_tidy.proofs.index.first_within.Goals as goal

pub loop-entry-preserved : goal.loop-entry-preserved
loop-entry-preserved c e has hit =
    elim (item-more c.args.entries.now c.loop-entry.entry-index (record { number = 0; signature = record { first = 0; second = 0 } }) e c.loop-entry-test.true has) [
      | inl g ↦ c.loop-entry.invariant e g hit
      | inr same ↦
          both_ways c.is_hit.result c.if-is_hit.false
          (c.is_hit.ensures.1 (subst (λ (x : Entry). IsHit (standing c.args.clauses.now c.args.steps.now) c.args.signature c.args.clause.now x) (sym same) hit))
    ]
