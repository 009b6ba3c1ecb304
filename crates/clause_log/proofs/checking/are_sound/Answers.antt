use Rattle.std.proofs.Common.{inl, inr, ◌≡◌, arith, subst}
use Rattle.std.proofs.lemmas.Bool.{cases_lt}
use Rattle.clause_log.specs.Refutation.{IsSoundAt}
use Rattle.clause_log.proofs.checking.are_sound.Goals as goal

pub loop-index-preserved : goal.loop-index-preserved
loop-index-preserved c = λ i lt. elim (cases_lt i c.loop-index.index) [
  | inl less ↦ c.loop-index.invariant i less
  | inr past ↦
      let here : c.loop-index.index ≡ i = omega (arith, lt, past) in
      subst (λ n. IsSoundAt c.args.clauses.now c.args.log.now n) here (c.in_ok-is_sound_at.ensures.0 c.if-not-branch.false)
]
