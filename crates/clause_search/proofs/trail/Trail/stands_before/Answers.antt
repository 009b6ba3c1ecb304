-- The literal is assigned where its variable is.
use Rattle.clause_search.proofs.Common.{arith, false≢true, ltb-true}
use Rattle.clause_search.proofs.Placing.{stands-none, stands-here, stands-later}
use Rattle.clause_search.proofs.trail.Trail.stands_before.Goals as goal

pub returns-in_default : goal.returns-in_default
returns-in_default c = (λ t. absurd (false≢true t), λ s. absurd (stands-none c.args.self.now c.args.place c.args.literal c.in_default.ensures.place s))

pub returns-then-at-place : goal.returns-then-at-place
returns-then-at-place c =
    stands-here c.args.self.now c.args.literal c.in-Some.at c.in-Some.ensures.place c.get.result c.get.ensures c.args.place c.is_same.result c.if-at-place.true c.is_same.ensures

pub returns-else-at-place : goal.returns-else-at-place
returns-else-at-place c = (
  λ t. let lt = ltb-true _ _ t in let le = c.if-at-place.false in absurd (omega (arith, lt, le)),
  λ s. absurd (stands-later c.args.self.now c.args.literal c.in-Some.at c.args.place c.in-Some.ensures.place c.if-at-place.false s),
)
