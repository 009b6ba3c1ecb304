use Rattle.pair_questions.proofs.Joining.{least_found, none_found, spent_found}
use Rattle.pair_questions.proofs.point_question.PointQuestion.least.Goals as goal

pub returns-then-not-branch-clause-found : goal.returns-then-not-branch-clause-found
returns-then-not-branch-clause-found c =
    let h = c.loop-point.invariant.question in
    least_found c.args.subject.now c.loop-point.self c.widen.new.self h c.in_ok-point.field-0 c.in-Least.point c.in-Least.is (c.in_ok-point.ensures h) (c.in_ok-widen-in-Least.ensures.none c.if-not-branch.true)

pub returns-in-None-clause-found : goal.returns-in-None-clause-found
returns-in-None-clause-found c =
    let h = c.loop-point.invariant.question in
    none_found c.args.subject.now c.loop-point.self h c.in_ok-point.field-0 c.in-None.cert c.in-None.is (c.in_ok-point.ensures h)

pub returns-in-Spent-clause-found : goal.returns-in-Spent-clause-found
returns-in-Spent-clause-found c =
    let h = c.loop-point.invariant.question in
    spent_found c.args.subject.now c.loop-point.self h c.in_ok-point.field-0 c.in-Spent.cert c.in-Spent.is (c.in_ok-point.ensures h)
