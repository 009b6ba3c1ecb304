-- Every point is covered, or the limit was spent on the question.
use Rattle.std.proofs.Common.{refl, sym, ◌∙◌}
use Rattle.std.proofs.lemmas.Result.{IfOk-weaker}
use Rattle.instantiate.proofs.Growing.{grown_of, round_asked, told_correct, told_spent_point, trail_asked}
use Rattle.instantiate.proofs.rounds.Trail.round.Goals as goal

pub answer-requires-clause-trail : goal.answer-requires-clause-trail
answer-requires-clause-trail c = trail_asked c.args.subject.now c.args.budget.now c.args.self.now _ c.requires.trail refl c.least.ensures.tapes c.least.ensures.limit c.in_ok-point.ensures.question

pub returns-in-Least : goal.returns-in-Least
returns-in-Least c =
    IfOk-weaker c.answer.result _ _ (λ end round. round_asked c.args.subject.now c.args.budget.now c.args.self.now (record c.args.self.now { question = c.least.new.self }) c.answer.new.self end c.least.ensures.tapes round) c.answer.ensures

pub returns-in-None : goal.returns-in-None
returns-in-None c =
    let s = c.args.subject.now in
    let found = rw c.in-None.is at c.in_ok-point.ensures.found in
    let trail = trail_asked s c.args.budget.now c.args.self.now (record c.args.self.now { question = c.least.new.self }) c.requires.trail refl c.least.ensures.tapes c.least.ensures.limit c.in_ok-point.ensures.question in
    told_correct s.pair.now s.bounds.now c.args.budget.now c.least.new.self.tapes c.args.self.now.points.items c.in-None.cert (grown_of s c.args.budget.now _ trail) found.0 found.1

pub returns-in-Spent : goal.returns-in-Spent
returns-in-Spent c =
    let s = c.args.subject.now in
    let found = rw c.in-Spent.is at c.in_ok-point.ensures.found in
    let trail = trail_asked s c.args.budget.now c.args.self.now (record c.args.self.now { question = c.least.new.self }) c.requires.trail refl c.least.ensures.tapes c.least.ensures.limit c.in_ok-point.ensures.question in
    told_spent_point s.pair.now s.bounds.now c.args.budget.now c.least.new.self.tapes c.args.self.now.points.items found.0 c.in-Spent.cert (grown_of s c.args.budget.now _ trail)
    (sym trail.limit ∙ found.1) found.2
