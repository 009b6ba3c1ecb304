-- No tape covers the point, or the limit was spent on the question.
use Rattle.std.proofs.Common.{sym, ◌∙◌}
use Rattle.instantiate.proofs.Growing.{grown_of, told_incorrect, told_spent_tape}
use Rattle.instantiate.proofs.rounds.Trail.answer.Goals as goal

pub returns-in_ok-push-in-None : goal.returns-in_ok-push-in-None
returns-in_ok-push-in-None c =
    let s = c.args.subject.now in
    let none = rw c.in-None.is at c.in_ok-tape.ensures in
    told_incorrect s.pair.now s.bounds.now c.args.budget.now c.args.self.now.question.tapes c.args.self.now.points.items c.push.new.self.items c.args.point c.in_ok-last-in-None.last c.in-None.cert
    (grown_of s c.args.budget.now c.args.self.now c.requires.trail) c.requires.least none.0 none.1 c.in_ok-push-in-None.ensures.items c.in_ok-last-in-None.ensures

pub returns-in_ok-push-in-Spent : goal.returns-in_ok-push-in-Spent
returns-in_ok-push-in-Spent c =
    let s = c.args.subject.now in
    let spent = rw c.in-Spent.is at c.in_ok-tape.ensures in
    told_spent_tape s.pair.now s.bounds.now c.args.budget.now c.args.self.now.question.tapes c.args.self.now.points.items c.push-in-Spent.new.self.items c.args.point spent.0 c.in-Spent.cert
    (grown_of s c.args.budget.now c.args.self.now c.requires.trail) c.requires.least (sym c.limit_in.ensures.value ∙ spent.1) spent.2 c.in_ok-push-in-Spent.ensures.items
