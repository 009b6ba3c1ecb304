use Rattle.pair_questions.proofs.Missed.{least_point_of, none_of, spent_of, well_code}
use Rattle.pair_questions.proofs.point_question.PointQuestion.least_missed.Goals as goal

pub point_of-requires : goal.point_of-requires
point_of-requires c =
    let s = c.args.subject.now in
    let h = c.requires.question in
    rw c.as_slice.ensures (well_code s.pair.now s.bounds.now s.shape h.front c.args.self.now.tapes c.args.self.now.limit c.in_ok-code.field-0 c.in-Least.code c.in-Least.is (c.in_ok-code.ensures h))

pub returns-in_ok-point-in-Least : goal.returns-in_ok-point-in-Least
returns-in_ok-point-in-Least c = λ h.
    let s = c.args.subject.now in
    least_point_of s.pair.now s.bounds.now s.shape h.front c.args.self.now.tapes c.args.self.now.limit c.in_ok-code.field-0 c.in-Least.code c.in-Least.is (c.in_ok-code.ensures h)
    c.in_ok-point-in-Least.point c.in_ok-point-in-Least.ensures.of_shape (rw c.as_slice.ensures at c.in_ok-point-in-Least.ensures.code)

pub returns-in-None : goal.returns-in-None
returns-in-None c = λ h.
    let s = c.args.subject.now in
    none_of s.pair.now s.bounds.now s.shape h.front c.args.self.now.tapes c.args.self.now.limit c.in_ok-code.field-0 c.in-None.cert c.in-None.is (c.in_ok-code.ensures h)

pub returns-in-Spent : goal.returns-in-Spent
returns-in-Spent c = λ h.
    let s = c.args.subject.now in
    spent_of s.pair.now s.bounds.now s.shape h.front c.args.self.now.tapes c.args.self.now.limit c.in_ok-code.field-0 c.in-Spent.cert c.in-Spent.is (c.in_ok-code.ensures h)
