-- The question is of the same tapes.
use Rattle.pair_questions.proofs.Common.{◌≡◌, length, IsPointQuestion}
use Rattle.pair_questions.proofs.point_question.PointQuestion.least.Given as goal

abbrev pub invariant-loop-point : goal.invariant-loop-point
invariant-loop-point l = record {
  question : IsPointQuestion l.subject l.self;
  tapes : l.self.tapes ≡ l.fn.self.tapes;
  limit : l.self.limit ≡ l.fn.self.limit;
}

abbrev pub decreases-loop-point : goal.decreases-loop-point
decreases-loop-point l = length l.self.left.items
