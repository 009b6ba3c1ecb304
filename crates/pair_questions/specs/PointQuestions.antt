-- The question for a point after some tapes.
use Rattle.std.specs.Prelude.{◌≡◌, ◌<◌, ℕ, ◌||◌, List, [], ◌++◌, IfSome}
use Rattle.points.specs.declared.point.Bounds.{Bounds}
use Rattle.points.specs.declared.point.Point.{Point}
use Rattle.verdicts.specs.Covers.{some_covers, tried}
use Rattle.verdicts.specs.Pair.{RunPair}
use Rattle.verdicts.specs.Trail.{IsPoint}
use Rattle.candidate_runs.specs.declared.candidate.Candidate.{Candidate}
use Rattle.candidate_runs.specs.Candidates.{tapes_of}
use Rattle.refine_terms.specs.Deciding.{Decides}
use Rattle.refine_terms.specs.Numbers.{numbers_at}
use Rattle.pair_questions.specs.declared.point_question.PointQuestion.{PointQuestion}
use Rattle.pair_questions.specs.declared.subject.Subject.{Subject}
use Rattle.pair_questions.specs.Orders.{IsOrder}
use Rattle.pair_questions.specs.PointTermsOf.{ArePointTerms}
use Rattle.pair_questions.specs.Questions.{IsMissed, point_widths}
use Rattle.pair_questions.specs.Shapes.{input_ids}

-- the variables are the numbers of a code in order, and the goal decides which of these are the code of a point that neither one of these candidates nor one of the tapes covers
pub record IsQuestionOf (s : Subject) (front : List Candidate) (q : PointQuestion) : Type 0 where
  pub of : ArePointTerms s q.terms q.of
  pub ids : q.order ≡ input_ids q.of.input ++ q.of.tape.words
  pub order : IsOrder q.terms q.order q.widths
  pub widths : q.widths ≡ point_widths s.pair.now s.bounds.now
  pub goal : Decides q.terms q.goal (λ v. IsMissed s.pair.now s.bounds.now front q.tapes (numbers_at v q.terms q.of.input q.of.tape))

-- two lists that are all candidates: one of all covers a point exactly where one of either list does
abbrev pub AreAllCandidates : RunPair → Bounds → (front left : List Candidate) → Type 0
AreAllCandidates pair bounds front left =
    (p : Point) → IsPoint pair bounds p → some_covers pair bounds p (tried pair bounds p) ≡ (some_covers pair bounds p (tapes_of pair bounds p front) || some_covers pair bounds p (tapes_of pair bounds p left))

-- the goal has some candidates, and the others are left; under a limit it has all
pub record IsPointQuestion (s : Subject) (q : PointQuestion) : Type 0 where
  pub front : List Candidate
  pub question : IsQuestionOf s front q
  pub all : AreAllCandidates s.pair.now s.bounds.now front q.left.items
  pub whole : IfSome q.limit (λ n. (0 < n) × (q.left.items ≡ []))
