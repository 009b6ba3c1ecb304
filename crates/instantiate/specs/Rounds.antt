-- A trail that may go on: its points each have their tape, and the question for the next point excludes these tapes.
use Rattle.std.specs.Prelude.{◌≡◌, ◌+◌, ◌≤◌, [], length, Option, None, Some}
use Rattle.points.specs.declared.point.Budget.{Budget}
use Rattle.verdicts.specs.declared.verdict.Kept.{Kept}
use Rattle.verdicts.specs.Trail.{TrailFrom}
use Rattle.pair_questions.specs.declared.subject.Subject.{Subject}
use Rattle.pair_questions.specs.PointQuestions.{IsPointQuestion}
use Rattle.instantiate.specs.declared.rounds.Trail.{Trail}
use Rattle.instantiate.specs.declared.rounds.End.{End}
use Rattle.instantiate.specs.Settling.{ComesWith, limit_of}

abbrev pub kept_in : Trail → Kept
kept_in t = record { tapes = t.question.tapes; points = t.points.items }

pub record IsTrail (s : Subject) (budget : Budget) (t : Trail) : Type 0 where
  pub count : length t.points.items ≡ length t.question.tapes
  pub trail : TrailFrom s.pair.now s.bounds.now [] t.question.tapes t.points.items
  pub within : length t.question.tapes ≤ budget.rounds
  pub question : IsPointQuestion s t.question
  pub limit : t.question.limit ≡ limit_of budget.conflicts

-- a round adds a tape, or ends the trail with a verdict and what comes with it
abbrev pub IsRound : Subject → Budget → Trail → Trail → Option End → Type 0
IsRound s budget before after None = IsTrail s budget after × (length after.question.tapes ≡ length before.question.tapes + 1)
IsRound s budget before after (Some e) = ComesWith s.pair.now s.bounds.now budget (kept_in after) e.cert e.verdict
