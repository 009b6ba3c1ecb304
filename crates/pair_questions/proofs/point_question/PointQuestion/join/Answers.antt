use Rattle.pair_questions.proofs.Excluding.{question_joined}
use Rattle.pair_questions.proofs.point_question.PointQuestion.join.Goals as goal

pub returns-clause-question : goal.returns-clause-question
returns-clause-question c = λ front h. question_joined c.args.subject.now c.args.self.now front c.and_no_candidate.new.terms c.in_ok-self.field-0 c.requires.subject h c.and_no_candidate.ensures.kept
    c.args.candidates.now c.in_ok-self.ensures.made
