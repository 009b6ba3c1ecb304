use Rattle.pair_questions.proofs.Excluding.{question_more}
use Rattle.pair_questions.proofs.point_question.PointQuestion.exclude.Goals as goal

pub returns-clause-question : goal.returns-clause-question
returns-clause-question c =
    let h = c.requires.question in
    record {
      front = h.front;
      question = question_more c.args.subject.now c.args.self.now h.front c.and_no_tape.new.terms c.in_ok-self.field-0 c.requires.subject h.question c.and_no_tape.ensures.kept
          c.push.new.self c.args.tape (rw c.as_slice.ensures at c.in_ok-self.ensures.made) c.in_ok-push.ensures.ok;
      all = h.all;
      whole = h.whole;
    }
