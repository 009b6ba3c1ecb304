use Rattle.std.proofs.lemmas.Result.{IfOk-weaker}
use Rattle.pair_questions.proofs.Uncovering.{point_decides}
use Rattle.pair_questions.proofs.goals.is_point.Goals as goal

pub returns-clause-made : goal.returns-clause-made
returns-clause-made c =
    let s = c.args.subject.now in
    IfOk-weaker c.well_point.result _ _
    (λ id made. point_decides s.pair.now s.bounds.now s.shape c.args.terms.now c.well_point.new.terms c.args.input.now c.args.tape.now c.args.target.now id c.requires.subject.shape c.requires.input c.requires.target made)
    c.well_point.ensures.made
