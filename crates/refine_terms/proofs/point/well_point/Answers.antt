use Rattle.refine_terms.proofs.Common.{IsCode, numbers_at}
use Rattle.refine_terms.proofs.PointChains.{code_and_plain}
use Rattle.refine_terms.proofs.point.well_point.Goals as goal

pub returns-clause-made : goal.returns-clause-made
returns-clause-made c =
    code_and_plain c.args.terms.now c.code.new.terms c.both.new.terms c.in_ok-is_code.is_code c.args.outcome.now.plain c.in_ok-id.id (λ v. IsCode c.args.shape.now (numbers_at v c.args.terms.now c.args.input.now c.args.tape.now))
    c.requires.outcome.plain c.code.ensures.kept c.in_ok-is_code.ensures.made c.in_ok-id.ensures.made
