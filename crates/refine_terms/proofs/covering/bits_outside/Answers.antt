use Rattle.refine_terms.proofs.ValueTests.{outside_made}
use Rattle.refine_terms.proofs.covering.bits_outside.Goals as goal

pub returns-clause-made : goal.returns-clause-made
returns-clause-made c =
    outside_made c.args.terms.now c.not.new.terms c.and.new.terms c.args.number c.args.mask c.in_ok-others.others c.in_ok-id.id c.requires.number c.requires.mask c.not.ensures.kept c.in_ok-others.ensures.made c.in_ok-id.ensures.made
