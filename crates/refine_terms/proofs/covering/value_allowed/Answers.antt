use Rattle.refine_terms.proofs.ValueTests.{value_tests}
use Rattle.refine_terms.proofs.covering.value_allowed.Goals as goal

pub returns-clause-made : goal.returns-clause-made
returns-clause-made c =
    value_tests c.args.given c.args.terms.now c.same_value.new.terms c.negation.new.terms c.both.new.terms c.either.new.terms c.args.source c.args.target c.in_ok-same.same c.in_ok-is_value.is_value c.in_ok-fine.fine c.in_ok-id.id
    c.values_fit.ensures c.requires.source c.requires.target c.same_value.ensures.kept c.negation.ensures.kept c.both.ensures.kept
    c.in_ok-same.ensures.made c.in_ok-is_value.ensures.made c.in_ok-fine.ensures.made c.in_ok-id.ensures.made
