use Rattle.term_rules.proofs.Common.{refl}
use Rattle.term_rules.proofs.DifferenceRules.{choice_of_equal}
use Rattle.term_rules.proofs.choices.choice_of_arms.Goals as goal

pub returns-then-are_equal_terms : goal.returns-then-are_equal_terms
returns-then-are_equal_terms c = choice_of_equal c.args.terms.now c.args.a c.args.b (c.if-are_equal_terms.ensures refl) c.args.c c.requires.a
