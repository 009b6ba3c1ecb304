use Rattle.term_rules.proofs.FactorRules.{factored_sum}
use Rattle.term_rules.proofs.builders.add.Goals as goal

pub returns-in-Some-clause-made : goal.returns-in-Some-clause-made
returns-in-Some-clause-made c = factored_sum c.args.terms.now c.distributed.new.terms c.args.a c.args.b c.in_ok-id.id c.in-Some.parts c.requires.alike c.in-Some.ensures c.in_ok-id.ensures.made
