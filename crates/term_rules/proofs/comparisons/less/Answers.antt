use Rattle.term_rules.proofs.Common.{refl, width_of, tree_in}
use Rattle.term_rules.proofs.BoundRules.{never_less}
use Rattle.term_rules.proofs.comparisons.less.Goals as goal

pub returns-then-is_sum_with : goal.returns-then-is_sum_with
returns-then-is_sum_with c = never_less c.args.terms.now c.args.a c.args.b (width_of (tree_in c.args.terms.now c.args.a)) (c.if-is_sum_with.ensures refl)
