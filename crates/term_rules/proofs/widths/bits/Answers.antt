use Rattle.term_rules.proofs.Common.{◌∙◌}
use Rattle.term_rules.proofs.WidthRules.{whole_part}
use Rattle.term_rules.proofs.widths.bits.Goals as goal

pub returns-then-width : goal.returns-then-width
returns-then-width c = whole_part c.args.terms.now c.args.a c.args.from c.args.width c.values_fit.ensures c.requires.a c.requires.most (c.if-width.true ∙ c.width.ensures.width)
