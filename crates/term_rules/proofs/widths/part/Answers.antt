use Rattle.term_rules.proofs.Common.{arith, refl}
use Rattle.term_rules.proofs.WidthRules.{part_above}
use Rattle.term_rules.proofs.widths.part.Goals as goal

pub returns-then-ends_below : goal.returns-then-ends_below
returns-then-ends_below c = part_above c.args.terms.now c.args.a c.args.from c.args.width c.innermost-inner.result
    (c.requires.least, omega (arith, c.requires.most, c.width-whole.ensures.width, c.width-whole.ensures.range.1)) c.innermost-inner.ensures (c.if-ends_below.ensures refl)
