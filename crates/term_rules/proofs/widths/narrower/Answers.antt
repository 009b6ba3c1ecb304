use Rattle.term_rules.proofs.WidthRules.{part_of_high, part_of_low, part_of_part}
use Rattle.term_rules.proofs.widths.narrower.Goals as goal

pub returns-in-Extract : goal.returns-in-Extract
returns-in-Extract c =
    let found = c.in-Extract in
    part_of_part c.args.terms.now c.args.a c.values_fit.ensures c.args.from c.args.width found.inner found.below found.width
    found.ensures.tree found.ensures.within.1 found.ensures.matched c.requires.most

pub returns-in-Concat : goal.returns-in-Concat
returns-in-Concat c =
    let found = c.in-Concat in
    part_of_low c.args.terms.now c.args.a c.values_fit.ensures c.args.from c.args.width found.high found.low found.below found.width
    found.ensures.tree found.ensures.within.2 found.ensures.matched.0 c.if-from-width.true

pub returns-in-Concat-2 : goal.returns-in-Concat-2
returns-in-Concat-2 c =
    let found = c.in-Concat in
    part_of_high c.args.terms.now c.args.a c.values_fit.ensures c.args.from c.args.width found.high found.low found.below found.width
    found.ensures.tree found.ensures.within.1 found.ensures.within.2 found.ensures.matched.0 found.ensures.matched.1 c.if-below-from.true c.requires.most
