use Rattle.term_rules.proofs.Common.{◌∙◌}
use Rattle.term_rules.proofs.MagnitudeRules.{sign_of}
use Rattle.term_rules.proofs.magnitudes.signed_term.Goals as goal

pub returns-then-from-whole : goal.returns-then-from-whole
returns-then-from-whole c =
    let found = c.in-Extract in
    sign_of c.args.terms.now c.args.c found.a found.from found.width c.values_fit.ensures found.ensures.within.1 found.ensures.tree
    c.if-width-eq1.true (c.if-from-whole.true ∙ c.width-whole.ensures.width)
