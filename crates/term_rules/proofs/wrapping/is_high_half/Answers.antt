use Rattle.term_rules.proofs.Common.{◌∙◌}
use Rattle.term_rules.proofs.WrappingRules.{half_of_product}
use Rattle.term_rules.proofs.wrapping.is_high_half.Goals as goal

pub returns-in-Extract : goal.returns-in-Extract
returns-in-Extract c h =
    let found = c.in-Extract in
    half_of_product c.args.terms.now c.args.h found.a c.args.x c.args.y found.from found.width c.values_fit.ensures c.requires.x c.requires.y c.requires.alike
    found.ensures.tree c.if-from-width.true (c.if-width.true ∙ c.width.ensures.width) (c.is_whole_product.ensures h)
