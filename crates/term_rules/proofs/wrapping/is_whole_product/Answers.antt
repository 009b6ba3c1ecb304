use Rattle.term_rules.proofs.Common.{ap, refl, ◌*◌, ◌∙◌}
use Rattle.term_rules.proofs.WrappingRules.{whole_product, whole_product_turned}
use Rattle.term_rules.proofs.wrapping.is_whole_product.Goals as goal

pub returns-then-is_widened-2 : goal.returns-then-is_widened-2
returns-then-is_widened-2 c _ =
    let found = c.in-Binary-Mul-default-default-default in
    whole_product c.args.terms.now c.args.m c.args.x c.args.y found.left found.right found.width c.values_fit.ensures c.requires.x c.requires.y c.requires.alike
    (rw found.field-0-is at found.ensures.tree) (c.if-width.true ∙ ap (λ k. 2 * k) c.width.ensures.width) (c.if-is_widened.ensures refl) (c.if-is_widened-2.ensures refl)

pub returns-then-is_widened-3 : goal.returns-then-is_widened-3
returns-then-is_widened-3 c h =
    let found = c.in-Binary-Mul-default-default-default in
    whole_product_turned c.args.terms.now c.args.m c.args.x c.args.y found.left found.right found.width c.values_fit.ensures c.requires.x c.requires.y c.requires.alike
    (rw found.field-0-is at found.ensures.tree) (c.if-width.true ∙ ap (λ k. 2 * k) c.width.ensures.width) (c.if-is_widened-3.ensures refl) (c.is_widened-then-is_widened-3.ensures h)
