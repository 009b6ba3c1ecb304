use Rattle.inst_terms.proofs.Chains.{signed_product-made, signed_product-exact, signed_product-low}
use Rattle.inst_terms.proofs.products.whole_signed_product.Goals as goal

pub returns-clause-exact : goal.returns-clause-exact
returns-clause-exact c =
    signed_product-exact c.args.terms.now c.mul.new.terms c.args.a c.args.b c.in_ok-id.id c.args.width.bits c.args.width.at_least_1 c.values_fit.ensures c.requires.a c.requires.b
    (signed_product-made c.args.terms.now c.sext.new.terms c.sext-2.new.terms c.mul.new.terms c.args.a c.args.b c.in_ok-wide_a.wide_a c.in_ok-wide_b.wide_b c.in_ok-id.id c.args.width.bits
    c.requires.a c.requires.b c.sext.ensures.kept (rw c.bits-twice.ensures at c.in_ok-wide_a.ensures.made) c.sext-2.ensures.kept (rw c.bits-twice.ensures at c.in_ok-wide_b.ensures.made) c.in_ok-id.ensures.made)

pub returns-clause-low : goal.returns-clause-low
returns-clause-low c =
    signed_product-low c.args.terms.now c.mul.new.terms c.args.a c.args.b c.in_ok-id.id c.args.width.bits c.args.width.at_least_1 c.values_fit.ensures c.requires.a c.requires.b
    (signed_product-made c.args.terms.now c.sext.new.terms c.sext-2.new.terms c.mul.new.terms c.args.a c.args.b c.in_ok-wide_a.wide_a c.in_ok-wide_b.wide_b c.in_ok-id.id c.args.width.bits
    c.requires.a c.requires.b c.sext.ensures.kept (rw c.bits-twice.ensures at c.in_ok-wide_a.ensures.made) c.sext-2.ensures.kept (rw c.bits-twice.ensures at c.in_ok-wide_b.ensures.made) c.in_ok-id.ensures.made)
