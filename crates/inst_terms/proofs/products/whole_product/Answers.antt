use Rattle.inst_terms.proofs.Chains.{product-made}
use Rattle.inst_terms.proofs.products.whole_product.Goals as goal

pub returns-clause-made : goal.returns-clause-made
returns-clause-made c =
    product-made c.args.terms.now c.zext.new.terms c.zext-2.new.terms c.mul.new.terms c.args.a c.args.b c.in_ok-wide_a.wide_a c.in_ok-wide_b.wide_b c.in_ok-id.id c.args.width.bits
    c.values_fit.ensures c.requires.a c.requires.b c.zext.ensures.kept (rw c.bits-twice.ensures at c.in_ok-wide_a.ensures.made) c.zext-2.ensures.kept (rw c.bits-twice.ensures at c.in_ok-wide_b.ensures.made) c.in_ok-id.ensures.made
