use Rattle.access_terms.proofs.Common.{arith, IfOk-weaker, below-wider}
use Rattle.access_terms.proofs.Leading.{sum_with_made}
use Rattle.access_terms.proofs.offsets.sum_with.Goals as goal

pub constant-requires-clause-fits : goal.constant-requires-clause-fits
constant-requires-clause-fits c = below-wider c.args.index.now.scale 32 c.args.width c.requires.index.scale (omega (arith, c.requires.least))

pub returns-clause-made : goal.returns-clause-made
returns-clause-made c = IfOk-weaker c.add.result _ _ (λ id m. sum_with_made c.args.terms.now c.sext.new.terms c.constant.new.terms c.mul.new.terms c.zext.new.terms c.add.new.terms c.args.offset c.args.index.now.number
    c.in_ok-number.number c.in_ok-scale.scale c.in_ok-product.product c.in_ok-wide.wide id c.args.index.now.width.bits c.args.index.now.scale c.args.width c.sext.ensures.kept c.constant.ensures.kept c.mul.ensures.kept c.zext.ensures.kept
    c.requires.offset c.requires.index.number c.in_ok-number.ensures.made c.in_ok-scale.ensures.made c.in_ok-product.ensures.made c.in_ok-wide.ensures.made m) c.add.ensures.made
