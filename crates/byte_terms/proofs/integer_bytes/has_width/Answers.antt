use Rattle.byte_terms.proofs.Common.{◌<◌, arith}
use Rattle.byte_terms.proofs.Digits.{has_width_stands}
use Rattle.byte_terms.proofs.integer_bytes.has_width.Goals as goal

pub returns-clause-made : goal.returns-clause-made
returns-clause-made c =
    let few : c.bits-low.result < 64 = (let e = c.bits-low.ensures in omega (arith, e, c.args.width.at_most_64, c.if-low-eq64.false)) in
    has_width_stands c.args.terms.now c.extract.new.terms c.constant.new.terms c.equals.new.terms c.args.value c.in_ok-above.above c.in_ok-zero.zero c.in_ok-is_small.is_small c.bits-low.result c.args.width.bits
    c.values_fit.ensures c.requires c.bits-low.ensures few c.in_ok-above.ensures.made c.constant.ensures.kept c.in_ok-zero.ensures.made c.in_ok-is_small.ensures.made
