use Rattle.byte_terms.proofs.Common.{keeps_trans}
use Rattle.byte_terms.proofs.Digits.{number_byte_stands}
use Rattle.byte_terms.proofs.integer_bytes.number_byte.Goals as goal

pub returns-clause-stands : goal.returns-clause-stands
returns-clause-stands c =
    let k = keeps_trans c.args.terms.now c.number.new.terms c.truth.new.terms (keeps_trans c.args.terms.now c.constant.new.terms c.number.new.terms c.constant.ensures.kept c.number.ensures.kept) c.truth.ensures.kept in
    number_byte_stands c.args.terms.now c.truth.new.terms c.mask_where.new.terms c.extract.new.terms c.digits_unless.new.terms c.args.is_poison c.args.value c.in_ok-is_part.is_part c.in_ok-mask.mask c.in_ok-digits.digits c.in_ok-number.number c.in_ok-zero.zero c.in_ok-part.part c.args.place c.poison_mask-poison.result c.args.width.bits
    c.requires.is_poison c.requires.value k c.in_ok-is_part.ensures.made c.poison_mask-poison.ensures c.mask_where.ensures.kept c.in_ok-mask.ensures.made c.extract.ensures.kept c.in_ok-digits.ensures.made c.digits_unless.ensures.kept c.in_ok-number.ensures.stands
