use Rattle.byte_terms.proofs.Common.{keeps_trans}
use Rattle.byte_terms.proofs.Digits.{integer_of_bytes_stands}
use Rattle.byte_terms.proofs.integer_bytes.integer_of_bytes.Goals as goal

pub returns-clause-stands : goal.returns-clause-stands
returns-clause-stands c = λ r.
    integer_of_bytes_stands c.args.terms.now c.are_numbers.new.terms c.joined.new.terms c.zext.new.terms c.has_width.new.terms c.both.new.terms c.negation.new.terms c.integer_value.new.terms c.args.width c.args.bytes.now
    c.in_ok-are_numbers.are_numbers c.in_ok-digits.digits c.in_ok-value.value c.in_ok-is_small.is_small c.in_ok-is_number.is_number c.in_ok-poison.poison c.in_ok-integer.integer
    c.requires.bytes c.are_numbers.ensures.kept c.in_ok-are_numbers.ensures.made c.joined.ensures.kept c.in_ok-value.ensures.made c.zext.ensures.kept c.in_ok-is_small.ensures.made c.has_width.ensures.kept
    c.in_ok-is_number.ensures.made c.both.ensures.kept c.in_ok-poison.ensures.made c.negation.ensures.kept r (c.in_ok-are_numbers.ensures.stands r) (c.in_ok-digits.ensures.stands r) (c.in_ok-integer.ensures.stands r)

pub returns-clause-kept : goal.returns-clause-kept
returns-clause-kept c =
    let first = keeps_trans c.args.terms.now c.joined.new.terms c.zext.new.terms (keeps_trans c.args.terms.now c.are_numbers.new.terms c.joined.new.terms c.are_numbers.ensures.kept c.joined.ensures.kept) c.zext.ensures.kept in
    let second = keeps_trans c.zext.new.terms c.both.new.terms c.negation.new.terms (keeps_trans c.zext.new.terms c.has_width.new.terms c.both.new.terms c.has_width.ensures.kept c.both.ensures.kept) c.negation.ensures.kept in
    keeps_trans c.args.terms.now c.negation.new.terms c.integer_value.new.terms (keeps_trans c.args.terms.now c.zext.new.terms c.negation.new.terms first second) c.integer_value.ensures.kept
