use Rattle.byte_terms.proofs.Common.{◌≡◌, ◌∙◌, cond, refl, bit_at, bit-later, term-later, term_at}
use Rattle.mem_terms.proofs.Bits.{term-below}
use Rattle.byte_terms.proofs.Digits.{digits_kept, digits_picked}
use Rattle.byte_terms.proofs.integer_bytes.digits_unless.Goals as goal

pub returns-then-mask-eq255-clause-stands : goal.returns-then-mask-eq255-clause-stands
returns-then-mask-eq255-clause-stands c = λ v.
    digits_kept (bit_at v c.args.terms.now c.args.is_poison) (term_at v c.args.terms.now c.args.digits) c.args.mask (term-below c.args.terms.now 8 c.args.digits c.values_fit.ensures c.requires.digits v) c.if-mask-eq255.true

pub returns-clause-stands : goal.returns-clause-stands
returns-clause-stands c = λ v.
    let a = c.args.terms.now in
    let b = c.constant.new.terms in
    let is : term_at v c.pick.new.terms c.in_ok-number.number ≡ cond (bit_at v a c.args.is_poison) 0 (term_at v a c.args.digits) =
    c.in_ok-number.ensures.made.says v ∙ rw (bit-later a b c.constant.ensures.kept v c.args.is_poison c.requires.is_poison.within, c.in_ok-zero.ensures.made.says v, term-later a b c.constant.ensures.kept v c.args.digits c.requires.digits.within) refl in
    digits_picked (bit_at v a c.args.is_poison) (term_at v c.pick.new.terms c.in_ok-number.number) (term_at v a c.args.digits) c.args.mask (term-below a 8 c.args.digits c.values_fit.ensures c.requires.digits v) is
