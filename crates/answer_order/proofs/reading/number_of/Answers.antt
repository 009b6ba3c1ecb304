use Rattle.std.proofs.Common.{◌≡◌, inl, inr, false, get_or, sym, arith}
use Rattle.std.proofs.lemmas.Bool.{cases_Bool}
use Rattle.bv_terms.specs.Tree.{digit}
use Rattle.answer_order.proofs.Steps.{number_more, number_small}
use Rattle.answer_order.proofs.reading.number_of.Goals as goal

pub overflow_mul-number : goal.overflow_mul-number
overflow_mul-number c = omega (arith, number_small c.args.digits.now c.loop-digit.digit-index c.loop-digit.number c.loop-digit.invariant c.loop-digit-test.true c.requires)

pub overflow_add-number : goal.overflow_add-number
overflow_add-number c =
    let small = number_small c.args.digits.now c.loop-digit.digit-index c.loop-digit.number c.loop-digit.invariant c.loop-digit-test.true c.requires in
    elim (cases_Bool (get_or c.args.digits.now c.loop-digit.digit-index false)) [
      | inl t ↦ let one : c.from.result ≡ 1 = rw t at c.from.ensures in omega (arith, small, one)
      | inr f ↦ let none : c.from.result ≡ 0 = rw f at c.from.ensures in omega (arith, small, none)
    ]

pub loop-digit-preserved : goal.loop-digit-preserved
loop-digit-preserved c =
    let is : c.from.result ≡ digit (get_or c.args.digits.now c.loop-digit.digit-index false) = elim (cases_Bool (get_or c.args.digits.now c.loop-digit.digit-index false)) [
      | inl t ↦ rw t (rw t at c.from.ensures)
      | inr f ↦ rw f (rw f at c.from.ensures)
    ] in
    rw (c.loop-digit.invariant, is) (sym (number_more c.args.digits.now c.loop-digit.digit-index false c.loop-digit-test.true))
