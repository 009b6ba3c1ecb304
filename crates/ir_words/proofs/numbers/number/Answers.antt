use Rattle.ir_words.proofs.Common.{◌∙◌, sym, arith}
use Rattle.ir_words.proofs.Digits.{too_large, below}
use Rattle.ir_words.proofs.numbers.number.Goals as goal

pub returns-in_err-checked_mul : goal.returns-in_err-checked_mul
returns-in_err-checked_mul c =
    c.from_residual.ensures ∙ sym (too_large c.loop-digit.value c.loop-digit.digit-index c.args.digits.now (omega arith) c.loop-digit.invariant.so_far (omega (arith, c.in_err-checked_mul.ensures)))

pub returns-in_err-value : goal.returns-in_err-value
returns-in_err-value c =
    c.from_residual-in_err-value.ensures ∙ sym (too_large c.loop-digit.value c.loop-digit.digit-index c.args.digits.now (omega arith) c.loop-digit.invariant.so_far (omega (arith, c.in_err-value.ensures, c.in_ok-checked_mul.ensures)))

pub returns : goal.returns
returns c = below c.loop-digit.value c.loop-digit.digit-index c.args.digits.now c.loop-digit.invariant.so_far (omega arith) c.loop-digit.invariant.fits
