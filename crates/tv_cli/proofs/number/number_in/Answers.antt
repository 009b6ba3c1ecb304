use Rattle.tv_cli.proofs.Common.{◌≡◌, ◌≤◌, ◌∙◌, ℕ, arith, sym, ap, subst, Some, digits_value, without_leading_plus, le-leb}
use Rattle.tv_cli.proofs.Numerals.{numeral_is, no_numeral}
use Rattle.tv_cli.proofs.number.number_in.Goals as goal

pub returns-then-number-most-clause-value : goal.returns-then-number-most-clause-value
returns-then-number-most-clause-value c =
    let value : c.in-Ok.number ≡ digits_value 10 (without_leading_plus c.args.text.now) = c.in-Ok.ensures.value.0.1 in
    let least = le-leb _ _ (subst (λ n. c.args.range.least ≤ n) value c.if-range-number.true) in
    let most = le-leb _ _ (subst (λ n. n ≤ c.args.range.most) value c.if-number-most.true) in
    ap (λ (n : ℕ). Some n) value ∙ sym (numeral_is c.args.text.now c.args.range c.in-Ok.ensures.value.0.0.0 least most)

pub returns-in-Err-clause-value : goal.returns-in-Err-clause-value
returns-in-Err-clause-value c = sym (no_numeral c.args.text.now c.args.range (λ numeral most. c.in-Err.ensures.value.0 (numeral, omega (arith, most))))
