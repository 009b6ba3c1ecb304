use Rattle.proof_text.proofs.Common.{◌≡◌, subst, arith, sym, ◌∙◌, true≢false, IsPrintedNumber}
use Rattle.proof_text.proofs.Numbers.{found, no_utf8, parsed, parsed_decimal, printed_decimal, utf8_printed}
use Rattle.proof_text.proofs.words.number_below.Goals as goal

pub returns-then-not-is_printed_number : goal.returns-then-not-is_printed_number
returns-then-not-is_printed_number c = λ n small e.
    let printed : IsPrintedNumber c.args.digits.now = subst IsPrintedNumber (sym e) (printed_decimal n (omega arith)) in
    true≢false (sym (c.is_printed_number.ensures.1 printed) ∙ c.if-not-is_printed_number.true)

pub returns-in_err-text : goal.returns-in_err-text
returns-in_err-text c = rw c.from_residual.ensures (λ n small e.
    no_utf8 c.from_utf8.result _ _ _ c.in_err-text.ensures.value c.from_utf8.ensures.cases
    (utf8_printed c.args.digits.now (subst IsPrintedNumber (sym e) (printed_decimal n (omega arith)))))

pub returns-in_err-number : goal.returns-in_err-number
returns-in_err-number c = rw c.from_residual-in_err-number.ensures (λ n small e.
    let text = found c.from_utf8.result _ _ _ c.in_ok-text.ensures.value c.from_utf8.ensures.cases in
    let none = c.in_err-number.ensures.value in
    let some = parsed_decimal c.in_ok-text.text.now c.parse.result n (omega arith) (text.0 ∙ e) c.parse.ensures.value.0 in
    cc)

pub returns-then-number-limit : goal.returns-then-number-limit
returns-then-number-limit c =
    let text = found c.from_utf8.result _ _ _ c.in_ok-text.ensures.value c.from_utf8.ensures.cases in
    let printed = subst IsPrintedNumber (sym text.0) (c.is_printed_number.ensures.0 c.if-not-is_printed_number.false) in
    (omega arith, sym text.0 ∙ parsed c.in_ok-text.text.now c.parse.result c.in_ok-number.number printed c.parse.ensures.value.0 c.in_ok-number.ensures.value)

pub returns-else-number-limit : goal.returns-else-number-limit
returns-else-number-limit c = λ n small e.
    let text = found c.from_utf8.result _ _ _ c.in_ok-text.ensures.value c.from_utf8.ensures.cases in
    let some = parsed_decimal c.in_ok-text.text.now c.parse.result n (omega arith) (text.0 ∙ e) c.parse.ensures.value.0 in
    let is = c.in_ok-number.ensures.value in
    let same : n ≡ c.in_ok-number.number = cc in
    omega arith
