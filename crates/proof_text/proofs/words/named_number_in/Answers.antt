use Rattle.proof_text.proofs.Common.{arith, ap, sym, ◌∙◌, ◌∷◌, ◌++◌, strip_prefix_is, Decides-eqb, append_cancel_left, decimal}
use Rattle.proof_text.proofs.Heads.{named, unspaced}
use Rattle.proof_text.proofs.Numbers.{free_decimal}
use Rattle.proof_text.proofs.Splits.{contains_it, same_parts}
use Rattle.proof_text.proofs.words.named_number_in.Goals as goal

pub returns-in_err-strip_prefix-clause-none : goal.returns-in_err-strip_prefix-clause-none
returns-in_err-strip_prefix-clause-none c = rw c.from_residual.ensures (λ n rest k.
    let cases = strip_prefix_is Decides-eqb c.args.line.now c.args.name.now c.strip_prefix.result c.strip_prefix.ensures.cases in
    (rw c.in_err-strip_prefix.was at cases) (decimal n ++ 32 ∷ rest) (unspaced k))

pub returns-in_err-digits-clause-none : goal.returns-in_err-digits-clause-none
returns-in_err-digits-clause-none c = rw c.from_residual-in_err-digits.ensures (λ n rest k.
    let cases = strip_prefix_is Decides-eqb c.args.line.now c.args.name.now c.strip_prefix.result c.strip_prefix.ensures.cases in
    let words = (rw c.in_ok-strip_prefix.was at cases) in
    let after = c.in_ok-strip_prefix.field-0.now in
    let inner = append_cancel_left c.args.name.now after (decimal n ++ 32 ∷ rest) (sym words ∙ unspaced k) in
    c.in_err-digits.ensures.none (contains_it 32 after (decimal n) rest inner))

pub returns-in_err-number_below-clause-none : goal.returns-in_err-number_below-clause-none
returns-in_err-number_below-clause-none c = rw c.from_residual-in_err-number_below.ensures (λ n rest k.
    let cases = strip_prefix_is Decides-eqb c.args.line.now c.args.name.now c.strip_prefix.result c.strip_prefix.ensures.cases in
    let words = (rw c.in_ok-strip_prefix.was at cases) in
    let after = c.in_ok-strip_prefix.field-0.now in
    let small = k.small in
    let inner = append_cancel_left c.args.name.now after (decimal n ++ 32 ∷ rest) (sym words ∙ unspaced k) in
    let same = same_parts 32 after c.in_ok-digits.digits.now c.in_ok-digits.rest.now (decimal n) rest c.in_ok-digits.ensures.some inner (λ i. free_decimal n 32 (omega arith) (omega arith) i) in
    c.in_err-number_below.ensures n k.small same.0)

pub returns-clause-some : goal.returns-clause-some
returns-clause-some c =
    let cases = strip_prefix_is Decides-eqb c.args.line.now c.args.name.now c.strip_prefix.result c.strip_prefix.ensures.cases in
    let words = (rw c.in_ok-strip_prefix.was at cases) in
    let rest = c.in_ok-digits.rest.now in
    let inner = c.in_ok-digits.ensures.some.is ∙ ap (λ t. t ++ 32 ∷ rest) c.in_ok-number_below.ensures.1 in
    named c.args.name.now c.args.line.now c.in_ok-number_below.field-0 rest c.in_ok-number_below.ensures.0 (words ∙ ap (λ t. c.args.name.now ++ t) inner)
