use Rattle.std.proofs.Common.{rules}
use Rattle.term_sums.proofs.Common.{◌≡◌, ◌*◌, ap, arith, sym, subst, ◌∙◌, shifted_left, term_at}
use Rattle.term_sums.specs.Polynomials.{AddsTo, product_value, work_value}
use Rattle.term_sums.proofs.AmountRules.{amount_same, shifted_amount}
use Rattle.term_sums.proofs.expanding.put_shifted.Goals as goal

pub returns-in_ok-put_term-in-Some : goal.returns-in_ok-put_term-in-Some
returns-in_ok-put_term-in-Some c = λ v.
    let w = c.args.width in
    let terms = c.args.terms.now in
    let p = product_value v terms w c.args.product.now in
    let x = term_at v terms c.args.a in
    let old = work_value v terms w c.args.work.now.items in
    let new = work_value v terms w c.put_term.new.work.items in
    let known : term_at v terms c.args.b ≡ c.in-Some.by = c.in-Some.ensures.says v in
    let put : AddsTo w old new (p * c.moved_up.result * x) = search rules in
    let whole : AddsTo w old new (p * shifted_left w 1 (term_at v terms c.args.b) * x) =
    subst (λ n. AddsTo w old new (p * n * x)) (c.moved_up.ensures ∙ ap (shifted_left w 1) (sym known)) put in
    amount_same w old new _ _ whole (shifted_amount w p x (term_at v terms c.args.b))

pub returns-in_ok-put_term-in-None : goal.returns-in_ok-put_term-in-None
returns-in_ok-put_term-in-None c = λ v.
    let w = c.args.width in
    let terms = c.args.terms.now in
    let p = product_value v terms w c.args.product.now in
    let x = term_at v terms c.args.a in
    let k = shifted_left w 1 (term_at v terms c.args.b) in
    let made : product_value v terms w c.in_ok-made-in-None.made ≡ p * k = c.in_ok-made-in-None.ensures v terms w in
    let old = work_value v terms w c.args.work.now.items in
    let new = work_value v terms w c.put_term-in-None.new.work.items in
    let put : AddsTo w old new (product_value v terms w c.in_ok-made-in-None.made * 1 * x) = search rules in
    let same : product_value v terms w c.in_ok-made-in-None.made * 1 * x ≡ p * k * x = ap (λ n. n * 1 * x) made ∙ (let turn : p * k * 1 * x ≡ p * k * x = omega arith in turn) in
    amount_same w old new _ _ (subst (λ n. AddsTo w old new n) same put) (shifted_amount w p x (term_at v terms c.args.b))
