use Rattle.std.proofs.Common.{rules}
use Rattle.term_sums.proofs.Common.{◌≡◌, ◌-◌, ◌*◌, ◌^◌, subst, quotient, term_at}
use Rattle.term_sums.specs.Polynomials.{AddsTo, product_value, work_value}
use Rattle.term_sums.proofs.AmountRules.{added_twice, amount_same, remainder_amount}
use Rattle.term_sums.proofs.expanding.put_remainder.Goals as goal

pub returns : goal.returns
returns c = λ v terms lt.
    let w = c.args.width in
    let p = product_value v terms w c.args.product.now in
    let x = term_at v terms c.args.a in
    let y = term_at v terms c.args.b in
    let taken : product_value v terms w c.in_ok-taken.taken ≡ p * quotient w x y = c.in_ok-taken.ensures v terms w in
    let old = work_value v terms w c.args.work.now.items in
    let between = work_value v terms w c.put_term.new.work.items in
    let new = work_value v terms w c.put_term-2.new.work.items in
    let first : AddsTo w old between (p * 1 * x) = search rules in
    let second : AddsTo w between new (product_value v terms w c.in_ok-taken.taken * c.ones.result * y) = search rules in
    let whole : AddsTo w between new (p * quotient w x y * (2 ^ w - 1) * y) =
    subst (λ k. AddsTo w between new (k * (2 ^ w - 1) * y)) taken (subst (λ n. AddsTo w between new (product_value v terms w c.in_ok-taken.taken * n * y)) c.ones.ensures second) in
    amount_same w old new _ _ (added_twice w old between new _ _ first whole) (remainder_amount w p x y lt)
