use Rattle.std.proofs.Common.{rules}
use Rattle.term_sums.proofs.Common.{◌≡◌, ◌*◌, ◌%◌, ◌^◌, ap, arith}
use Rattle.term_sums.specs.Polynomials.{AddsTo, product_value, work_value, factor_value}
use Rattle.term_sums.proofs.AmountRules.{amount_same}
use Rattle.term_sums.proofs.expanding.put_factor.Goals as goal

pub returns : goal.returns
returns c = λ v terms.
    let w = c.args.width in
    let p = product_value v terms w c.args.product.now in
    let f = factor_value v terms w c.args.factor in
    let made : product_value v terms w c.in_ok-made.made ≡ p * f = c.in_ok-made.ensures v terms w in
    let old = work_value v terms w c.args.work.now.items in
    let new = work_value v terms w c.put.new.work.items in
    let put : AddsTo w old new (product_value v terms w c.in_ok-made.made * 1) = search rules in
    amount_same w old new _ _ put (ap (λ k. k % 2 ^ w) (let e : product_value v terms w c.in_ok-made.made * 1 ≡ p * f = omega (arith, made) in e))
