use Rattle.std.proofs.Common.{rules}
use Rattle.term_sums.proofs.Common.{◌≡◌, ◌<◌, ◌+◌, ◌%◌, ◌^◌, ◌++◌, get_or, length, suc, ap, arith, ◌∙◌, sym}
use Rattle.std.specs.Prelude.{take, drop}
use Rattle.term_sums.specs.Polynomials.{AddsTo, product_value, sum_value, work_value}
use Rattle.term_sums.specs.declared.expanding.Product.{Product}
use Rattle.term_sums.proofs.PolynomialRules.{work_removed}
use Rattle.term_sums.proofs.expanding.expand.Goals as goal

pub loop-preserved : goal.loop-preserved
loop-preserved c =
    let at : c.in-Some.index < length c.loop.work.items = search rules in
    let found : get_or c.loop.work.items c.in-Some.index c.remove-product.result ≡ c.remove-product.result = search rules in
    let left : c.remove-product.new.self.items ≡ take c.in-Some.index c.loop.work.items ++ drop (suc c.in-Some.index) c.loop.work.items = search rules in
    λ v hold.
    let w = c.args.width in
    let terms = c.args.terms.now in
    let rest = work_value v terms w c.remove-product.new.self.items in
    let product = product_value v terms w c.remove-product.result in
    let sum = sum_value v terms w c.loop.sum.items in
    let split : rest + product ≡ work_value v terms w c.loop.work.items =
    ap (λ k. work_value v terms w k + product) left ∙ (ap (λ (p : Product). work_value v terms w (take c.in-Some.index c.loop.work.items ++ drop (suc c.in-Some.index) c.loop.work.items) + product_value v terms w p) (sym found)
    ∙ work_removed v terms w c.loop.work.items c.in-Some.index c.remove-product.result at) in
    let step : AddsTo w (rest + sum) (work_value v terms w c.put_further.new.work.items + sum_value v terms w c.put_further.new.sum.items) product = c.in_ok-put_further-in-Some.ensures v hold in
    step ∙ (ap (λ k. k % 2 ^ w) (let turn : rest + sum + product ≡ work_value v terms w c.loop.work.items + sum = omega (arith, split) in turn) ∙ c.loop.invariant v hold)
