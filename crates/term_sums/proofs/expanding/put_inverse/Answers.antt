use Rattle.std.proofs.Common.{rules}
use Rattle.term_sums.proofs.Common.{◌-◌, ◌*◌, ◌^◌, term_at}
use Rattle.term_sums.specs.Polynomials.{AddsTo, product_value, work_value}
use Rattle.term_sums.proofs.AmountRules.{added_twice, amount_same, inverse_amount}
use Rattle.term_sums.proofs.expanding.put_inverse.Goals as goal

pub returns : goal.returns
returns c = λ v terms lt.
    let w = c.args.width in
    let p = product_value v terms w c.args.product.now in
    let x = term_at v terms c.args.a in
    let old = work_value v terms w c.args.work.now.items in
    let between = work_value v terms w c.put_term.new.work.items in
    let new = work_value v terms w c.put.new.work.items in
    let first : AddsTo w old between (p * (2 ^ w - 1) * x) = search rules in
    let second : AddsTo w between new (p * (2 ^ w - 1)) = search rules in
    amount_same w old new _ _ (added_twice w old between new _ _ first second) (inverse_amount w p x lt)
