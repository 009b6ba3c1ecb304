use Rattle.std.proofs.Common.{rules}
use Rattle.term_sums.proofs.Common.{◌≡◌, ◌*◌, ◌%◌, ◌^◌, term_at}
use Rattle.term_sums.specs.Polynomials.{AddsTo, product_value, work_value}
use Rattle.term_sums.proofs.AmountRules.{amount_same, product_amount}
use Rattle.term_sums.proofs.expanding.put_product.Goals as goal

pub returns : goal.returns
returns c = λ v terms.
    let w = c.args.width in
    let p = product_value v terms w c.args.product.now in
    let first = product_value v terms w c.in_ok-first.first in
    let made : first % 2 ^ w ≡ (p * 1 * term_at v terms c.args.a) % 2 ^ w = c.in_ok-first.ensures v terms in
    let old = work_value v terms w c.args.work.now.items in
    let new = work_value v terms w c.put_term.new.work.items in
    let put : AddsTo w old new (first * 1 * term_at v terms c.args.b) = search rules in
    amount_same w old new _ _ put (product_amount w first p (term_at v terms c.args.a) (term_at v terms c.args.b) made)
