use Rattle.term_sums.proofs.Common.{◌≡◌, ◌%◌, ◌^◌, ◌*◌}
use Rattle.term_sums.specs.Polynomials.{AddsTo, product_value, work_value}
use Rattle.term_sums.proofs.AmountRules.{amount_same}
use Rattle.term_sums.proofs.expanding.put.Goals as goal

pub returns : goal.returns
returns c = λ v terms.
    let w = c.args.width in
    let old = work_value v terms w c.args.work.now.items in
    let new = work_value v terms w c.join.new.work.items in
    let n = product_value v terms w c.args.product.now * c.args.by in
    let made : product_value v terms w c.in_ok-made.made % 2 ^ w ≡ n % 2 ^ w = c.in_ok-made.ensures v terms in
    let joined : AddsTo w old new (product_value v terms w c.in_ok-made.made) = c.in_ok-join.ensures v terms in
    amount_same w old new (product_value v terms w c.in_ok-made.made) n joined made
