use Rattle.std.proofs.Common.{rules}
use Rattle.term_sums.proofs.Common.{◌≡◌, ◌<◌, ◌+◌, ◌-◌, ◌*◌, ◌%◌, ◌^◌, ap, ◌∙◌, sym, subst, term_at, tree_in, width_of}
use Rattle.term_sums.specs.Polynomials.{AddsTo, factors_value, pending_value, product_value, sum_value, work_value}
use Rattle.term_sums.specs.declared.expanding.Product.{Product}
use Rattle.term_sums.proofs.AmountRules.{difference_found}
use Rattle.term_sums.proofs.expanding.difference_as_sum.Goals as goal

pub returns : goal.returns
returns c =
    let w = c.width-width.result in
    let terms = c.args.terms.now in
    let wide : w ≡ width_of (tree_in terms c.args.a) = c.width-width.ensures.width in
    let one : Product = record { coefficient = 1; factors = c.new.result; pending = c.new-2.result } in
    λ v hold.
    let a = term_at v terms c.args.a in
    let b = term_at v terms c.args.b in
    let lb : b < 2 ^ w = search rules in
    let single : product_value v terms w one ≡ 1 =
    ap (λ k. 1 * factors_value v terms w k * pending_value v terms w c.new-2.result.items) c.new.ensures ∙ ap (λ k. 1 * 1 * pending_value v terms w k) c.new-2.ensures in
    let nothing : work_value v terms w c.new-work.result.items ≡ 0 = ap (work_value v terms w) c.new-work.ensures in
    let none : sum_value v terms w c.new-sum.result.items ≡ 0 = ap (sum_value v terms w) c.new-sum.ensures in
    let put : AddsTo w (work_value v terms w c.new-work.result.items) (work_value v terms w c.put_difference.new.work.items) (product_value v terms w one * ((a + (2 ^ w - b)) % 2 ^ w)) = c.in_ok-put_difference.ensures v terms lb in
    let all : AddsTo w (sum_value v terms w c.new-sum.result.items) (sum_value v terms w c.expand.new.sum.items) (work_value v terms w c.put_difference.new.work.items) = c.in_ok-expand.ensures v hold in
    let from_nothing : AddsTo w (work_value v terms w c.new-work.result.items) (sum_value v terms w c.expand.new.sum.items) (work_value v terms w c.put_difference.new.work.items) =
    subst (λ k. AddsTo w k (sum_value v terms w c.expand.new.sum.items) (work_value v terms w c.put_difference.new.work.items)) (none ∙ sym nothing) all in
    subst (λ n. sum_value v terms n c.expand.new.sum.items % 2 ^ n ≡ (a + (2 ^ n - b)) % 2 ^ n) wide
    (difference_found w a b _ _ _ (sum_value v terms w c.expand.new.sum.items) nothing single put from_nothing)
