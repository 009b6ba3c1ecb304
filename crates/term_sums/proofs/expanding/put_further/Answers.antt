use Rattle.std.proofs.Common.{rules}
use Rattle.term_sums.proofs.Common.{◌≡◌, ◌+◌, ◌*◌, ◌++◌, ◌∷◌, [], ap, arith, sym, subst, ◌∙◌, term_at}
use Rattle.term_sums.specs.Polynomials.{AddsTo, factors_value, pending_value, product_value, sum_value, work_value}
use Rattle.term_sums.specs.declared.expanding.Product.{Product}
use Rattle.term_sums.proofs.PolynomialRules.{pending_pushed}
use Rattle.term_sums.proofs.AmountRules.{added_after, added_before}
use Rattle.term_sums.proofs.expanding.put_further.Goals as goal

pub returns-in_ok-add-in-None : goal.returns-in_ok-add-in-None
returns-in_ok-add-in-None c =
    let none : c.args.product.pending.items ≡ [] = search rules in
    λ v hold.
    let w = c.args.width in
    let terms = c.args.terms.now in
    let n = c.args.product.coefficient * factors_value v terms w c.args.product.factors.items in
    let whole : product_value v terms w c.args.product ≡ n = ap (λ k. n * pending_value v terms w k) none ∙ (let e : n * 1 ≡ n = omega arith in e) in
    let added : AddsTo w (sum_value v terms w c.args.sum.now.items) (sum_value v terms w c.add.new.sum.items) n = search rules in
    subst (λ k. AddsTo w (work_value v terms w c.args.work.now.items + sum_value v terms w c.args.sum.now.items) (work_value v terms w c.args.work.now.items + sum_value v terms w c.add.new.sum.items) k) (sym whole)
    (added_after w (work_value v terms w c.args.work.now.items) (sum_value v terms w c.args.sum.now.items) (sum_value v terms w c.add.new.sum.items) n added)

pub returns-in_ok-put_expanded-in-Some : goal.returns-in_ok-put_expanded-in-Some
returns-in_ok-put_expanded-in-Some c =
    let last : c.args.product.pending.items ≡ c.pop.new.self.items ++ c.in-Some.index ∷ [] = search rules in
    λ v hold.
    let w = c.args.width in
    let terms = c.args.terms.now in
    let rest : Product = record { coefficient = c.args.product.coefficient; factors = c.args.product.factors; pending = c.pop.new.self } in
    let t = term_at v terms (record { index = c.in-Some.index }) in
    let n = c.args.product.coefficient * factors_value v terms w c.args.product.factors.items in
    let split : pending_value v terms w c.args.product.pending.items ≡ pending_value v terms w c.pop.new.self.items * t =
    ap (pending_value v terms w) last ∙ pending_pushed v terms w c.pop.new.self.items c.in-Some.index in
    let whole : product_value v terms w c.args.product ≡ product_value v terms w rest * t =
    ap (λ k. n * k) split ∙ (let turn : n * (pending_value v terms w c.pop.new.self.items * t) ≡ n * pending_value v terms w c.pop.new.self.items * t = omega arith in turn) in
    let added : AddsTo w (work_value v terms w c.args.work.now.items) (work_value v terms w c.put_expanded.new.work.items) (product_value v terms w rest * t) = search rules in
    subst (λ k. AddsTo w (work_value v terms w c.args.work.now.items + sum_value v terms w c.args.sum.now.items) (work_value v terms w c.put_expanded.new.work.items + sum_value v terms w c.args.sum.now.items) k) (sym whole)
    (added_before w (work_value v terms w c.args.work.now.items) (work_value v terms w c.put_expanded.new.work.items) (sum_value v terms w c.args.sum.now.items) (product_value v terms w rest * t) added)
