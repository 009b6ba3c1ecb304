use Rattle.std.proofs.Common.{rules}
use Rattle.term_sums.proofs.Common.{◌≡◌, ap, ◌∙◌, ◌++◌, ◌+◌, ◌<◌, length, get_or, suc, refl}
use Rattle.std.specs.Prelude.{take, drop}
use Rattle.term_sums.specs.Polynomials.{product_value, work_value}
use Rattle.term_sums.specs.declared.expanding.Product.{Product}
use Rattle.term_sums.proofs.PolynomialRules.{work_joined}
use Rattle.term_sums.proofs.expanding.join.Goals as goal

pub returns-in_ok-push-in-Some : goal.returns-in_ok-push-in-Some
returns-in_ok-push-in-Some c = λ v terms.
    let w = c.args.width in
    let made : Product = record { coefficient = c.sum-coefficient.result; factors = c.args.product.factors; pending = c.args.product.pending } in
    let at : c.in-Some.index < length c.args.work.now.items = search rules in
    let found : get_or c.args.work.now.items c.in-Some.index c.remove-other.result ≡ c.remove-other.result = search rules in
    let factors : c.remove-other.result.factors.items ≡ c.args.product.factors.items = search rules in
    let pending : c.remove-other.result.pending.items ≡ c.args.product.pending.items = search rules in
    let left : c.remove-other.new.self.items ≡ take c.in-Some.index c.args.work.now.items ++ drop (suc c.in-Some.index) c.args.work.now.items = search rules in
    let put : work_value v terms w c.push.new.work.items ≡ work_value v terms w c.remove-other.new.self.items + product_value v terms w made = search rules in
    work_joined v terms w c.args.work.now.items c.push.new.work.items c.in-Some.index c.remove-other.result c.args.product made at found factors pending
    c.sum-coefficient.ensures refl refl (put ∙ ap (λ k. work_value v terms w k + product_value v terms w made) left)
