use Rattle.std.proofs.Common.{rules}
use Rattle.term_sums.proofs.Common.{◌≡◌, ap, ◌∙◌, ◌++◌, ◌+◌, ◌*◌, ◌<◌, length, get_or, suc}
use Rattle.std.specs.Prelude.{take, drop}
use Rattle.term_sums.specs.Polynomials.{factors_value, sum_value}
use Rattle.term_sums.proofs.PolynomialRules.{sum_collected}
use Rattle.term_sums.proofs.monomials.add.Goals as goal

pub returns-in_ok-push-in-Some : goal.returns-in_ok-push-in-Some
returns-in_ok-push-in-Some c = λ v terms.
    let at : c.in-Some.index < length c.args.sum.now.items = search rules in
    let found : get_or c.args.sum.now.items c.in-Some.index c.remove-other.result ≡ c.remove-other.result = search rules in
    let same : c.remove-other.result.factors.items ≡ c.args.monomial.factors.items = search rules in
    let left : c.remove-other.new.self.items ≡ take c.in-Some.index c.args.sum.now.items ++ drop (suc c.in-Some.index) c.args.sum.now.items = search rules in
    let made : sum_value v terms c.args.width c.push.new.sum.items ≡ sum_value v terms c.args.width c.remove-other.new.self.items + c.sum-coefficient.result * factors_value v terms c.args.width c.args.monomial.factors.items = search rules in
    sum_collected v terms c.args.width c.args.sum.now.items c.push.new.sum.items c.in-Some.index c.remove-other.result c.args.monomial c.sum-coefficient.result
    at found (ap (factors_value v terms c.args.width) same) c.sum-coefficient.ensures
    (made ∙ ap (λ k. sum_value v terms c.args.width k + c.sum-coefficient.result * factors_value v terms c.args.width c.args.monomial.factors.items) left)
