use Rattle.std.proofs.Common.{rules}
use Rattle.term_sums.proofs.Common.{◌≡◌, ap, ◌∙◌, ◌++◌, ◌∷◌, []}
use Rattle.term_sums.specs.Polynomials.{sum_value}
use Rattle.term_sums.proofs.PolynomialRules.{sum_pushed}
use Rattle.term_sums.proofs.monomials.push.Goals as goal

pub returns : goal.returns
returns c =
    let same : c.try_push.new.self.items ≡ c.args.sum.now.items ++ c.args.monomial ∷ [] = search rules in
    λ v terms width. ap (sum_value v terms width) same ∙ sum_pushed v terms width c.args.sum.now.items c.args.monomial
