use Rattle.std.proofs.Common.{rules}
use Rattle.term_sums.proofs.Common.{◌≡◌, ap, ◌∙◌, ◌++◌, ◌∷◌}
use Rattle.std.specs.Prelude.{take, drop}
use Rattle.term_sums.specs.Polynomials.{factors_value}
use Rattle.term_sums.proofs.PolynomialRules.{factors_inserted}
use Rattle.term_sums.proofs.monomials.with_factor.Goals as goal

pub returns : goal.returns
returns c =
    let same : c.try_insert.new.self.items ≡ take c.place-at.result c.args.factors.now ++ c.args.factor ∷ drop c.place-at.result c.args.factors.now = search rules in
    λ v terms width. ap (factors_value v terms width) same ∙ factors_inserted v terms width c.args.factors.now c.place-at.result c.args.factor
