use Rattle.std.proofs.Common.{rules}
use Rattle.term_sums.proofs.Common.{◌≡◌, ◌*◌, ◌∷◌, [], refl}
use Rattle.term_sums.specs.Polynomials.{factors_value}
use Rattle.term_sums.proofs.PolynomialRules.{times_factor_value}
use Rattle.term_sums.proofs.expanding.times_factor.Goals as goal

pub returns : goal.returns
returns c =
    let pending : c.in_ok-pending.pending.items ≡ c.args.product.now.pending.items = search rules in
    λ v terms width.
    let factors : factors_value v terms width c.in_ok-factors.factors.items ≡ factors_value v terms width c.args.product.now.factors.items * factors_value v terms width (c.args.factor ∷ []) = search rules in
    times_factor_value v terms width c.args.product.now (record { coefficient = c.args.product.now.coefficient; factors = c.in_ok-factors.factors; pending = c.in_ok-pending.pending }) c.args.factor refl pending factors
