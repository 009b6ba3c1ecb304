use Rattle.std.proofs.Common.{rules}
use Rattle.term_sums.proofs.Common.{◌≡◌}
use Rattle.term_sums.proofs.PolynomialRules.{times_number}
use Rattle.term_sums.proofs.expanding.times.Goals as goal

pub returns : goal.returns
returns c =
    let factors : c.in_ok-factors.factors.items ≡ c.args.product.now.factors.items = search rules in
    let pending : c.in_ok-pending.pending.items ≡ c.args.product.now.pending.items = search rules in
    λ v terms. times_number v terms c.args.width c.args.product.now (record { coefficient = c.product-coefficient.result; factors = c.in_ok-factors.factors; pending = c.in_ok-pending.pending })
    c.args.by c.product-coefficient.ensures factors pending
