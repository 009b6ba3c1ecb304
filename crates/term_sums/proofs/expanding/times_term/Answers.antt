use Rattle.std.proofs.Common.{rules}
use Rattle.term_sums.proofs.Common.{◌≡◌, ◌++◌, ◌∷◌, ◌%◌, ◌^◌, ◌*◌, refl}
use Rattle.std.specs.Prelude.{take, drop}
use Rattle.term_sums.specs.Polynomials.{product_value}
use Rattle.term_sums.specs.declared.expanding.Product.{Product}
use Rattle.term_sums.proofs.PolynomialRules.{times_term}
use Rattle.term_sums.proofs.expanding.times_term.Goals as goal

pub returns : goal.returns
returns c =
    let more : Product = record { coefficient = c.in_ok-made.made.coefficient; factors = c.in_ok-made.made.factors; pending = c.try_insert.new.self } in
    let put : c.try_insert.new.self.items ≡ take c.place-at.result c.in_ok-made.made.pending.items ++ c.args.a.index ∷ drop c.place-at.result c.in_ok-made.made.pending.items = search rules in
    λ v terms.
    let n = product_value v terms c.args.width c.args.product.now * c.args.by in
    let made : product_value v terms c.args.width c.in_ok-made.made % 2 ^ c.args.width ≡ n % 2 ^ c.args.width = search rules in
    times_term v terms c.args.width c.in_ok-made.made more c.args.a n c.place-at.result refl refl put made
