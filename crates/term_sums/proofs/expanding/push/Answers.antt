use Rattle.std.proofs.Common.{rules}
use Rattle.term_sums.proofs.Common.{◌≡◌, ap, ◌∙◌, ◌++◌, ◌∷◌, []}
use Rattle.term_sums.specs.Polynomials.{work_value}
use Rattle.term_sums.proofs.PolynomialRules.{work_pushed}
use Rattle.term_sums.proofs.expanding.push.Goals as goal

pub returns : goal.returns
returns c =
    let same : c.try_push.new.self.items ≡ c.args.work.now.items ++ c.args.product ∷ [] = search rules in
    λ v terms width. ap (work_value v terms width) same ∙ work_pushed v terms width c.args.work.now.items c.args.product
