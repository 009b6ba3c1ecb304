use Rattle.term_sums.proofs.Common.{◌∙◌, refl, and_comm, term_at}
use Rattle.term_sums.proofs.ComplementRules.{apart_inverse}
use Rattle.term_sums.proofs.complements.are_apart.Goals as goal

pub returns-then-are_inverse : goal.returns-then-are_inverse
returns-then-are_inverse c = λ _. apart_inverse c.args.terms.now c.values_fit.ensures c.args.a c.args.b c.requires.a c.requires.alike (c.if-are_inverse.ensures refl)

pub returns : goal.returns
returns c = λ h v. and_comm (term_at v c.args.terms.now c.args.a) (term_at v c.args.terms.now c.args.b) ∙ (c.excludes-2.ensures h v)
