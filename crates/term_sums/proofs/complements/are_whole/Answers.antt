use Rattle.term_sums.proofs.Common.{ap, ◌-◌, ◌^◌, ◌∙◌, refl, sym, or_comm, term_at}
use Rattle.term_sums.proofs.ComplementRules.{whole_inverse}
use Rattle.term_sums.proofs.complements.are_whole.Goals as goal

pub returns-then-are_inverse : goal.returns-then-are_inverse
returns-then-are_inverse c = λ _. whole_inverse c.args.terms.now c.values_fit.ensures c.args.a c.args.b c.requires.a c.requires.alike (c.if-are_inverse.ensures refl)

pub returns : goal.returns
returns c = λ h v. or_comm (term_at v c.args.terms.now c.args.a) (term_at v c.args.terms.now c.args.b) ∙ (c.completes-2.ensures h v ∙ ap (λ k. 2 ^ k - 1) (sym c.requires.alike))
