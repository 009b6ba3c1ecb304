use Rattle.access_terms.proofs.Common.{◌∙◌, ap, Some, eqb-true, never_true}
use Rattle.bv_terms.specs.declared.term.Term.TheVariants as term
use Rattle.bv_terms.proofs.Keeping.{term_place}
use Rattle.access_terms.proofs.named.is_never.Goals as goal

pub returns-in-Constant : goal.returns-in-Constant
returns-in-Constant c = λ is.
    never_true c.args.terms.now c.args.a c.in-Constant.value _ c.as_slice.ensures.fit
    (term_place c.args.terms.now c.args.a.index (term.Constant 0 0) c.requires ∙ ap Some (rw c.as_slice.ensures.value at c.in-Constant.is)) (eqb-true c.in-Constant.value 0 is)
