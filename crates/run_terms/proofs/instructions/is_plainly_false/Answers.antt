use Rattle.run_terms.proofs.Common.{◌∙◌, ap, Some}
use Rattle.std.proofs.Common.{eqb-true}
use Rattle.bv_terms.specs.declared.term.Term.TheVariants as term
use Rattle.bv_terms.proofs.Keeping.{term_place}
use Rattle.run_terms.proofs.Stepping.{plainly_false}
use Rattle.run_terms.proofs.instructions.is_plainly_false.Goals as goal

pub returns-in-Constant : goal.returns-in-Constant
returns-in-Constant c = λ is.
    plainly_false c.args.terms.now c.args.a c.in-Constant.value _ c.as_slice.ensures.fit
    (term_place c.args.terms.now c.args.a.index (term.Constant 0 0) c.requires ∙ ap Some (rw c.as_slice.ensures.value at c.in-Constant.is)) (eqb-true c.in-Constant.value 0 is)
