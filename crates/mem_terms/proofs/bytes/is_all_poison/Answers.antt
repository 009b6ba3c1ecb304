use Rattle.std.proofs.Common.{◌∙◌, ap, Some, eqb-true}
use Rattle.bv_terms.specs.declared.term.Term.TheVariants as term
use Rattle.bv_terms.proofs.Keeping.{term_place}
use Rattle.mem_terms.proofs.SymBytes.{constant_is}
use Rattle.mem_terms.proofs.bytes.is_all_poison.Goals as goal

pub returns-in-Constant : goal.returns-in-Constant
returns-in-Constant c = λ is.
    constant_is c.args.terms.now c.args.mask c.in-Constant.value _ 255 c.as_slice.ensures.fit
    (term_place c.args.terms.now c.args.mask.index (term.Constant 0 0) c.requires ∙ ap Some (rw c.as_slice.ensures.value at c.in-Constant.is)) (eqb-true c.in-Constant.value 255 is)
