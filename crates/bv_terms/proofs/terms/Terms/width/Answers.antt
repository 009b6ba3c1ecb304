-- A term has the width of its tree.
use Rattle.std.proofs.Common.{[], ◌∙◌}
use Rattle.bv_terms.specs.declared.term.Term.TheVariants as term
use Rattle.bv_terms.proofs.Keeping.{width-stored, term_place}
use Rattle.bv_terms.proofs.Stages.{width-range}
use Rattle.bv_terms.proofs.terms.Terms.width.Goals as goal

pub returns-clause-width : goal.returns-clause-width
returns-clause-width c = rw c.as_slice.ensures.value at c.width.ensures
    ∙ width-stored c.args.self.now c.args.a _ c.as_slice.ensures.fit (term_place c.args.self.now c.args.a.index (term.Constant 0 0) c.requires)

pub returns-clause-range : goal.returns-clause-range
returns-clause-range c =
    let is = rw c.as_slice.ensures.value at c.width.ensures in
    rw is (width-range [] c.args.self.now c.args.a.index _ c.as_slice.ensures.fit (term_place c.args.self.now c.args.a.index (term.Constant 0 0) c.requires))
