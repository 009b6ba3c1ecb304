-- The term at an index goes well after all terms, and its tree is the one of the index.
use Rattle.term_sums.proofs.Common.{sym, term_place}
use Rattle.bv_terms.specs.declared.term.Term.TheVariants as term
use Rattle.term_sums.proofs.Stored.{fit_at, tree_stored, within_at}
use Rattle.term_sums.proofs.reading.term.Goals as goal

pub returns-clause-tree : goal.returns-clause-tree
returns-clause-tree c = rw c.as_slice.ensures.value (sym (tree_stored c.args.terms.now c.args.a _ c.as_slice.ensures.fit (term_place c.args.terms.now c.args.a.index (term.Constant 0 0) c.requires)))

pub returns-clause-within : goal.returns-clause-within
returns-clause-within c = rw c.as_slice.ensures.value (within_at c.args.terms.now c.args.a.index (term.Constant 0 0) c.as_slice.ensures.fit c.requires)

pub returns-clause-matched : goal.returns-clause-matched
returns-clause-matched c = rw c.as_slice.ensures.value (fit_at c.args.terms.now c.args.a.index (term.Constant 0 0) c.as_slice.ensures.fit c.requires).matched
