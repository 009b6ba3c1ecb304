-- The term goes last, or is there already.
use Rattle.std.proofs.Common.{◌∙◌, ap, Some, sym}
use Rattle.bv_terms.proofs.Stages.{AreFit-stored}
use Rattle.bv_terms.proofs.Keeping.{extends_stored, fits, gains_stored}
use Rattle.bv_terms.proofs.Same.{term_same}
use Rattle.bv_terms.proofs.terms.Terms.insert.Goals as goal

pub invariant_of-self-2 : goal.invariant_of-self-2
invariant_of-self-2 c = AreFit-stored _ c.self.inside.terms.keys _ c.args.term c.in_ok-index.ensures.keys c.self.invariant
    (rw (← c.self.view_is) at (fits c.args.self.now c.args.term c.requires.within c.requires.matched))

pub returns-clause-kept : goal.returns-clause-kept
returns-clause-kept c = extends_stored _ c.args.self.now c.insert_full.new.self.keys c.args.term (rw c.self.view_is at c.in_ok-index.ensures.keys)

pub returns-clause-gains : goal.returns-clause-gains
returns-clause-gains c = gains_stored _ c.args.self.now c.insert_full.new.self.keys c.args.term (rw c.self.view_is at c.in_ok-index.ensures.keys)

pub returns-clause-fit : goal.returns-clause-fit
returns-clause-fit c = AreFit-stored _ c.self.inside.terms.keys _ c.args.term c.in_ok-index.ensures.keys c.self.invariant
    (rw (← c.self.view_is) at (fits c.args.self.now c.args.term c.requires.within c.requires.matched))

pub returns-clause-stored : goal.returns-clause-stored
returns-clause-stored c = c.in_ok-index.ensures.stored.1 ∙ ap Some (sym (term_same c.args.term c.in_ok-index.ensures.stored.0 c.in_ok-index.ensures.stored.2))
