-- What was stored is what was asked for, and no variable came.
use Rattle.bv_terms.proofs.Keeping.{keeps_stored, makes_stored, within_stored}
use Rattle.bv_terms.proofs.terms.Terms.apply.Goals as goal

pub returns-clause-made : goal.returns-clause-made
returns-clause-made c =
    makes_stored c.args.self.now c.insert.new.self c.in_ok-id.id c.args.term c.insert.ensures.kept c.insert.ensures.fit c.requires.within c.in_ok-id.ensures.stored
    (within_stored c.insert.new.self c.in_ok-id.id.index c.args.term c.in_ok-id.ensures.stored)

pub returns-clause-kept : goal.returns-clause-kept
returns-clause-kept c = keeps_stored c.args.self.now c.insert.new.self c.args.term c.insert.ensures.kept c.insert.ensures.gains c.requires.operation
