-- The stored term has the tree that it had before.
use Rattle.term_rules.proofs.Stored.{tree_made}
use Rattle.term_rules.proofs.building.store.Goals as goal

pub returns-clause-tree : goal.returns-clause-tree
returns-clause-tree c = tree_made c.args.terms.now c.store.new.self c.in_ok-id.id c.args.term c.store.ensures.kept c.as_slice.ensures.fit c.requires.within c.in_ok-id.ensures.stored
