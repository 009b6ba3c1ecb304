use Rattle.test_solving.proofs.Alone.{two-all, two-variables}
use Rattle.test_solving.proofs.ask_tests.asked.Goals as goal

pub ask-requires-clause-order : goal.ask-requires-clause-order
ask-requires-clause-order c = two-variables c.args.terms.now c.args.x c.args.y c.requires.x c.requires.y

pub ask-requires-clause-all : goal.ask-requires-clause-all
ask-requires-clause-all c = two-all c.args.terms.now c.args.x c.args.y c.requires.x c.requires.y c.args.goal (c.requires.all c.as_slice.ensures.fit)
