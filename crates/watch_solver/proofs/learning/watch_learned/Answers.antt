-- The pair is the asserting literal and the one found, or none where there is no other at all.
use Rattle.watch_solver.proofs.Learned.{none-added, none-linked, on-both, pair-added, pair-linked}
use Rattle.watch_solver.proofs.learning.watch_learned.Goals as goal

pub returns-in-Some-clause-linked : goal.returns-in-Some-clause-linked
returns-in-Some-clause-linked c =
    on-both c.add_pair.result _ _ _
    (pair-linked c.args.trail.now c.args.clause.now c.args.literal c.args.place c.requires.has c.requires.fresh c.decision_before.result c.decision_before.ensures c.unwrap_or-last.result c.unwrap_or-last.ensures
    c.args.watches.now.pairs.items c.add_pair.new.self.pairs.items c.args.watches.now.lists.items c.add_pair.new.self.lists.items
    c.in-Some.other c.of-first.result c.of-second.result c.of-first.ensures c.of-second.ensures c.in-Some.ensures c.requires.room)
    c.add_pair.ensures.lists c.add_pair.ensures.pairs

pub returns-in-Some-clause-added : goal.returns-in-Some-clause-added
returns-in-Some-clause-added c =
    on-both c.add_pair.result _ _ _
    (λ p q. pair-added c.args.trail.now c.args.clause.now c.args.literal c.args.place c.requires.has c.requires.fresh c.decision_before.result c.decision_before.ensures c.unwrap_or-last.result c.unwrap_or-last.ensures
    c.args.watches.now.pairs.items c.add_pair.new.self.pairs.items c.args.watches.now.lists.items c.add_pair.new.self.lists.items
    c.in-Some.other c.of-first.result c.of-second.result c.of-first.ensures c.of-second.ensures c.in-Some.ensures p)
    c.add_pair.ensures.pairs c.add_pair.ensures.pairs

pub returns-in-None-clause-linked : goal.returns-in-None-clause-linked
returns-in-None-clause-linked c =
    on-both c.add_none.result _ _ _
    (none-linked c.args.trail.now c.args.clause.now c.args.literal c.args.place c.requires.has c.requires.fresh c.decision_before.result c.decision_before.ensures c.unwrap_or-last.result c.unwrap_or-last.ensures
    c.args.watches.now.pairs.items c.add_none.new.self.pairs.items c.args.watches.now.lists.items c.add_none.new.self.lists.items
    c.of-first.result)
    c.add_none.ensures.lists c.add_none.ensures.pairs

pub returns-in-None-clause-added : goal.returns-in-None-clause-added
returns-in-None-clause-added c =
    on-both c.add_none.result _ _ _
    (λ p q. none-added c.args.trail.now c.args.clause.now c.args.literal c.args.place c.requires.has c.requires.fresh c.decision_before.result c.decision_before.ensures c.unwrap_or-last.result c.unwrap_or-last.ensures
    c.args.watches.now.pairs.items c.add_none.new.self.pairs.items c.args.watches.now.lists.items c.add_none.new.self.lists.items
    c.of-first.result c.requires.unready c.in-None.ensures p)
    c.add_none.ensures.pairs c.add_none.ensures.pairs
