use Rattle.run_terms.proofs.Ended.{return_ends}
use Rattle.run_terms.proofs.ending.Ending.end_return.Goals as goal

pub returns-clause-ends : goal.returns-clause-ends
returns-clause-ends c =
    let left = c.in_ok-left.ensures in
    return_ends c.args.terms.now c.left_with.new.terms c.pick_tally.new.terms c.args.self.now c.requires.own c.args.c c.args.tally c.in_ok-tally.tally c.requires.c c.requires.tally c.left_with.ensures.kept c.pick_tally.ensures.kept
    c.in_ok-tally.ensures.made c.in_ok-tally.ensures.stays c.in_ok-tally.ensures.goes c.in_ok-left.left c.args.value c.args.given.now left.value left.alike left.given left.tests left.goes left.stays
