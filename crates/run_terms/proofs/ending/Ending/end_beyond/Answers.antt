use Rattle.run_terms.proofs.Ended.{beyond_ends}
use Rattle.run_terms.proofs.ending.Ending.end_beyond.Goals as goal

pub returns-clause-ends : goal.returns-clause-ends
returns-clause-ends c = beyond_ends c.args.terms.now c.either.new.terms c.pick_tally.new.terms c.args.self.now c.requires.own c.args.c c.args.tally c.in_ok-self-2.field-0 c.requires.c c.requires.tally c.either.ensures.kept c.pick_tally.ensures.kept
    c.in_ok-self-2.ensures.made c.in_ok-self-2.ensures.stays c.in_ok-self-2.ensures.goes c.in_ok-self.field-0 c.in_ok-self.ensures.made
