use Rattle.run_terms.proofs.Common.{keeps_trans}
use Rattle.run_terms.proofs.Lasting.{states-later, ending-later}
use Rattle.run_terms.proofs.Moving.{simulates_arrive}
use Rattle.run_terms.proofs.frontier.Frontier.arrive.Goals as goal

pub reach-requires-clause-ahead : goal.reach-requires-clause-ahead
reach-requires-clause-ahead c = states-later c.args.terms.now c.state_on_edge.new.terms c.state_on_edge.ensures.kept c.args.self.now.ahead c.requires.own.ahead

pub returns-clause-simulates : goal.returns-clause-simulates
returns-clause-simulates c = simulates_arrive c.args.terms.now c.state_on_edge.new.terms c.reach.new.terms c.state_on_edge.ensures.kept c.reach.ensures.kept c.args.self.now c.requires.own c.reach.new.ahead c.args.leaving.c c.requires.c c.args.leaving.label c.args.leaving.state.now c.in_ok-edge.edge c.args.n c.args.block.now
    c.in_ok-edge.ensures.alive c.in_ok-edge.ensures.stands c.in_ok-reach.ensures.stays c.in_ok-reach.ensures.goes

pub returns-clause-own : goal.returns-clause-own
returns-clause-own c = record {
  ahead = c.in_ok-reach.ensures.ahead;
  ending = ending-later c.args.terms.now c.reach.new.terms (keeps_trans c.args.terms.now c.state_on_edge.new.terms c.reach.new.terms c.state_on_edge.ensures.kept c.reach.ensures.kept) c.args.self.now.ending c.requires.own.ending;
}
