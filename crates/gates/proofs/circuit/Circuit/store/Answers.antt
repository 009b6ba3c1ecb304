-- The gate goes last, or is there already.
use Rattle.gates.proofs.Stages.{AreFit-stored, grown_stored}
use Rattle.gates.proofs.circuit.Circuit.store.Goals as goal

pub invariant_of-self-2 : goal.invariant_of-self-2
invariant_of-self-2 c = AreFit-stored _ c.self.inside.gates.keys _ c.args.gate c.in_ok-index.ensures.keys c.self.invariant (rw (← c.self.view_is) at c.requires)

pub returns-clause-fit : goal.returns-clause-fit
returns-clause-fit c = AreFit-stored _ c.self.inside.gates.keys _ c.args.gate c.in_ok-index.ensures.keys c.self.invariant (rw (← c.self.view_is) at c.requires)

pub returns-clause-grown : goal.returns-clause-grown
returns-clause-grown c = grown_stored _ c.args.self.now c.insert_full.new.self.keys c.args.gate (rw c.self.view_is at c.in_ok-index.ensures.keys)
