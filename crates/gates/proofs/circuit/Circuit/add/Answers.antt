-- What was stored is what was asked for.
use Rattle.gates.proofs.Stages.{makes_stored, grows_grown, keeps_grown}
use Rattle.gates.proofs.circuit.Circuit.add.Goals as goal

pub returns-clause-made : goal.returns-clause-made
returns-clause-made c =
    makes_stored c.args.self.now c.store.new.self c.in_ok-id.id c.args.gate (grows_grown c.args.self.now c.store.new.self c.args.gate c.store.ensures.grown)
    c.store.ensures.fit c.requires.fit c.in_ok-id.ensures.stored c.in_ok-id.ensures.plain

pub returns-clause-kept : goal.returns-clause-kept
returns-clause-kept c = keeps_grown c.args.self.now c.store.new.self c.args.gate c.store.ensures.grown c.requires.inner
