use Rattle.bit_blast.proofs.Agreeing.{has_inputs}
use Rattle.bit_blast.proofs.blast.Blast.agreement.Goals as goal

pub returns : goal.returns
returns c = has_inputs c.args.self.now.gates c.args.self.now.table c.circuit.ensures.table
