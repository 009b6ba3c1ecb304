use Rattle.gates.proofs.Common.{Zero}
use Rattle.gates.proofs.Stages.{constant-value, stored_at}
use Rattle.gates.proofs.circuit.Circuit.is_constant.Goals as goal

pub returns-in-Zero : goal.returns-in-Zero
returns-in-Zero c = λ _ v. constant-value c.args.self.now c.args.a c.as_slice.ensures.fit (stored_at c.args.self.now c.args.a.index _ Zero c.requires (rw c.as_slice.ensures.value at c.in-Zero.is)) v
