use Rattle.watch_solver.proofs.Common.{eq-eqb, eqb-true}
use Rattle.watch_solver.proofs.Codes.{number-same, same-number}
use Rattle.watch_solver.proofs.code.Code.is_same.Goals as goal

pub returns : goal.returns
returns c = (
  λ t. same-number c.args.self c.args.other (eqb-true c.args.self.number c.args.other.number t),
  λ e. eq-eqb c.args.self.number c.args.other.number (number-same c.args.self c.args.other e),
)
