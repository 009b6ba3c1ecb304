use Rattle.watch_solver.proofs.Codes.{number_is}
use Rattle.watch_solver.proofs.code.Code.index.Goals as goal

pub returns : goal.returns
returns c = number_is c.args.self
