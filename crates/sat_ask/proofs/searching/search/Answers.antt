-- The search for the least model is of clauses that have one, so it refutes nothing.
use Rattle.gates.proofs.Stages.{IfOk-then}
use Rattle.sat_ask.proofs.Asking.{model-uses}
use Rattle.sat_ask.proofs.searching.search.Goals as goal

pub returns-in-Model-clause-used : goal.returns-in-Model-clause-used
returns-in-Model-clause-used c =
    let searched = rw c.in-Model.is at c.in_ok-values.ensures in
    IfOk-then c.least.result _ _ c.least.ensures (λ a answers. model-uses c.args.cnf.now.variables c.args.cnf.now.front c.args.cnf.now.clauses c.args.limit c.in-Model.values a searched answers)
