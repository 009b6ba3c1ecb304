-- Each number has a clause, and each clause so far is settled.
use Rattle.std.proofs.Common.{◌+◌, List}
use Rattle.clause_lits.specs.declared.lit.Lit.{Lit}
use Rattle.clause_search.specs.Searching.{standing}
use Rattle.clause_search.proofs.Findings.{open_start, open_more, open_at, open_none}
use Rattle.clause_solver.proofs.finding.find_between.Goals as goal
use Rattle.clause_solver.proofs.finding.find_between.Goals.{in-Some+in-Settled, in_default}

pub loop-place-init : goal.loop-place-init
loop-place-init c = open_start (standing c.args.clauses.now c.args.log.now) c.args.trail.now c.args.from

pub loop-place-preserved : goal.loop-place-preserved
loop-place-preserved c =
    let all : List (List Lit) = standing c.args.clauses.now c.args.log.now in
    open_more all c.args.trail.now c.args.from c.loop-place.place c.loop-place.invariant
    (elim c.match-clause_numbered.branch [
      | in-Some+in-Settled w ↦ open_at all c.args.trail.now (c.loop-place.place + 1) w.in-Some.clause.now w.in-Some.ensures w.in-Settled.ensures
      | in_default w ↦ open_none all c.args.trail.now (c.loop-place.place + 1) (rw w.in_default.is at c.clause_numbered.ensures)
    ])
