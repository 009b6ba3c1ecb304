-- The two parts are the clause.
use Rattle.watch_solver.proofs.Common.{Some, List, take, subst, Lit, IsFree}
use Rattle.watch_solver.proofs.Freeing.{free-rest, free-front}
use Rattle.watch_solver.proofs.free.free_literal.Goals as goal

pub returns-in-Some : goal.returns-in-Some
returns-in-Some c =
    let trail = take c.args.place c.args.trail.now in
    let found = rw c.split_at.ensures.back at c.in-Some.ensures in
    subst (λ (ls : List Lit). IsFree trail ls c.args.other (Some c.in-Some.literal)) c.literals-literals.ensures.value
    (free-rest trail c.literals-literals.result.now c.args.other c.beginning.result c.in-Some.literal found)

pub returns-in-None : goal.returns-in-None
returns-in-None c =
    let trail = take c.args.place c.args.trail.now in
    let rest = rw c.split_at.ensures.back at c.in-None.ensures in
    let front = rw c.split_at.ensures.front at c.free_among-in-None.ensures in
    subst (λ (ls : List Lit). IsFree trail ls c.args.other c.free_among-in-None.result) c.literals-literals.ensures.value
    (free-front trail c.literals-literals.result.now c.args.other c.beginning.result c.free_among-in-None.result rest front)
