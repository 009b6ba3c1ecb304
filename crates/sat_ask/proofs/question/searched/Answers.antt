-- The solver's answer on the goal's clauses is the answer to the question.
use Rattle.sat_ask.proofs.Common.{◌∙◌, ap, subst, take, Answer, IsAnswer, digit_count, goal_test, variables_of}
use Rattle.sat_ask.proofs.Asking.{least-front, none-pass}
use Rattle.sat_ask.proofs.question.searched.Goals as goal

pub returns-in_ok-digits-in-Sat-clause-found : goal.returns-in_ok-digits-in-Sat-clause-found
returns-in_ok-digits-in-Sat-clause-found c =
    let cnf = c.in_ok-cnf.cnf in
    let h = subst (λ (a : Answer). IsAnswer cnf.variables cnf.front cnf.clauses c.args.limit a) c.in-Sat.is c.in_ok-places.ensures.answer in
    least-front (goal_test c.args.terms.now c.args.goal c.args.order.now) (digit_count (variables_of c.args.terms.now c.args.order.now)) cnf c.in_ok-cnf.ensures _ _ cnf.front_within h
    (c.in_ok-digits-in-Sat.ensures.items ∙ (ap (take cnf.front) c.as_slice.ensures ∙ ap (λ n. take n c.in-Sat.places) c.in_ok-cnf.ensures.front))

pub returns-in-Unsat-clause-found : goal.returns-in-Unsat-clause-found
returns-in-Unsat-clause-found c =
    let cnf = c.in_ok-cnf.cnf in
    let asks = c.in_ok-cnf.ensures in
    let h = subst (λ (a : Answer). IsAnswer cnf.variables cnf.front cnf.clauses c.args.limit a) c.in-Unsat.is c.in_ok-places.ensures.answer in
    (none-pass (goal_test c.args.terms.now c.args.goal c.args.order.now) (digit_count (variables_of c.args.terms.now c.args.order.now)) cnf asks c.in-Unsat.log h.0, asks, h.0, h.1)
