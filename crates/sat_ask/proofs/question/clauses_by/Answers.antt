-- The inputs are the bits of the order, and the gate of the goal is its test.
use Rattle.sat_ask.proofs.Common.{◌∙◌, List, ap, map, subst, Variable, GateId, Gate, Encodes, HasOneModelAFront}
use Rattle.sat_ask.proofs.Orders.{all-known, goal-asked}
use Rattle.sat_ask.proofs.question.clauses_by.Goals as goal

pub goal_gate-requires-clause-known : goal.goal_gate-requires-clause-known
goal_gate-requires-clause-known c = all-known c.args.terms.now c.args.goal c.args.order.now c.add_all.new.blast.table c.requires.all c.in_ok-add_all.ensures

pub to_cnf-requires-clause-order : goal.to_cnf-requires-clause-order
to_cnf-requires-clause-order c = rw (c.circuit.ensures.value, c.deref.ensures.value) c.in_ok-front.ensures.inputs

pub returns : goal.returns
returns c =
    let blast = c.goal_gate.new.blast in
    let encodes = subst (λ (ds : List GateId). Encodes blast.gates c.in_ok-out.out ds c.in_ok-cnf.cnf) c.deref.ensures.value
    (subst (λ (gs : List Gate). Encodes gs c.in_ok-out.out c.deref.result.now c.in_ok-cnf.cnf) c.circuit.ensures.value c.in_ok-cnf.ensures.encodes) in
    let fronts = subst (λ (ds : List GateId). HasOneModelAFront blast.gates ds c.in_ok-cnf.cnf) c.deref.ensures.value
    (subst (λ (gs : List Gate). HasOneModelAFront gs c.deref.result.now c.in_ok-cnf.cnf) c.circuit.ensures.value c.in_ok-cnf.ensures.fronts) in
    let keys = ap (λ (es : List (Variable × List GateId)). map (λ (e : Variable × List GateId). e.0) es) c.in_ok-out.ensures.table ∙ c.in_ok-add_all.ensures in
    goal-asked blast.gates blast.table c.args.terms.now c.args.goal c.args.order.now c.in_ok-out.out c.in_ok-front.front.items c.in_ok-cnf.cnf c.circuit.ensures.table c.in_ok-front.ensures.digits c.in_ok-front.ensures.named
    keys c.in_ok-out.ensures.gate encodes fronts
