use Rattle.run_terms.proofs.Common.{◌∙◌, ◌∷◌, [], ap, refl, on_ok_weaker, Case, Ub, Edge, operand_value, along}
use Rattle.run_terms.proofs.Moving.{ends_here, leaves_to}
use Rattle.run_terms.proofs.Leaves.{branch_left, label_edge, switch_edges, switch_left}
use Rattle.run_terms.proofs.terminators.leave.Goals as goal

pub leave_by_return-requires-clause-value : goal.leave_by_return-requires-clause-value
leave_by_return-requires-clause-value c = rw c.in-Return.is at c.requires.returned

pub returns-in-Return-clause-leaves : goal.returns-in-Return-clause-leaves
returns-in-Return-clause-leaves c = rw c.in-Return.is c.leave_by_return.ensures.leaves

pub returns-in-Branch-clause-leaves : goal.returns-in-Branch-clause-leaves
returns-in-Branch-clause-leaves c = rw c.in-Branch.is (on_ok_weaker c.follow.result (λ so.
    let by = rw c.in-Branch.is at c.requires.edges in
    leaves_to so (λ g sees. tt) (λ g m. ap (λ (e : Edge). along e m) (c.edge_at-edge.ensures ∙ label_edge (c.in-Branch.to ∷ []) c.args.edges.now by 0 c.in-Branch.to refl))) c.follow.ensures.leaves)

pub returns-in-CondBranch-clause-leaves : goal.returns-in-CondBranch-clause-leaves
returns-in-CondBranch-clause-leaves c = rw c.in-CondBranch.is (on_ok_weaker c.leave_by_branch.result (λ so.
    let by = rw c.in-CondBranch.is at c.requires.edges in
    leaves_to (rw (c.edge_at-if_true.ensures, c.edge_at-if_false.ensures) at so) (λ g sees. tt) (λ g m. branch_left (operand_value m.registers c.in-CondBranch.condition) c.in-CondBranch.if_true c.in-CondBranch.if_false c.args.edges.now m by)) c.leave_by_branch.ensures.leaves)

pub returns-in-Switch-clause-leaves : goal.returns-in-Switch-clause-leaves
returns-in-Switch-clause-leaves c = rw c.in-Switch.is (on_ok_weaker c.leave_by_switch.result (λ so.
    let by = rw c.in-Switch.is at c.requires.edges in
    let cases = c.in-Switch.cases in
    leaves_to ((rw c.as_slice-cases.ensures at so) (λ (x : Case). by.0 x.to) (by.0 c.in-Switch.default) (switch_edges c.in-Switch.default cases c.args.edges.now by)) (λ g sees. tt)
    (λ g m. switch_left c.in-Switch.width.bits (operand_value m.registers c.in-Switch.operand) c.in-Switch.default cases c.args.edges.now m by)) c.leave_by_switch.ensures.leaves)

pub returns-in_ok-end_undefined-in-Unreachable-clause-leaves : goal.returns-in_ok-end_undefined-in-Unreachable-clause-leaves
returns-in_ok-end_undefined-in-Unreachable-clause-leaves c = rw c.in-Unreachable.is
    (leaves_to (ends_here Ub c.end_undefined.ensures.kept c.requires.leaving c.in_ok-end_undefined-in-Unreachable.ensures.ends) (λ g sees. tt) (λ g m. refl))
