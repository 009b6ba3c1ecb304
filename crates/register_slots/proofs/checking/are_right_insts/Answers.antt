use Rattle.register_slots.proofs.Common.{List, Option, ℕ, drop, ◌+◌, sym, ap, subst, ◌∙◌, arith, AreRightInsts, held_after}
use Rattle.register_slots.proofs.RightParts.{inst_joins, held_joins, insts_end, held_end}
use Rattle.register_slots.proofs.checking.are_right_insts.Goals as goal

pub loop-inst-preserved : goal.loop-inst-preserved
loop-inst-preserved c =
    let slots = c.args.slots.now in
    let insts = c.args.insts.now in
    let i = c.loop-inst.inst-index in
    let right = c.is_right_inst.ensures.right c.if-not-is_right_inst.false in
    let P : List (Option ℕ) → Type 0 = λ (held : List (Option ℕ)). AreRightInsts slots c.args.names held (drop (i + 1) insts) in
    record {
      right = λ rest. inst_joins slots c.args.names insts c.loop-inst.held i c.inst-item.result _ c.loop-inst-test.true c.inst-item.is right c.loop-inst.invariant.right (subst P c.is_right_inst.ensures.held rest);
      held = ap (λ (held : List (Option ℕ)). held_after slots (drop (i + 1) insts) held) c.is_right_inst.ensures.held ∙ sym (held_joins slots insts c.loop-inst.held i c.inst-item.result c.loop-inst-test.true c.inst-item.is) ∙ c.loop-inst.invariant.held;
    }

pub returns-clause-right : goal.returns-clause-right
returns-clause-right c = λ _. c.loop-inst.invariant.right (insts_end c.args.slots.now c.args.names c.args.insts.now c.loop-inst.held c.loop-inst.inst-index (omega arith))

pub returns-clause-held : goal.returns-clause-held
returns-clause-held c = λ _. sym (held_end c.args.slots.now c.args.insts.now c.loop-inst.held c.loop-inst.inst-index (omega arith)) ∙ c.loop-inst.invariant.held
