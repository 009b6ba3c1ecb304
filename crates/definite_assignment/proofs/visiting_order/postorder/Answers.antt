use Rattle.definite_assignment.proofs.Common.{◌≡◌, ◌<◌, ◌∙◌, false, [], length, get_or, ap, sym, arith, length-set, get_or_default, All-same, All-push, block_of}
use Rattle.definite_assignment.specs.declared.visiting_order.Step.TheVariants.{Leave}
use Rattle.definite_assignment.proofs.Order.{next_step, steps_left-enter}
use Rattle.definite_assignment.proofs.Search.{list_at, nexts_fit}
use Rattle.definite_assignment.proofs.visiting_order.postorder.Goals as goal

pub loop-step-smaller-in-Continue-branch-4 : goal.loop-step-smaller-in-Continue-branch-4
loop-step-smaller-in-Continue-branch-4 c =
    let n = length c.args.successors.now in
    let block = c.in-Enter.block in
    let below : block < n = (next_step n c.loop-step.steps.items c.pop.new.self.items c.in-Some.step c.in-Some.ensures.items c.in-Enter.is c.loop-step.invariant.steps).1 in
    let marked : block < length c.loop-step.is_entered.items = omega (arith, below, c.loop-step.invariant.marks) in
    let unmarked : get_or c.loop-step.is_entered.items block false ≡ false = get_or_default c.loop-step.is_entered.items block false c.index.result.now marked ∙ (sym c.index.ensures ∙ c.if-not-index.true) in
    let nexts : c.as_slice.result.now ≡ get_or c.args.successors.now block [] = list_at c.args.successors.now block c.index-successors-block.result below c.as_slice.ensures c.index-successors-block.is in
    omega (arith, steps_left-enter c.loop-step.is_entered.items c.args.successors.now block marked below unmarked, ap length nexts, c.in_ok-enter_all-in-Enter.ensures.long, c.in_ok-push-in-Enter.ensures.len, c.in-Some.ensures.len)

pub loop-step-preserved-in-Continue-branch-4 : goal.loop-step-preserved-in-Continue-branch-4
loop-step-preserved-in-Continue-branch-4 c =
    let n = length c.args.successors.now in
    let block = c.in-Enter.block in
    let popped = next_step n c.loop-step.steps.items c.pop.new.self.items c.in-Some.step c.in-Some.ensures.items c.in-Enter.is c.loop-step.invariant.steps in
    record {
      marks = length-set c.loop-step.is_entered.items block _ ∙ c.loop-step.invariant.marks;
      steps = c.in_ok-enter_all-in-Enter.ensures.within n
          (All-same (λ s. block_of s < n) _ _ c.in_ok-push-in-Enter.ensures.items (All-push (λ s. block_of s < n) c.pop.new.self.items (Leave block) popped.0 popped.1))
          (nexts_fit c.args.successors.now block popped.1 c.requires.within (list_at c.args.successors.now block c.index-successors-block.result popped.1 c.as_slice.ensures c.index-successors-block.is));
      order = c.loop-step.invariant.order;
    }

pub loop-step-preserved-else-not-index : goal.loop-step-preserved-else-not-index
loop-step-preserved-else-not-index c =
    let n = length c.args.successors.now in
    record {
      marks = c.loop-step.invariant.marks;
      steps = (next_step n c.loop-step.steps.items c.pop.new.self.items c.in-Some.step c.in-Some.ensures.items c.in-Enter.is c.loop-step.invariant.steps).0;
      order = c.loop-step.invariant.order;
    }

pub loop-step-preserved : goal.loop-step-preserved
loop-step-preserved c =
    let n = length c.args.successors.now in
    let popped = next_step n c.loop-step.steps.items c.pop.new.self.items c.in-Some.step c.in-Some.ensures.items c.in-Leave.is c.loop-step.invariant.steps in
    record {
      marks = c.loop-step.invariant.marks;
      steps = popped.0;
      order = All-same (λ b. b < n) _ _ c.in_ok-push-in-Leave.ensures.items (All-push (λ b. b < n) c.loop-step.order.items c.in-Leave.block c.loop-step.invariant.order popped.1);
    }
