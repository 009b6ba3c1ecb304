use Rattle.std.proofs.Common.{◌≡◌, ◌∙◌, ◌++◌, ◌∷◌, ◌≤◌, ◌+◌, List, [], ap, refl, arith}
use Rattle.ir_tree.specs.Carrying.{leaf_count}
use Rattle.lowering.specs.declared.computing.Task.{Task}
use Rattle.lowering.proofs.TaskLemmas.{computes_on, emits_on, fits_on, leaves-few, rest_fits, steps_fall}
use Rattle.lowering.proofs.computing.push_computed.Goals as goal

-- the stack as it was, by its last task
with-last : (stack rest : List Task) (task last : Task) → stack ≡ rest ++ task ∷ [] → task ≡ last → stack ≡ rest ++ last ∷ []
with-last stack rest task last was is = was ∙ ap (λ (t : Task). rest ++ t ∷ []) is

pub loop-task-init : goal.loop-task-init
loop-task-init c =
    let few = leaves-few c.args.plan.now.f.now c.requires.few c.args.operand in
    rw (c.in_ok-push_compute.ensures, c.new-stack.ensures.items) (record { computes = refl; fits = (omega (arith, few), tt) })

pub push_tasks-requires-clause-height : goal.push_tasks-requires-clause-height
push_tasks-requires-clause-height c =
    let was = with-last c.loop-task.stack.items c.pop.new.self.items c.in-Some.task _ c.in-Some.ensures.items c.in-Compute.is in
    let parts = rest_fits c.args.plan.now.f.now c.loop-task.stack.items c.pop.new.self.items _ was c.loop-task.invariant.fits in
    let fits : c.in-Compute.height + leaf_count c.args.plan.now.f.now c.in-Compute.operand ≤ 64 = parts.1 in
    omega (arith, fits)

pub loop-task-smaller-in-Continue-branch-2 : goal.loop-task-smaller-in-Continue-branch-2
loop-task-smaller-in-Continue-branch-2 c =
    let was = with-last c.loop-task.stack.items c.pop.new.self.items c.in-Some.task _ c.in-Some.ensures.items c.in-Compute.is in
    steps_fall c.args.plan.now.f.now c.requires.few c.loop-task.stack.items c.pop.new.self.items c.push_tasks.new.stack.items c.in-Compute.height c.in-Compute.of_type c.in-Compute.operand was c.in_ok-push_tasks-in-Compute.ensures

pub loop-task-preserved-in-Continue-branch-2 : goal.loop-task-preserved-in-Continue-branch-2
loop-task-preserved-in-Continue-branch-2 c =
    let was = with-last c.loop-task.stack.items c.pop.new.self.items c.in-Some.task _ c.in-Some.ensures.items c.in-Compute.is in
    record {
      computes = computes_on c.args.plan.now.f.now c.requires.few c.loop-task.insts _ c.loop-task.stack.items c.pop.new.self.items c.push_tasks.new.stack.items c.in-Compute.height c.in-Compute.of_type c.in-Compute.operand was c.in_ok-push_tasks-in-Compute.ensures c.loop-task.invariant.computes;
      fits = fits_on c.args.plan.now.f.now c.requires.few c.loop-task.stack.items c.pop.new.self.items c.push_tasks.new.stack.items c.in-Compute.height c.in-Compute.of_type c.in-Compute.operand was c.in_ok-push_tasks-in-Compute.ensures c.loop-task.invariant.fits;
    }

pub loop-task-preserved : goal.loop-task-preserved
loop-task-preserved c =
    let was = with-last c.loop-task.stack.items c.pop.new.self.items c.in-Some.task _ c.in-Some.ensures.items c.in-Emit.is in
    let parts = rest_fits c.args.plan.now.f.now c.loop-task.stack.items c.pop.new.self.items _ was c.loop-task.invariant.fits in
    record {
      computes = emits_on c.args.plan.now.f.now c.loop-task.insts c.push.new.self _ c.loop-task.stack.items c.pop.new.self.items c.in-Emit.inst was c.in_ok-push-in-Emit.ensures.ok c.loop-task.invariant.computes;
      fits = parts.0;
    }
