use Rattle.std.proofs.Common.{subst}
use Rattle.ir_tree.specs.declared.tree.Function.{Function}
use Rattle.lowering.specs.Plan.{IsPlanOf}
use Rattle.pair_costs.specs.Trees.{AreTreeCosts}
use Rattle.pair_costs.proofs.TableLemmas.{none-right}
use Rattle.pair_costs.proofs.trees.Trees.new.Goals as goal
use Rattle.pair_costs.proofs.trees.Trees.new.Goals.{in-Some+in_ok-costs-in-Some, in-None}

pub returns-clause-costs : goal.returns-clause-costs
returns-clause-costs c = elim c.match-branch-2.branch [
  | in-Some+in_ok-costs-in-Some w ↦
      let plan = subst (IsPlanOf c.args.f.now) w.in-Some.is c.in_ok-plan.ensures in
      rw w.costs-is (record {
        costs = subst (λ (f : Function). AreTreeCosts f w.in_ok-costs-in-Some.costs.items) plan.0 w.in_ok-costs-in-Some.ensures;
        few = c.requires.few;
        limits = c.requires.limits;
      })
  | in-None w ↦ rw w.costs-is (record {
    costs = none-right c.args.f.now (subst (IsPlanOf c.args.f.now) w.in-None.is c.in_ok-plan.ensures) w.new-costs.result.items w.new-costs.ensures.items;
    few = c.requires.few;
    limits = c.requires.limits;
  })
]
