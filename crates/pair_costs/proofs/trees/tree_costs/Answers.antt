use Rattle.std.proofs.Common.{◌∙◌, sym, arith}
use Rattle.pair_costs.proofs.TableLemmas.{all-right, right-plain, right-settled}
use Rattle.pair_costs.proofs.trees.tree_costs.Goals as goal
use Rattle.pair_costs.proofs.trees.tree_costs.Goals.{then-carries+in_ok-settle, else-carries}

pub loop-name-preserved : goal.loop-name-preserved
loop-name-preserved c = elim c.if-carries.branch [
  | then-carries+in_ok-settle w ↦
      let settled = w.in_ok-settle.ensures in
      rw w.costs-is (record {
        long = settled.long ∙ c.loop-name.invariant.long;
        known = settled.known;
        right = right-settled c.args.plan.now.f.now c.loop-name.costs.items w.settle.new.costs.items c.loop-name.name c.loop-name.invariant.right settled;
      })
  | else-carries w ↦ rw w.costs-is (record {
    long = c.loop-name.invariant.long;
    known = c.loop-name.invariant.known;
    right = right-plain c.args.plan.now.f.now c.loop-name.costs.items c.loop-name.name c.loop-name.invariant.right c.loop-name.invariant.known (sym w.if-carries.ensures);
  })
]

pub returns : goal.returns
returns c =
    all-right c.args.plan.now c.requires.plan c.loop-name.costs.items c.loop-name.invariant.long
    (λ n below. c.loop-name.invariant.right n (omega (arith, below, c.loop-name.invariant.long, c.loop-name-test.false, c.len-name-end.ensures, c.in_ok-costs.ensures.len, c.len.ensures)))
