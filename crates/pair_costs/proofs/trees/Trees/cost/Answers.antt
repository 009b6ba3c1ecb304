use Rattle.std.proofs.Common.{arith}
use Rattle.pair_costs.proofs.TreeCosts.{tree_most}
use Rattle.pair_costs.proofs.trees.Trees.cost.Goals as goal

pub returns-clause-most : goal.returns-clause-most
returns-clause-most c =
    let most = tree_most c.args.self.now.f.now c.requires.few c.requires.limits c.args.operand in
    let own = c.requires.costs c.args.operand in
    rw (c.cost_in.ensures, c.deref.ensures.value) (omega (arith, most, own))
