use Rattle.slow_judge.proofs.Common.{arith}
use Rattle.std.proofs.lemmas.Result.{IfOk-weaker}
use Rattle.verdicts.specs.Weight.{IsHeavy}
use Rattle.slow_judge.proofs.Growing.{heavy_is, light_is}
use Rattle.slow_judge.proofs.judge.slow.Goals as goal

pub returns-then-branch : goal.returns-then-branch
returns-then-branch c = heavy_is c.args.pair.now c.args.bounds.now c.args.budget.now (omega (arith, c.if-branch.true, c.in_ok-weight.ensures.value))

pub returns : goal.returns
returns c =
    let light : ¬ IsHeavy c.args.pair.now c.args.bounds.now c.args.budget.now = λ h. omega (arith, h) in
    IfOk-weaker c.found.result _ _ (λ v trail. light_is c.args.pair.now c.args.bounds.now c.args.budget.now v light trail) c.found.ensures
