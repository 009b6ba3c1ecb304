-- A pair that is too heavy is not asked about.
use Rattle.std.proofs.Common.{arith}
use Rattle.std.proofs.lemmas.Result.{IfOk-weaker}
use Rattle.verdicts.specs.Weight.{IsHeavy}
use Rattle.instantiate.proofs.Growing.{judged}
use Rattle.instantiate.proofs.settling.settle.Goals as goal

pub returns : goal.returns
returns c =
    let light : ¬ IsHeavy c.args.pair.now c.args.bounds.now c.args.budget.now = λ h. omega (arith, h) in
    IfOk-weaker c.told_of.result _ _
    (λ settled told. judged c.args.pair.now c.args.bounds.now c.args.budget.now settled.kept settled.cert settled.verdict light told)
    c.told_of.ensures
