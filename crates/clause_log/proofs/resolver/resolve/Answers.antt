-- What the merge of the two gives is their resolvent.
use Rattle.std.proofs.lemmas.Result.{IfOk-weaker}
use Rattle.clause_log.proofs.Resolving.{resolved}
use Rattle.clause_log.proofs.resolver.resolve.Goals as goal

pub returns-clause-resolvent : goal.returns-clause-resolvent
returns-clause-resolvent c =
    IfOk-weaker c.merge.result _ _ (λ r is. resolved c.args.a.now c.args.b.now c.merge.ensures.left c.merge.ensures.right r is) c.merge.ensures.value
