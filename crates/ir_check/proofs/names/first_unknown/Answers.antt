use Rattle.ir_check.proofs.Common.{◌≡◌, true, length, arith, below_more, UsesUnknown, failure, no_failure}
use Rattle.ir_check.proofs.ValueLemmas.{unknown_within}
use Rattle.ir_check.proofs.names.first_unknown.Goals as goal

pub returns-then-uses_unknown : goal.returns-then-uses_unknown
returns-then-uses_unknown c = failure (UsesUnknown c.args.sites.now) c.loop-n.n (c.uses_unknown.ensures.0 c.if-uses_unknown.true) c.loop-n.invariant

pub loop-n-preserved : goal.loop-n-preserved
loop-n-preserved c = below_more _ _ c.loop-n.invariant (λ d. absurd (let found : c.uses_unknown.result ≡ true = c.uses_unknown.ensures.1 d in cc))

pub returns : goal.returns
returns c = no_failure (UsesUnknown c.args.sites.now) (length c.args.sites.now) (λ k d. unknown_within c.args.sites.now k d) (λ k below. c.loop-n.invariant k (omega (arith, below)))
