use Rattle.ir_check.proofs.Common.{length, arith, slice_get_within, Defines, DefinesAgain, failure, no_failure}
use Rattle.ir_check.proofs.names.first_again.Goals as goal

pub returns-then-defines_again : goal.returns-then-defines_again
returns-then-defines_again c = failure (DefinesAgain c.args.sites.now) c.loop-n.n (c.defines_again.ensures.0 c.if-defines_again.true) c.loop-n.invariant

pub returns : goal.returns
returns c = no_failure (DefinesAgain c.args.sites.now) (length c.args.sites.now) (λ k d. slice_get_within c.args.sites.now k (Defines d.type d.name) d.here) (λ k below. c.loop-n.invariant k (omega (arith, below)))
