use Rattle.run_trace.proofs.Common.{sym, ◌∙◌}
use Rattle.run_trace.proofs.Binaries.{quotient_found, quotient_fits}
use Rattle.run_trace.proofs.causes.signed_division_cause.Goals as goal

pub returns-in-None : goal.returns-in-None
returns-in-None c =
    quotient_found c.args.width.bits c.args.left c.args.right c.dividend_cause.result (c.in-None.ensures c.args.left) (sym c.is_minus_1.ensures ∙ c.if-is_minus_1.true)
    (c.dividend_cause.ensures c.args.right)

pub returns-in-None-2 : goal.returns-in-None-2
returns-in-None-2 c = quotient_fits c.args.width.bits c.args.left c.args.right (c.in-None.ensures c.args.left) (sym c.is_minus_1.ensures ∙ c.if-is_minus_1.false)
