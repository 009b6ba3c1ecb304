use Rattle.run_trace.proofs.Common.{inl, inr, ap, is_undefined}
use Rattle.run_trace.proofs.Binaries.{divisor_clause}
use Rattle.run_trace.proofs.causes.division_cause.Goals as goal

pub returns-in-UnsignedDiv : goal.returns-in-UnsignedDiv
returns-in-UnsignedDiv c =
    let n = c.args.width.bits in
    let found = divisor_clause c.args.op n c.args.left c.args.right c.divisor_cause.result in
    elim c.in-UnsignedDiv.is [
      | inl exact ↦ found (ap (λ op. is_undefined op n c.args.left c.args.right) exact.1) (c.divisor_cause.ensures c.args.left)
      | inr rem ↦ found (ap (λ op. is_undefined op n c.args.left c.args.right) rem) (c.divisor_cause.ensures c.args.left)
    ]
