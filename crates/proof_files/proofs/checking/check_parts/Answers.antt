use Rattle.std.proofs.Common.{arith, ℕ, ◌++◌, Option, Some, None, ap, subst, ◌∙◌}
use Rattle.proof_files.specs.Checks.{IsBadStep, outcome_line}
use Rattle.proof_files.proofs.Walking.{one_found}
use Rattle.proof_files.proofs.checking.check_parts.Goals.{in-None, in-Some}
use Rattle.proof_files.proofs.checking.check_parts.Goals as goal

pub loop-part-preserved : goal.loop-part-preserved
loop-part-preserved g c =
    let p = c.part-item.result in
    let text = c.loop-part.text.items in
    elim c.match-step.branch [
      | in-None w ↦
          one_found c.args.parts.now c.loop-part.part-index p None text _ _ _ _ _ c.loop-part-test.true c.part-item.is c.loop-part.invariant
          (subst (IsBadStep p) w.in-None.is c.in_ok-step.ensures)
          (c.in_ok-push_outcome.ensures ∙ ap (λ (o : Option ℕ). text ++ outcome_line p o) w.in-None.is)
          (omega (arith, w.verified-is)) (omega (arith, w.bad-is))
      | in-Some w ↦
          one_found c.args.parts.now c.loop-part.part-index p (Some w.in-Some.field-0) text _ _ _ _ _ c.loop-part-test.true c.part-item.is c.loop-part.invariant
          (subst (IsBadStep p) w.in-Some.is c.in_ok-step.ensures)
          (c.in_ok-push_outcome.ensures ∙ ap (λ (o : Option ℕ). text ++ outcome_line p o) w.in-Some.is)
          (omega (arith, w.verified-is)) (omega (arith, w.bad-is))
    ]
