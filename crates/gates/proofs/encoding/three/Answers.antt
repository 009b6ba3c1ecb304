-- The order of the literals is no matter.
use Rattle.gates.proofs.Common.{◌∙◌, inl, inr, lit_true}
use Rattle.gates.proofs.Clauses.{any-three}
use Rattle.gates.proofs.encoding.three.Goals as goal
use Rattle.gates.proofs.encoding.three.Goals.{then-c-low, else-c-low+then-c-high, else-c-low+else-c-high}

pub returns-clause-says : goal.returns-clause-says
returns-clause-says c = λ v. any-three (lit_true v) c.args.a c.args.b c.args.c c.in_order.result.0 c.in_order.result.1 c.new.result
    c.in_order.ensures.same
    (elim c.if-c-low.branch [
      | then-c-low w ↦ inl (c.new.ensures ∙ (c.in_ok-from_slice.ensures.ok ∙ w.literals-is))
      | else-c-low+then-c-high w ↦ inr (inl (c.new.ensures ∙ (c.in_ok-from_slice.ensures.ok ∙ w.literals-is)))
      | else-c-low+else-c-high w ↦ inr (inr (c.new.ensures ∙ (c.in_ok-from_slice.ensures.ok ∙ w.literals-is)))
    ])
