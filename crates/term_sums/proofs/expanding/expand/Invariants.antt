use Rattle.std.specs.Prelude.{ℕ, ◌≡◌, ◌+◌, ◌%◌, ◌^◌}
use Rattle.term_sums.specs.Polynomials.{AreTrue, sum_value, work_value}
use Rattle.term_sums.proofs.expanding.expand.Given as goal

abbrev pub invariant-loop : goal.invariant-loop
invariant-loop l = (v : ℕ → ℕ → ℕ) → AreTrue v l.terms l.facts → (work_value v l.terms l.width l.work.items + sum_value v l.terms l.width l.sum.items) % 2 ^ l.width
    ≡ (work_value v l.terms l.width l.fn.work.items + sum_value v l.terms l.width l.fn.sum.items) % 2 ^ l.width
