use Rattle.refine_terms.proofs.Common.{ℕ, ◌≡◌, ◌≤◌, ◌↔◌, true, drop, IsTerm, Keeps, bit_at, term_at, Each}
use Rattle.refine_terms.proofs.comparing.all_at_most.Given as goal

abbrev pub invariant-loop-a : goal.invariant-loop-a
invariant-loop-a l = record {
  kept : Keeps l.fn.terms l.terms;
  all : IsTerm l.terms 1 l.all;
  rest : (v : ℕ → ℕ → ℕ) → ((bit_at v l.terms l.all ≡ true) × Each (λ a. term_at v l.fn.terms a ≤ l.most) (drop l.a-index l.numbers)) ↔ Each (λ a. term_at v l.fn.terms a ≤ l.most) l.numbers;
}
