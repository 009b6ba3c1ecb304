-- What is left of the arguments, and the test of those so far, say the whole.
use Rattle.refine_terms.proofs.Common.{ℕ, ◌≡◌, ◌↔◌, true, drop, flat_map, IsCodeOfArgs, IsTerm, Keeps, bit_at, arg_numbers}
use Rattle.refine_terms.proofs.args.args_code.Given as goal

abbrev pub invariant-loop-i : goal.invariant-loop-i
invariant-loop-i l = record {
  kept : Keeps l.fn.terms l.terms;
  all : IsTerm l.terms 1 l.all;
  rest : (v : ℕ → ℕ → ℕ) → ((bit_at v l.terms l.all ≡ true) × IsCodeOfArgs l.layout (drop l.i l.parameters) (flat_map (arg_numbers v l.fn.terms) (drop l.i l.args)))
      ↔ IsCodeOfArgs l.layout l.parameters (flat_map (arg_numbers v l.fn.terms) l.args);
}
