-- The arguments so far are those of the first values.
use Rattle.pair_questions.proofs.Common.{ℕ, ◌≡◌, take, Layout, ArgsFit, Keeps, reading, AreArgs, args_at}
use Rattle.pair_questions.proofs.known.known_args.Given as goal

abbrev pub invariant-loop-i : goal.invariant-loop-i
invariant-loop-i l = record {
  kept : Keeps l.fn.terms l.terms;
  are : AreArgs l.terms (take l.i l.parameters) l.known.items;
  stands : (layout : Layout) (v : ℕ → ℕ → ℕ) → ArgsFit layout l.parameters l.args → args_at (reading layout.blocks v) l.terms l.known.items ≡ take l.i l.args;
}
