-- Broken so far, or by what is left.
use Rattle.encoder.proofs.Common.{◌≡◌, ◌||◌, length, breaks_noundef, IsTerm, Keeps, bit_at, IsNaming, Reading, AreArgs, args_at}
use Rattle.encoder.proofs.beginning.breaks_no_undef.Given as goal

abbrev pub invariant-loop-parameters : goal.invariant-loop-parameters
invariant-loop-parameters l = record {
  kept : Keeps l.fn.terms l.terms;
  made : IsTerm l.terms 1 l.broken;
  fit : AreArgs l.terms l.parameters l.args;
  tests : (r : Reading) → IsNaming r.name → (bit_at r.v l.terms l.broken || breaks_noundef l.parameters (args_at r l.terms l.args)) ≡ breaks_noundef l.fn.parameters (args_at r l.fn.terms l.fn.args);
}

abbrev pub decreases-loop-parameters : goal.decreases-loop-parameters
decreases-loop-parameters l = length l.parameters
