-- What is left of the copies takes where the run is to where all of them take it.
use Rattle.encoder.proofs.Common.{◌≡◌, ◌≤◌, drop, length, Some, Where, walk, Keeps, Scene, Sees, IsFrontier, HasShape, MatchesFrontier, placed}
use Rattle.encoder.proofs.passing.pass_all.Given as goal

abbrev pub invariant-loop-number : goal.invariant-loop-number
invariant-loop-number l = record {
  kept : Keeps l.fn.terms l.terms;
  within : l.number ≤ length l.setting.copies.now;
  frontier : IsFrontier l.terms l.frontier;
  shape : HasShape l.setting l.frontier;
  matches : (g : Scene) (w : Where) → Sees g l.fn.terms l.setting.tape.now → MatchesFrontier g l.fn.terms l.fn.frontier (Some (placed l.setting.f.now l.setting.copies.now 0 w))
      → (x : Where) × (walk l.setting.f.now l.number (drop l.number l.setting.copies.now) g.tape x ≡ walk l.setting.f.now 0 l.setting.copies.now g.tape w) × MatchesFrontier g l.terms l.frontier (Some (placed l.setting.f.now l.setting.copies.now l.number x));
}
