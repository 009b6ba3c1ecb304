use Rattle.ir_check.proofs.Common.{◌≡◌, ◌<◌, ℕ, length, HasWrongEdge}
use Rattle.ir_check.proofs.edges.first_wrong.Given as goal

abbrev pub invariant-loop-n : goal.invariant-loop-n
invariant-loop-n l = record {
  marks : length l.marks ≡ length l.f.names;
  none : (k : ℕ) → k < l.n → HasWrongEdge l.f k → ⊥;
}
