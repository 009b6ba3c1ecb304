-- The clauses so far say what the gates of the variables so far do.
use Rattle.gates.proofs.Common.{ℕ, ◌≡◌, ◌↔◌, Bool, true, length, AreWithin, clauses_true, AreFacts}
use Rattle.gates.proofs.encoding.body_of.Given as goal

abbrev pub invariant-loop-place : goal.invariant-loop-place
invariant-loop-place l = AreWithin (length l.gate_of) l.clauses.items × ((v : ℕ → Bool) → (clauses_true v l.clauses.items ≡ true) ↔ AreFacts v l.number l.gates l.gate_of l.place-index)
