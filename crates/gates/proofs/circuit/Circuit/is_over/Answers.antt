-- An and gate is 0 where an operand is.
use Rattle.gates.proofs.Common.{◌∙◌, inl, inr, sym, And, Zero}
use Rattle.gates.proofs.Stages.{stored_at}
use Rattle.gates.proofs.Folding.{over-value, same_gate}
use Rattle.gates.proofs.circuit.Circuit.is_over.Goals as goal

pub returns-then-eq : goal.returns-then-eq
returns-then-eq c =
    let at = stored_at c.args.self.now c.args.b.index Zero (And c.in-And.first c.in-And.second) c.requires (rw c.as_slice.ensures.value at c.in-And.is) in
    λ is v off. over-value v c.args.self.now c.args.a c.args.b c.in-And.first c.in-And.second c.as_slice.ensures.fit at
    (inl (same_gate c.in-And.first c.args.a (sym c.eq.ensures ∙ is))) off

pub returns-else-eq : goal.returns-else-eq
returns-else-eq c =
    let at = stored_at c.args.self.now c.args.b.index Zero (And c.in-And.first c.in-And.second) c.requires (rw c.as_slice.ensures.value at c.in-And.is) in
    λ is v off. over-value v c.args.self.now c.args.a c.args.b c.in-And.first c.in-And.second c.as_slice.ensures.fit at
    (inr (same_gate c.in-And.second c.args.a (sym c.eq-else-eq.ensures ∙ is))) off
