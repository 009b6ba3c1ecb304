use Rattle.gate_arith.proofs.Common.{◌++◌, ap, ◌∙◌}
use Rattle.gate_arith.proofs.Pieces.{joined-writes}
use Rattle.gate_arith.proofs.parts.joined.Goals as goal

pub returns : goal.returns
returns c = λ gates inh inl. joined-writes gates c.args.high.now c.args.low.now c.extend_from_slice.new.self.items
    (c.in_ok-extend_from_slice.ensures.items ∙ ap (λ xs. xs ++ c.args.low.now) c.in_ok-digits.ensures.items) inh inl
