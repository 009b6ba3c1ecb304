use Rattle.proof_text.proofs.Common.{◌≡◌, ◌++◌, take, flat_map, literal_text, spaced}
use Rattle.proof_text.proofs.writer.push_literals.Given as goal

abbrev pub invariant-loop-literal : goal.invariant-loop-literal
invariant-loop-literal l = l.out.items ≡ l.fn.out.items ++ flat_map (λ l. spaced (literal_text l)) (take l.literal-index l.literals)
