use Rattle.proof_text.proofs.Common.{◌≡◌, ◌++◌, take, decimal, flat_map, spaced}
use Rattle.proof_text.proofs.writer.push_chain.Given as goal

abbrev pub invariant-loop-number : goal.invariant-loop-number
invariant-loop-number l = l.out.items ≡ l.fn.out.items ++ flat_map (λ n. spaced (decimal n)) (take l.number-index l.chain)
