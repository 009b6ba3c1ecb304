use Rattle.proof_text.proofs.Common.{length}
use Rattle.proof_text.proofs.Chains.{ChainRead}
use Rattle.proof_text.proofs.words.chain_in.Given as goal

abbrev pub invariant-loop-word : goal.invariant-loop-word
invariant-loop-word l = ChainRead l.line l.chain.items l.rest

abbrev pub decreases-loop-word : goal.decreases-loop-word
decreases-loop-word l = length l.rest
