use Rattle.proof_text.proofs.Common.{take, Proof, IsProof, with_parts}
use Rattle.proof_text.proofs.writer.push_parts.Given as goal

abbrev pub invariant-loop-part : goal.invariant-loop-part
invariant-loop-part l = (proof : Proof) → IsProof l.fn.text.items proof → IsProof l.text.items (with_parts proof (take l.part-index l.parts))
