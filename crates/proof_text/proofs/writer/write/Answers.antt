use Rattle.proof_text.proofs.Common.{[], subst, IsProof, proof_with}
use Rattle.proof_text.proofs.writer.write.Goals as goal

pub returns : goal.returns
returns c =
    let head = c.args.proof.now.head in
    subst (λ ps. IsProof c.push_parts.new.text.items (proof_with head ps)) c.as_slice-parts.ensures (c.in_ok-push_parts.ensures (proof_with head []) c.in_ok-out.ensures)
