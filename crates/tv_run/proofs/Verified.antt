-- The proof file that a check put is verified whole.
use Rattle.tv_run.proofs.Common.{ℕ, ◌≡◌, List, Some, subst, IsWritten, IsProof, proof_with, head_of, parts_of, PutProofsAreVerified}
use Rattle.proof_files.specs.Laws.{TextsAreVerified}
use Rattle.tv_run.proofs.Files.{same_text}

pub put_proofs_are_verified : TextsAreVerified → PutProofsAreVerified
put_proofs_are_verified texts files name bounds budget rows answers status old new put log =
    let read = log.says.proof_is in
    let same : read.text ≡ put.0 = same_text (files name) read.text put.0 read.there put.1 in
    let proof : IsProof put.0 log.says.proof = subst (λ (t : List ℕ). IsProof t log.says.proof) same read.holds.1 in
    let whole = texts put.0 (proof_with (Some (head_of bounds budget)) (parts_of rows answers)) log.says.proof log.text status put.2.parts put.2.refute proof log.says.checked in
    record { status_is = whole.status_is; written = subst (λ (t : List ℕ). IsWritten t old new) whole.lines_are log.written }
