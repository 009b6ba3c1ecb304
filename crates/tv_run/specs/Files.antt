-- What a file holds: a module, a proof file, a fault, or too many bytes.
use Rattle.std.specs.Prelude.{ℕ, ◌<◌, ◌≤◌, List, length, Option}
use Rattle.proof_text.specs.declared.part.Proof.{Proof}
use Rattle.proof_text.specs.declared.part.ProofFault.TheVariants as proof_fault
use Rattle.proof_text.specs.FirstFault.{IsFaultOf}
use Rattle.proof_text.specs.Format.{IsProof}
pub use Rattle.module_files.specs.Files.{text_limit, HasText, IsWithin, IsLonger, HasModule, HasFault, WhereKnown}

-- the most bytes of a proof file
abbrev pub proof_limit : ℕ
proof_limit = 268435456

-- ---- proof files

abbrev pub IsLongerProof : Option (List ℕ) → Type 0
IsLongerProof file = HasText file (λ text. proof_limit < length text)

-- the file is the proof file of this proof, within the limit
abbrev pub HasProof : Option (List ℕ) → Proof → Type 0
HasProof file proof = HasText file (λ text. (length text ≤ proof_limit) × IsProof text proof)

-- the file is no proof file, within the limit, and this is the first line that no proof file has there
abbrev pub HasWrongLine : Option (List ℕ) → ℕ → Type 0
HasWrongLine file line = HasText file (λ text. (length text ≤ proof_limit) × IsFaultOf text (proof_fault.Line line))
