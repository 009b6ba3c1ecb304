-- What follows from the definitions: a proof whose logs refute their clauses is verified, and so is its text.
use Rattle.std.specs.Prelude.{ℕ, ◌≡◌, ◌++◌, All, List, None, length}
use Rattle.std.specs.List.{flat_map}
use Rattle.clause_log.specs.Refutation.{Refutes}
use Rattle.proof_text.specs.declared.part.Part.{Part}
use Rattle.proof_text.specs.declared.part.Proof.{Proof}
use Rattle.proof_text.specs.Format.{IsProof}
use Rattle.proof_files.specs.Checks.{AreChecked, counts_line, outcome_line}

-- the log of each part refutes its clauses
abbrev pub AllRefute : List Part → Type 0
AllRefute parts = All (λ p. Refutes p.cert.cnf.clauses p.cert.log) parts

-- a line `verified` for each part, and the count of none that is bad
abbrev pub verified_lines : List Part → List ℕ
verified_lines parts = flat_map (λ p. outcome_line p None) parts ++ counts_line (length parts) 0

-- these lines say that each part is verified, and the status is 0
pub record AreVerified (parts : List Part) (lines : List ℕ) (status : ℕ) : Type 0 where
  pub lines_are : lines ≡ verified_lines parts
  pub status_is : status ≡ 0

-- a check of a proof whose parts refute says that each is verified
abbrev pub ProofsAreVerified : Type 0
ProofsAreVerified = (proof : Proof) (lines : List ℕ) (status : ℕ)
    → AllRefute proof.parts → AreChecked proof.parts lines status → AreVerified proof.parts lines status

-- and so does a check of whatever proof is read of its text
abbrev pub TextsAreVerified : Type 0
TextsAreVerified = (text : List ℕ) (proof other : Proof) (lines : List ℕ) (status : ℕ)
    → IsProof text proof → AllRefute proof.parts → IsProof text other → AreChecked other.parts lines status → AreVerified proof.parts lines status
