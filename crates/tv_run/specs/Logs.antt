-- What a check of a proof file writes.
use Rattle.std.specs.Prelude.{◌≡◌, ◌≤◌, ◌⊎◌, ℕ, List, [], Option}
use Rattle.tv_io.specs.Files.{Files}
use Rattle.tv_io.specs.State.{SinkState}
use Rattle.tv_io.specs.Taken.{IsWritten, IsCutOff}
use Rattle.proof_text.specs.declared.part.Part.{Part}
use Rattle.proof_text.specs.declared.part.Proof.{Proof}
use Rattle.proof_files.specs.Checks.{AreChecked}
use Rattle.proof_files.specs.Laws.{verified_lines}
use Rattle.tv_cli.specs.Words.{Text}
use Rattle.pair_driver.specs.declared.judged.Judged.{Judged}
use Rattle.tv_run.specs.Files.{HasProof, WhereKnown}

-- these lines say which parts of the proof file of this name are verified, and which step of each other is bad
pub record SaysVerified (files : Files) (name : Text) (text : List ℕ) (status : ℕ) : Type 0 where
  pub proof : Proof
  pub proof_is : HasProof (files name) proof
  pub checked : AreChecked proof.parts text status

-- the sink took those lines, and nothing else
pub record LogWritten (files : Files) (name : Text) (status : ℕ) (old new : SinkState) : Type 0 where
  pub text : List ℕ
  pub says : SaysVerified files name text status
  pub written : IsWritten text old new

-- the sink took a line `verified` for each of these parts, and the count of none that is bad, and the status is 0
pub record IsVerifiedWhole (parts : List Part) (status : ℕ) (old new : SinkState) : Type 0 where
  pub status_is : status ≡ 0
  pub written : IsWritten (verified_lines parts) old new

-- the sink had no room for them, and took a prefix
pub record LogPartlyWritten (files : Files) (name : Text) (old new : SinkState) : Type 0 where
  pub text : List ℕ
  pub status : ℕ
  pub says : SaysVerified files name text status
  pub cut_off : IsCutOff text old new

-- what `log` writes of the file of this name, by status; no pair is judged
pub record IsLogged (known : Option Files) (name : Text) (result : ℕ) (answers : List Judged)
    (old new : SinkState) : Type 0 where
  pub whole : result ≤ 3 → WhereKnown known (λ files. LogWritten files name result old new)
  pub part : result ≡ 7 → WhereKnown known (λ files. LogPartlyWritten files name old new)
  pub status : result ≤ 3 → result ≤ 1
  pub unjudged : (result ≤ 3) ⊎ (result ≡ 7) → answers ≡ []
