-- What the check of a proof file says of its parts.
use Rattle.std.specs.Prelude.{ℕ, ◌≡◌, List, [], ◌∷◌, ◌++◌, codes, count_by, Option, Some, None, is_none, is_some, nat_eq, if◌then◌else◌}
use Rattle.std.specs.Fmt.{decimal}
use Rattle.std.specs.List.{AllZip}
use Rattle.clause_log.specs.Refutation.{Refutes, IsFirstBad}
use Rattle.proof_text.specs.declared.part.Part.{Part}
use Rattle.proof_text.specs.Format.{status_text}

-- the log refutes its clauses, or has a first bad step
abbrev pub IsBadStep : Part → Option ℕ → Type 0
IsBadStep p None = Refutes p.cert.cnf.clauses p.cert.log
IsBadStep p (Some index) = IsFirstBad p.cert.cnf.clauses p.cert.log index

abbrev pub outcome_text : Option ℕ → List ℕ
outcome_text None = codes " verified"
outcome_text (Some index) = codes " bad step " ++ decimal index

-- the line of a part
abbrev pub outcome_line : Part → Option ℕ → List ℕ
outcome_line p bad = codes "@" ++ p.name ++ status_text p.is_correct ++ outcome_text bad ++ 10 ∷ []

-- a line for each part
abbrev pub outcome_lines : List Part → List (Option ℕ) → List ℕ
outcome_lines (p ∷ parts) (bad ∷ others) = outcome_line p bad ++ outcome_lines parts others
outcome_lines _ _ = []

abbrev pub verified_count : List (Option ℕ) → ℕ
verified_count found = count_by (λ bad. is_none bad) found

abbrev pub bad_count : List (Option ℕ) → ℕ
bad_count found = count_by (λ bad. is_some bad) found

-- the last line
abbrev pub counts_line : ℕ → ℕ → List ℕ
counts_line verified bad = codes "verified " ++ decimal verified ++ codes " bad " ++ decimal bad ++ 10 ∷ []

-- each part is verified exactly where its log refutes its clauses, and its first bad step is named where it does not; the status is 1 where some part is bad, else 0
pub record AreChecked (parts : List Part) (text : List ℕ) (status : ℕ) : Type 0 where
  pub found : List (Option ℕ)
  pub each : AllZip IsBadStep parts found
  pub text_is : text ≡ outcome_lines parts found ++ counts_line (verified_count found) (bad_count found)
  pub status_is : status ≡ (if nat_eq (bad_count found) 0 then 0 else 1)
