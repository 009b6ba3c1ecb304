-- The first line of a text that no proof file has there.
use Rattle.std.specs.Prelude.{ℕ, ◌≡◌, ◌≢◌, ◌+◌, ◌⊎◌, Contains, List, [], ◌∷◌, ◌++◌, length}
use Rattle.proof_text.specs.declared.part.Proof.{Proof}
use Rattle.proof_text.specs.declared.part.ProofFault.{ProofFault}
use Rattle.proof_text.specs.declared.part.ProofFault.TheVariants.{NoMemory, Line}
use Rattle.proof_text.specs.Format.{IsProof, IsSpellable, ended, proof_lines}

-- some proof file begins with these lines
abbrev pub Begin : List (List ℕ) → Type 0
Begin lines = (proof : Proof) × (rest : List (List ℕ)) × IsSpellable proof × (proof_lines proof ≡ lines ++ rest)

-- the text goes on with a line after which no proof file goes on
abbrev pub IsWrongLine : List (List ℕ) → List ℕ → Type 0
IsWrongLine taken rest = (line : List ℕ) × (more : List ℕ) × (Contains line 10 → ⊥) × (rest ≡ line ++ 10 ∷ more) × (Begin (taken ++ line ∷ []) → ⊥)

-- the text ends within a line, or where a proof file doesn't
abbrev pub IsCutShort : List (List ℕ) → List ℕ → Type 0
IsCutShort taken rest = (Contains rest 10 → ⊥) × ((rest ≢ []) ⊎ ((proof : Proof) → IsSpellable proof → proof_lines proof ≢ taken))

-- lines are counted from 1
pub record IsFirstFault (text : List ℕ) (number : ℕ) : Type 0 where
  pub taken : List (List ℕ)
  pub rest : List ℕ
  pub is : text ≡ ended taken ++ rest
  pub number_is : number ≡ length taken + 1
  pub begin : Begin taken
  pub fault : IsWrongLine taken rest ⊎ IsCutShort taken rest

abbrev pub IsFaultOf : List ℕ → ProofFault → Type 0
IsFaultOf text NoMemory = Unit {0}
IsFaultOf text (Line number) = IsFirstFault text number × ((proof : Proof) → IsProof text proof → ⊥)
