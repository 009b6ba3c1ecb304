-- What a text says of its proof: all except the `front` of the clauses.
use Rattle.std.specs.Prelude.{ℕ, ◌≡◌, List}
use Rattle.std.specs.List.{AllZip}
use Rattle.proof_text.specs.declared.part.Part.{Part}
use Rattle.proof_text.specs.declared.part.Proof.{Proof}
use Rattle.proof_text.specs.Format.{IsProof}

-- one part is the other, except for `front`, which no text contains
pub record IsSameButFront (p q : Part) : Type 0 where
  pub name : p.name ≡ q.name
  pub is_correct : p.is_correct ≡ q.is_correct
  pub variables : p.cert.cnf.variables ≡ q.cert.cnf.variables
  pub clauses : p.cert.cnf.clauses ≡ q.cert.cnf.clauses
  pub log : p.cert.log ≡ q.cert.log

-- the same number of parts, and each the same in order, except for `front`
abbrev pub AreSameButFronts : List Part → List Part → Type 0
AreSameButFronts parts others = AllZip IsSameButFront parts others

-- the same head, and the same parts except for `front`
pub record IsSameProof (proof other : Proof) : Type 0 where
  pub head : proof.head ≡ other.head
  pub parts : AreSameButFronts proof.parts other.parts

-- a text has at most one head, and one list of parts except for `front`
abbrev pub ProofsAreOne : Type 0
ProofsAreOne = (text : List ℕ) (proof other : Proof)
    → IsProof text proof → IsProof text other → IsSameProof proof other
