-- The text of a proof file: in format 2 the bounds and the budget of a report, and in both formats for each part its
-- clauses, as in the DIMACS CNF format, and the steps of a log.
use Rattle.std.specs.Prelude.{ℕ, ◌≡◌, ◌<◌, ◌≤◌, ◌^◌, ◌⊎◌, Bool, true, cond, All, List, [], ◌∷◌, ◌++◌, length, map, codes, slice_get, Option, Some, None, IfSome}
use Rattle.std.specs.Fmt.{decimal}
use Rattle.std.specs.List.{flat_map}
use Rattle.clause_lits.specs.declared.lit.Lit.{Lit}
use Rattle.clause_lits.specs.Meaning.{IsClause}
use Rattle.clause_log.specs.declared.step.Cert.{Cert}
use Rattle.clause_log.specs.declared.step.Step.{Step}
use Rattle.ir_tree.specs.declared.name.Name.TheVariants.{Word}
use Rattle.ir_naming.specs.Naming.{is_digit, name_text}
use Rattle.proof_text.specs.declared.part.Head.{Head}
use Rattle.proof_text.specs.declared.part.Part.{Part}
use Rattle.proof_text.specs.declared.part.Proof.{Proof}

-- ---- lines

abbrev pub spaced : List ℕ → List ℕ
spaced text = text ++ codes " "

-- a variable, after a minus where the literal is negative
abbrev pub literal_text : Lit → List ℕ
literal_text l = cond l.positive (decimal l.variable) (codes "-" ++ decimal l.variable)

-- the literals, each with a space after it, and 0
abbrev pub clause_line : List Lit → List ℕ
clause_line c = flat_map (λ l. spaced (literal_text l)) c ++ codes "0"

-- the numbers of the chain, each with a space after it, 0, and after a space the clause
abbrev pub step_line : Step → List ℕ
step_line s = flat_map (λ n. spaced (decimal n)) s.chain ++ codes "0 " ++ clause_line s.clause

abbrev pub status_text : Bool → List ℕ
status_text is_correct = cond is_correct (codes " correct") (codes " incorrect")

abbrev pub row_line : List ℕ → Bool → List ℕ
row_line name is_correct = codes "row @" ++ name ++ status_text is_correct

abbrev pub counts_line : ℕ → ℕ → List ℕ
counts_line variables clauses = codes "p cnf " ++ decimal variables ++ codes " " ++ decimal clauses

abbrev pub log_line : ℕ → List ℕ
log_line steps = codes "log " ++ decimal steps

-- each number of a head after its name
abbrev pub head_line : Head → List ℕ
head_line h = codes "turns " ++ decimal h.turns ++ codes " blocks " ++ decimal h.blocks ++ codes " bytes " ++ decimal h.bytes
    ++ codes " rounds " ++ decimal h.rounds ++ codes " conflicts " ++ decimal h.conflicts ++ codes " weight " ++ decimal h.weight

-- the lines before the first part: the number of the format, and in format 2 the head
abbrev pub head_lines : Option Head → List (List ℕ)
head_lines None = codes "tvproof 1" ∷ []
head_lines (Some h) = codes "tvproof 2" ∷ head_line h ∷ []

-- ---- parts

-- the part of a row of this name
abbrev pub part_of : List ℕ → Bool → Cert → Part
part_of name is_correct cert = record { name = name; is_correct = is_correct; cert = cert }

abbrev pub cert_lines : Cert → List (List ℕ)
cert_lines cert = counts_line cert.cnf.variables (length cert.cnf.clauses)
    ∷ map clause_line cert.cnf.clauses
    ++ log_line (length cert.log)
    ∷ map step_line cert.log

abbrev pub part_lines : Part → List (List ℕ)
part_lines p = row_line p.name p.is_correct ∷ cert_lines p.cert

abbrev pub proof_with : Option Head → List Part → Proof
proof_with head parts = record { head = head; parts = parts }

-- a proof and more parts
abbrev pub with_parts : Proof → List Part → Proof
with_parts proof more = proof_with proof.head (proof.parts ++ more)

abbrev pub proof_lines : Proof → List (List ℕ)
proof_lines proof = head_lines proof.head ++ flat_map part_lines proof.parts

-- each line ends with a newline
abbrev pub ended : List (List ℕ) → List ℕ
ended lines = flat_map (λ line. line ++ 10 ∷ []) lines

abbrev pub proof_text : Proof → List ℕ
proof_text proof = ended (proof_lines proof)

-- ---- what has a text

-- a number that the format has room for
abbrev pub IsSmall : ℕ → Type 0
IsSmall n = n < 2 ^ 62

-- a word as a report prints it, with or without quotes
abbrev pub IsPrintedWord : List ℕ → Type 0
IsPrintedWord text = (bytes : List ℕ) × All (λ b. b < 256) bytes × (text ≡ name_text (Word bytes))

-- digits without a leading zero
abbrev pub IsPrintedNumber : List ℕ → Type 0
IsPrintedNumber text = (0 < length text) × All (λ b. is_digit b ≡ true) text × (slice_get text 0 ≡ Some 48 → length text ≡ 1)

-- a function's name as a report prints it
abbrev pub IsPrintedName : List ℕ → Type 0
IsPrintedName text = IsPrintedNumber text ⊎ IsPrintedWord text

-- a clause over the variables 1 to `variables`
abbrev pub IsClauseOver : ℕ → List Lit → Type 0
IsClauseOver variables c = IsClause c × All (λ l. l.variable ≤ variables) c

-- the numbers of a chain are positive
pub record IsStepOver (variables : ℕ) (s : Step) : Type 0 where
  pub chain : All (λ n. (0 < n) × IsSmall n) s.chain
  pub clause : IsClauseOver variables s.clause

pub record IsPart (p : Part) : Type 0 where
  pub name : IsPrintedName p.name
  pub variables : IsSmall p.cert.cnf.variables
  pub clause_count : IsSmall (length p.cert.cnf.clauses)
  pub step_count : IsSmall (length p.cert.log)
  pub clauses : All (IsClauseOver p.cert.cnf.variables) p.cert.cnf.clauses
  pub steps : All (IsStepOver p.cert.cnf.variables) p.cert.log

pub record IsHead (h : Head) : Type 0 where
  pub turns : h.turns < 2 ^ 63
  pub blocks : h.blocks < 2 ^ 63
  pub bytes : h.bytes < 2 ^ 63
  pub rounds : h.rounds < 2 ^ 63
  pub conflicts : h.conflicts < 2 ^ 63
  pub weight : h.weight < 2 ^ 63

-- the head, where there is one, and all parts can be written
pub record IsSpellable (proof : Proof) : Type 0 where
  pub head : IfSome proof.head IsHead
  pub parts : All IsPart proof.parts

-- the text is that of this proof
pub record IsProof (text : List ℕ) (proof : Proof) : Type 0 where
  pub fit : IsSpellable proof
  pub is : text ≡ proof_text proof
