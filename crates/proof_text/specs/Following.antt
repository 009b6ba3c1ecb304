-- The lines that may follow at the position of a reader of a proof file.
use Rattle.std.specs.Prelude.{ℕ, ◌≡◌, ◌≢◌, ◌⊎◌, ◌↔◌, Bool, true, false, cond, codes, All, Contains, List, [], ◌∷◌, ◌++◌, length, map, Option, Some, None}
use Rattle.std.specs.List.{flat_map}
use Rattle.clause_lits.specs.declared.lit.Lit.{Lit}
use Rattle.clause_log.specs.declared.step.Step.{Step}
use Rattle.proof_text.specs.declared.part.Head.{Head}
use Rattle.proof_text.specs.declared.part.Part.{Part}
use Rattle.proof_text.specs.declared.part.Proof.{Proof}
use Rattle.proof_text.specs.declared.part.Stop.{Stop}
use Rattle.proof_text.specs.declared.part.Stop.TheVariants.{NoMemory, At}
use Rattle.proof_text.specs.declared.reader.Row.{Row}
use Rattle.proof_text.specs.Format.{IsClauseOver, IsHead, IsPart, IsPrintedName, IsSmall, IsSpellable, IsStepOver, clause_line, counts_line, ended, head_line, log_line, part_lines, proof_lines, row_line, step_line}
use Rattle.proof_text.specs.Words.{Parts}

abbrev pub Lines : Type 0
Lines = List (List ℕ)

-- further parts
abbrev pub Rows : Lines → Type 0
Rows lines = (parts : List Part) × All IsPart parts × (lines ≡ flat_map part_lines parts)

-- n steps, and further parts
abbrev pub Steps : ℕ → ℕ → Lines → Type 0
Steps variables n lines = (log : List Step) × (rest : Lines) × (length log ≡ n) × All (IsStepOver variables) log × (lines ≡ map step_line log ++ rest) × Rows rest

-- the number of steps, and these
abbrev pub Log : ℕ → Lines → Type 0
Log variables lines = (n : ℕ) × (rest : Lines) × IsSmall n × (lines ≡ log_line n ∷ rest) × Steps variables n rest

-- n clauses, and the log
abbrev pub Clauses : ℕ → ℕ → Lines → Type 0
Clauses variables n lines = (cs : List (List Lit)) × (rest : Lines) × (length cs ≡ n) × All (IsClauseOver variables) cs × (lines ≡ map clause_line cs ++ rest) × Log variables rest

-- the numbers of variables and of clauses, and these
abbrev pub Counts : Lines → Type 0
Counts lines = (variables : ℕ) × (n : ℕ) × (rest : Lines) × IsSmall variables × IsSmall n × (lines ≡ counts_line variables n ∷ rest) × Clauses variables n rest

-- a head, and parts
abbrev pub Limits : Lines → Type 0
Limits lines = (h : Head) × (rest : Lines) × IsHead h × (lines ≡ head_line h ∷ rest) × Rows rest

-- the number of a format, and what follows it
abbrev pub first_line : Bool → List ℕ
first_line has_head = cond has_head (codes "tvproof 2") (codes "tvproof 1")

abbrev pub Rest : Bool → Lines → Type 0
Rest true lines = Limits lines
Rest false lines = Rows lines

-- a whole file
abbrev pub File : Lines → Type 0
File lines = (proof : Proof) × IsSpellable proof × (lines ≡ proof_lines proof)

-- ---- reading

-- after these lines, what may follow is what `then` says
abbrev pub Leads : (Lines → Type 0) → Lines → (Lines → Type 0) → Type 0
Leads before taken then = (more : Lines) → before (taken ++ more) ↔ then more

-- of the text `old` these lines were read, and `new` is left
pub record Moves (before : Lines → Type 0) (old : List ℕ) (taken : Lines) (then : Lines → Type 0) (new : List ℕ) : Type 0 where
  pub is : old ≡ ended taken ++ new
  pub leads : Leads before taken then

-- the next line is one that can't follow, or there is none where a line has to
abbrev pub IsWrong : (Lines → Type 0) → Lines → List ℕ → Type 0
IsWrong before taken rest =
    ((line : List ℕ) × (after : List ℕ) × Parts 10 rest line after × ((more : Lines) → before (taken ++ line ∷ more) → ⊥))
    ⊎ ((Contains rest 10 → ⊥) × ((rest ≢ []) ⊎ (before taken → ⊥)))

-- the text is valid up to a line that is wrong, or isn't there
pub record IsStuck (before : Lines → Type 0) (text rest : List ℕ) : Type 0 where
  pub taken : Lines
  pub is : text ≡ ended taken ++ rest
  pub begin : (more : Lines) × before (taken ++ more)
  pub wrong : IsWrong before taken rest

-- reading stops at the line that begins the last `left` bytes of the text
abbrev pub IsStopped : (Lines → Type 0) → List ℕ → Stop → Type 0
IsStopped before text NoMemory = Unit {0}
IsStopped before text (At left) = (rest : List ℕ) × (length rest ≡ left) × IsStuck before text rest

-- the row of a line
abbrev pub IsRowRead : List ℕ → Option Row → Type 0
IsRowRead line (Some r) = IsPrintedName r.name × (line ≡ row_line r.name r.is_correct)
IsRowRead line None = (name : List ℕ) (is_correct : Bool) → IsPrintedName name → line ≡ row_line name is_correct → ⊥
