-- Which parts the proof file of a report has.
use Rattle.std.specs.Prelude.{◌<◌, ◌^◌, ◌+◌, List, [], ◌∷◌, ◌++◌, drop, length, Option, Some, None, Bool, true, false, if◌then◌else◌}
use Rattle.clause_log.specs.declared.step.Cert.{Cert}
use Rattle.clause_log.specs.Refutation.{Refutes}
use Rattle.ir_tree.specs.declared.name.Name.{Name}
use Rattle.ir_tree.specs.declared.name.Name.TheVariants as name
use Rattle.pair_driver.specs.declared.judged.Judged.{Judged}
use Rattle.report.specs.declared.row.Finding.{Finding}
use Rattle.report.specs.declared.row.Finding.TheVariants as finding
use Rattle.report.specs.declared.row.Row.{Row}
use Rattle.ir_naming.specs.Naming.{name_text}
use Rattle.proof_text.specs.declared.part.Part.{Part}
use Rattle.proof_text.specs.Format.{IsPrintedNumber, part_of}

-- ---- the parts of a report

-- correct or incorrect: true for correct
abbrev pub decided : Finding → Option Bool
decided finding.Correct = Some true
decided (finding.Incorrect point shown) = Some false
decided _ = None

-- a finding of the judge, which answered it
abbrev pub is_answered : Finding → Bool
is_answered finding.Correct = true
is_answered (finding.Incorrect point shown) = true
is_answered (finding.Unknown cause) = true
is_answered _ = false

-- the part of a row with this certificate
abbrev pub certified : Name → Option Bool → Option Cert → List Part
certified n (Some is_correct) (Some cert) = part_of (name_text n) is_correct cert ∷ []
certified n _ _ = []

-- a correct or an incorrect row has a part, with the certificate of its answer, which is the first of these
abbrev pub row_parts : Row → List Judged → List Part
row_parts row [] = []
row_parts row (answer ∷ answers) = certified row.name (decided row.finding) answer.cert

-- the answers that are left for the rows after it
abbrev pub left_after : Finding → List Judged → List Judged
left_after found answers = if is_answered found then drop 1 answers else answers

-- the parts of these rows, in order
abbrev pub parts_of : List Row → List Judged → List Part
parts_of [] answers = []
parts_of (row ∷ rows) answers = row_parts row answers ++ parts_of rows (left_after row.finding answers)

-- ---- what can be written

-- a number has no leading zeros
abbrev pub IsReadName : Name → Type 0
IsReadName (name.Number digits) = IsPrintedNumber digits
IsReadName (name.Word bytes) = Unit {0}

-- the log refutes the clauses, and their numbers are small
pub record IsCertified (p : Part) : Type 0 where
  pub refutes : Refutes p.cert.cnf.clauses p.cert.log
  pub variables : p.cert.cnf.variables < 2 ^ 62
  pub clauses : length p.cert.cnf.clauses + length p.cert.log < 2 ^ 62
