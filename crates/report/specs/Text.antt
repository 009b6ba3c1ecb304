-- The text of a report: a first line, the rows with their counterexamples, and a last line of counts.
use Rattle.std.specs.Prelude.{ℕ, Bool, true, false, ◌+◌, List, [], ◌∷◌, ◌++◌, take, Option, None, Some, codes, nat_eq, nat_lt, if◌then◌else◌}
use Rattle.std.specs.Fmt.{decimal}
use Rattle.std.specs.List.{flat_map}
use Rattle.ir_tree.specs.declared.module.Reason.{Reason}
use Rattle.ir_tree.specs.declared.module.Reason.TheVariants as reason
use Rattle.ir_tree.specs.declared.module.Refused.{Refused}
use Rattle.byte_block.specs.declared.value.BlockName.{BlockName}
use Rattle.byte_block.specs.declared.value.BlockName.TheVariants.{Null, Given, Local}
use Rattle.byte_block.specs.declared.value.Ptr.{Ptr}
use Rattle.byte_block.specs.declared.value.Value.{Value}
use Rattle.byte_block.specs.declared.value.Value.TheVariants as value
use Rattle.byte_block.specs.declared.value.Byte.{Byte}
use Rattle.byte_block.specs.declared.value.Byte.TheVariants as byte
use Rattle.byte_block.specs.declared.block.MemoryBlock.{MemoryBlock}
use Rattle.points.specs.declared.outcome.Outcome.{Outcome}
use Rattle.points.specs.declared.outcome.Outcome.TheVariants.{Return, Ub, Beyond}
use Rattle.points.specs.declared.point.Bounds.{Bounds}
use Rattle.points.specs.declared.point.Budget.{Budget}
use Rattle.points.specs.declared.point.Point.{Point}
use Rattle.verdicts.specs.declared.verdict.Cause.{Cause}
use Rattle.verdicts.specs.declared.verdict.Cause.TheVariants.{Weight, Rounds, Conflicts}
use Rattle.verdicts.specs.declared.verdict.Shown.{Shown}
use Rattle.report.specs.declared.row.Side.{Side}
use Rattle.report.specs.declared.row.Side.TheVariants as side
use Rattle.report.specs.declared.row.Finding.{Finding}
use Rattle.report.specs.declared.row.Finding.TheVariants as finding
use Rattle.report.specs.declared.row.Row.{Row}
use Rattle.ir_naming.specs.Naming.{hex_byte, name_text}
use Rattle.report.specs.declared.status.Class.TheVariants as class
use Rattle.report.specs.Status.{count}

abbrev pub newline : List ℕ
newline = 10 ∷ []

-- ---- values and bytes

abbrev pub given_text : ℕ → ℕ → List ℕ
given_text number offset = codes "given" ++ decimal number ++ codes "+" ++ decimal offset

-- a block of the run's own is dead when its outcome is shown
abbrev pub address_text : BlockName → ℕ → List ℕ
address_text Null offset = codes "null+" ++ decimal offset
address_text (Given number) offset = given_text number offset
address_text (Local turn place) offset = codes "dead"

abbrev pub pointer_text : Ptr → List ℕ
pointer_text p = address_text p.block p.offset

abbrev pub value_text : Value → List ℕ
value_text (value.Num n) = decimal n
value_text value.Poison = codes "poison"
value_text (value.Ptr p) = pointer_text p

-- two digits, `--` where all bits are poison, and where some are the two digits of those after a tilde
abbrev pub bits_text : (number mask : ℕ) → List ℕ
bits_text number mask = if nat_eq mask 0 then hex_byte 97 number else if nat_eq mask 255 then codes "--" else hex_byte 97 number ++ codes "~" ++ hex_byte 97 mask

-- bits, or a pointer and which part of it
abbrev pub byte_text : Byte → List ℕ
byte_text (byte.Bits number mask) = bits_text number mask
byte_text (byte.Part p place) = pointer_text p ++ codes "/" ++ decimal place

-- a byte after a space
abbrev pub spaced_byte : Byte → List ℕ
spaced_byte b = codes " " ++ byte_text b

-- ---- lines

-- a label, a number, ` = `, what is shown, and the line's end
abbrev pub numbered_line : List ℕ → ℕ → List ℕ → List ℕ
numbered_line label number shown = label ++ decimal number ++ codes " = " ++ shown ++ newline

-- a line for each argument, numbered from this index on
abbrev pub arg_lines : ℕ → List Value → List ℕ
arg_lines place [] = []
arg_lines place (arg ∷ args) = numbered_line (codes "  arg ") place (value_text arg) ++ arg_lines (place + 1) args

-- a line for each choice, numbered from this index on
abbrev pub choice_lines : ℕ → List ℕ → List ℕ
choice_lines place [] = []
choice_lines place (word ∷ words) = numbered_line (codes "  choice ") place (decimal word) ++ choice_lines (place + 1) words

-- the bytes of a block that has some
abbrev pub bytes_line : List ℕ → ℕ → List Byte → List ℕ
bytes_line label number bytes = label ++ decimal number ++ codes " =" ++ flat_map spaced_byte bytes ++ newline

-- a line for a given block whose size isn't 0
abbrev pub contents_line : List ℕ → BlockName → ℕ → List Byte → List ℕ
contents_line label Null size places = []
contents_line label (Given number) size places = if nat_lt 0 size then bytes_line label number (take size places) else []
contents_line label (Local turn place) size places = []

abbrev pub block_line : List ℕ → MemoryBlock → List ℕ
block_line label block = contents_line label block.name block.size block.places

abbrev pub block_lines : List ℕ → List MemoryBlock → List ℕ
block_lines label blocks = flat_map (block_line label) blocks

abbrev pub returned_text : Option Value → List ℕ
returned_text None = codes "returns void"
returned_text (Some v) = codes "returns " ++ value_text v

-- a label and some words
abbrev pub sentence : List ℕ → List ℕ → List ℕ
sentence label words = label ++ words ++ newline

abbrev pub returned_lines : List ℕ → Option Value → List MemoryBlock → List ℕ
returned_lines label v blocks = sentence label (returned_text v) ++ block_lines (label ++ codes "block ") blocks

-- the outcome of a side, and what a return leaves in the given blocks
abbrev pub outcome_lines : List ℕ → Outcome → List ℕ
outcome_lines label Ub = sentence label (codes "ub")
outcome_lines label Beyond = sentence label (codes "beyond")
outcome_lines label (Return v blocks) = returned_lines label v blocks

-- the point: arguments, given blocks, and the choices that the target read
abbrev pub point_lines : Point → ℕ → List ℕ
point_lines point read = arg_lines 0 point.input.args ++ block_lines (codes "  block ") point.input.blocks ++ choice_lines 0 (take read point.tape)

-- then what each side does there
abbrev pub shown_lines : Point → Shown → List ℕ
shown_lines point shown = point_lines point shown.read ++ outcome_lines (codes "  source ") shown.source ++ outcome_lines (codes "  target ") shown.target

-- ---- rows

abbrev pub cause_text : Cause → List ℕ
cause_text Weight = codes "weight"
cause_text Rounds = codes "rounds"
cause_text Conflicts = codes "conflicts"

abbrev pub side_text : Side → List ℕ
side_text side.Source = codes "source"
side_text side.Target = codes "target"

abbrev pub reason_text : Reason → List ℕ
reason_text reason.Syntax = codes "Syntax"
reason_text reason.Unsupported = codes "Unsupported"
reason_text reason.Limit = codes "Limit"
reason_text reason.NameTwice = codes "NameTwice"
reason_text reason.NameUnknown = codes "NameUnknown"
reason_text reason.TypeClash = codes "TypeClash"
reason_text reason.PhiEdges = codes "PhiEdges"
reason_text reason.Unassigned = codes "Unassigned"
reason_text reason.UndefUse = codes "UndefUse"

-- the reason, and line and column of its position
abbrev pub refused_text : Refused → List ℕ
refused_text refused = reason_text refused.reason ++ codes " " ++ decimal refused.line ++ codes ":" ++ decimal refused.column

-- what follows the name, up to the end of the row
abbrev pub finding_text : Finding → List ℕ
finding_text finding.Correct = codes " correct" ++ newline
finding_text (finding.Incorrect point shown) = codes " incorrect" ++ newline ++ shown_lines point shown
finding_text (finding.Unknown cause) = codes " unknown " ++ cause_text cause ++ newline
finding_text (finding.Refused side refused) = codes " refused " ++ side_text side ++ codes " " ++ refused_text refused ++ newline
finding_text finding.Signature = codes " signature" ++ newline
finding_text finding.Missing = codes " missing" ++ newline
finding_text finding.Extra = codes " extra" ++ newline

abbrev pub row_text : Row → List ℕ
row_text row = codes "@" ++ name_text row.name ++ finding_text row.finding

-- ---- the report

-- a label and a number
abbrev pub counted : List ℕ → ℕ → List ℕ
counted label n = label ++ decimal n

abbrev pub bounds_text : Bounds → List ℕ
bounds_text bounds = counted (codes "tv 2 turns ") bounds.turns ++ counted (codes " blocks ") bounds.blocks ++ counted (codes " bytes ") bounds.bytes

abbrev pub budget_text : Budget → List ℕ
budget_text budget = counted (codes " rounds ") budget.rounds ++ counted (codes " conflicts ") budget.conflicts ++ counted (codes " weight ") budget.weight

-- the word of a report that ends at its first incorrect row
abbrev pub first_word : Bool → List ℕ
first_word true = codes " first"
first_word false = []

abbrev pub first_line : Bounds → Budget → Bool → List ℕ
first_line bounds budget first = bounds_text bounds ++ budget_text budget ++ first_word first ++ newline

abbrev pub judged_counts : List Row → List ℕ
judged_counts rows = counted (codes "correct ") (count class.Correct rows) ++ counted (codes " incorrect ") (count class.Incorrect rows) ++ counted (codes " unknown ") (count class.Unknown rows)

abbrev pub other_counts : List Row → List ℕ
other_counts rows = counted (codes " refused ") (count class.Refused rows) ++ counted (codes " signature ") (count class.Signature rows) ++ counted (codes " missing ") (count class.Missing rows) ++ counted (codes " extra ") (count class.Extra rows)

abbrev pub last_line : List Row → List ℕ
last_line rows = judged_counts rows ++ other_counts rows ++ newline

abbrev pub report_text : Bounds → Budget → Bool → List Row → List ℕ
report_text bounds budget first rows = first_line bounds budget first ++ flat_map row_text rows ++ last_line rows

-- only the first and the last line of a report of all rows, with these bytes between them
abbrev pub summary_text : Bounds → Budget → List ℕ → List Row → List ℕ
summary_text bounds budget between rows = first_line bounds budget false ++ between ++ last_line rows
