-- The text of a counterexample's two runs: a line for each step, with what it read, which choices it took, what it gave
-- and why, and a line for how they differ.
use Rattle.std.specs.Prelude.{ℕ, ◌+◌, ◌-◌, ◌^◌, min, List, [], ◌∷◌, ◌++◌, length, Bool, true, false, ◌&&◌, nat_eq, nat_le, nat_lt, if◌then◌else◌, Option, Some, None, codes, slice_get}
use Rattle.std.specs.Fmt.{decimal, digits}
use Rattle.ir_tree.specs.declared.name.Name.{Name}
use Rattle.ir_tree.specs.declared.tree.IrType.{IrType}
use Rattle.ir_tree.specs.declared.tree.IrType.TheVariants as type
use Rattle.ir_tree.specs.declared.tree.Operand.{Operand}
use Rattle.ir_tree.specs.declared.tree.Operand.TheVariants as operand
use Rattle.ir_tree.specs.declared.tree.TypedOperand.{TypedOperand}
use Rattle.ir_tree.specs.declared.tree.Parameter.{Parameter}
use Rattle.ir_tree.specs.declared.tree.Phi.{Phi}
use Rattle.ir_tree.specs.declared.tree.Inst.{Inst}
use Rattle.ir_tree.specs.declared.tree.Inst.TheVariants as inst
use Rattle.ir_tree.specs.declared.tree.Block.{Block}
use Rattle.ir_tree.specs.declared.tree.Function.{Function}
use Rattle.ir_tree.specs.Types.{one_bit}
use Rattle.byte_block.specs.declared.value.BlockName.{BlockName}
use Rattle.byte_block.specs.declared.value.BlockName.TheVariants as block
use Rattle.byte_block.specs.declared.value.Ptr.{Ptr}
use Rattle.byte_block.specs.declared.value.Value.{Value}
use Rattle.byte_block.specs.declared.value.Value.TheVariants as value
use Rattle.byte_block.specs.declared.block.MemoryBlock.{MemoryBlock}
use Rattle.points.specs.declared.outcome.Outcome.{Outcome}
use Rattle.points.specs.declared.outcome.Outcome.TheVariants.{Return, Ub, Beyond}
use Rattle.verdicts.specs.Pair.{Functions, run_pair}
use Rattle.token_text.specs.Pieces.{piece_text, text_of}
use Rattle.ir_printer.specs.Pieces.{indented, label, local, name_in}
use Rattle.ir_printer.specs.Instructions.{inst_pieces, phi_pieces, terminator_pieces}
use Rattle.run_trace.specs.declared.steps.Site.{Site}
use Rattle.run_trace.specs.declared.steps.Site.TheVariants as site
use Rattle.run_trace.specs.declared.steps.Flag.{Flag}
use Rattle.run_trace.specs.declared.steps.Flag.TheVariants as flag
use Rattle.run_trace.specs.declared.steps.Reason.{Reason}
use Rattle.run_trace.specs.declared.steps.Reason.TheVariants as reason
use Rattle.run_trace.specs.declared.steps.Location.{Location}
use Rattle.run_trace.specs.declared.steps.Step.{Step}
use Rattle.run_trace.specs.declared.steps.Trace.{Trace}
use Rattle.run_trace.specs.Operands.{operands_of, end_operands}
use Rattle.pair_trace.specs.declared.traces.Traces.{Traces}
use Rattle.pair_trace.specs.declared.differences.Difference.{Difference}
use Rattle.pair_trace.specs.declared.differences.Difference.TheVariants as difference

abbrev pub newline : List ℕ
newline = 10 ∷ []

-- ---- values

-- what a number of these bits is in two's complement, where that is negative
abbrev pub negative_text : ℕ → ℕ → List ℕ
negative_text bits n = if nat_le (2 ^ (bits - 1)) n && nat_lt n (2 ^ bits) then codes "-" ++ decimal (2 ^ bits - n) ++ codes ", " else []

-- a number, and in brackets the same with its sign, if that is minus, and in hexadecimal
abbrev pub wide_text : ℕ → ℕ → List ℕ
wide_text bits n = decimal n ++ codes " (" ++ negative_text bits n ++ codes "0x" ++ digits 16 false n ++ codes ")"

abbrev pub number_text : IrType → ℕ → List ℕ
number_text (type.Int width) n = if nat_eq width.bits 1 then decimal n else wide_text width.bits n
number_text type.Ptr n = decimal n

-- after how many backward jumps a block was made, where some were taken
abbrev pub turn_text : ℕ → List ℕ
turn_text turn = if nat_eq turn 0 then [] else codes ".turn" ++ decimal turn

abbrev pub block_text : BlockName → List ℕ
block_text block.Null = codes "null"
block_text (block.Given number) = codes "given" ++ decimal number
block_text (block.Local turn number) = codes "local" ++ decimal number ++ turn_text turn

abbrev pub pointer_text : Ptr → List ℕ
pointer_text p = block_text p.block ++ codes "+" ++ decimal p.offset

-- a value of a type
abbrev pub value_text : IrType → Value → List ℕ
value_text type (value.Num n) = number_text type n
value_text type value.Poison = codes "poison"
value_text type (value.Ptr p) = pointer_text p

abbrev pub result_text : IrType → Option Value → List ℕ
result_text type None = []
result_text type (Some v) = value_text type v

-- ---- why

abbrev pub flag_text : Flag → List ℕ
flag_text flag.NoUnsignedWrap = codes "nuw"
flag_text flag.NoSignedWrap = codes "nsw"
flag_text flag.Exact = codes "exact"
flag_text flag.Disjoint = codes "disjoint"
flag_text flag.NonNegative = codes "nneg"
flag_text flag.SameSign = codes "samesign"
flag_text flag.Inbounds = codes "inbounds"

-- why a step is undefined behaviour, gives poison, or ends the run
abbrev pub reason_text : Reason → List ℕ
reason_text (reason.Flag flag) = flag_text flag
reason_text reason.ShiftPastWidth = codes "the amount is the width or more"
reason_text reason.PoisonOperand = codes "an operand is written poison or undef"
reason_text reason.LoadedPoison = codes "the bytes are no value of the type"
reason_text reason.NoEntry = codes "no entry for the block that was left"
reason_text reason.NullArgument = codes "a null argument of a nonnull parameter"
reason_text reason.PoisonArgument = codes "undefined behaviour: a poison argument of a noundef parameter"
reason_text reason.DivisionByZero = codes "undefined behaviour: a division by zero"
reason_text reason.PoisonDivisor = codes "undefined behaviour: a division by poison"
reason_text reason.DivisionOverflow = codes "undefined behaviour: the least number divided by -1"
reason_text reason.PoisonDividend = codes "undefined behaviour: poison divided by -1"
reason_text reason.PoisonAddress = codes "undefined behaviour: the address is poison"
reason_text reason.NullAddress = codes "undefined behaviour: an access of null"
reason_text reason.DeadBlock = codes "undefined behaviour: there is no such block"
reason_text reason.PastEnd = codes "undefined behaviour: past the end of the block"
reason_text reason.Misaligned = codes "undefined behaviour: the address or the block is not aligned so"
reason_text reason.PoisonCondition = codes "undefined behaviour: a branch on poison"
reason_text reason.Unreachable = codes "undefined behaviour: unreachable"
reason_text reason.PoisonReturn = codes "undefined behaviour: a noundef return of poison"
reason_text reason.TooManyJumps = codes "one backward jump more than the bound allows"
reason_text reason.MissingBlock = codes "undefined behaviour: no block has the label"

-- ---- notes after a step

abbrev pub note : List ℕ → List ℕ
note words = codes " ; " ++ words

-- a name that was read, and its value
abbrev pub operand_note : List Name → IrType → Operand → Value → List ℕ
operand_note names type (operand.Local n) v = piece_text (local (codes " ; ") (name_in names n)) ++ codes " = " ++ value_text type v
operand_note names type (operand.Number n) v = []
operand_note names type operand.Null v = []
operand_note names type operand.Poison v = []
operand_note names type operand.Undef v = []

-- each name among the operands, in order
abbrev pub operand_notes : List Name → List TypedOperand → List Value → List ℕ
operand_notes names [] values = []
operand_notes names (t ∷ operands) [] = []
operand_notes names (t ∷ operands) (v ∷ values) = operand_note names t.of_type t.operand v ++ operand_notes names operands values

abbrev pub bytes_text : ℕ → List ℕ
bytes_text n = decimal n ++ (if nat_eq n 1 then codes " byte at " else codes " bytes at ")

-- where a load or a store goes
abbrev pub location_note : Option Location → List ℕ
location_note None = []
location_note (Some location) = note (bytes_text location.bytes ++ pointer_text location.pointer)

-- the index of the next choice; the greatest of 64 bits stands for all after it
abbrev pub next_choice : ℕ → ℕ
next_choice k = min (k + 1) 18446744073709551615

-- the choices that were taken, the first with this index
abbrev pub choice_notes : ℕ → List ℕ → List ℕ
choice_notes k [] = []
choice_notes k (word ∷ words) = note (codes "choice " ++ decimal k ++ codes " = " ++ decimal word) ++ choice_notes (next_choice k) words

abbrev pub reason_note : Option Reason → List ℕ
reason_note None = []
reason_note (Some r) = note (reason_text r)

-- the reason for a result
abbrev pub because : Option Reason → List ℕ
because None = []
because (Some r) = codes ": " ++ reason_text r

-- the result, where there is one, and the reason
abbrev pub result_notes : Option IrType → Option Value → Option Reason → List ℕ
result_notes (Some type) (Some v) r = note (codes "gives " ++ value_text type v) ++ because r
result_notes (Some type) None r = reason_note r
result_notes None result r = reason_note r

-- ---- steps

-- the type of what an instruction gives; a store gives nothing
abbrev pub result_type : Inst → Option IrType
result_type (inst.Binary into op width left right) = Some (type.Int width)
result_type (inst.Icmp into predicate same_sign width left right) = Some (type.Int one_bit)
result_type (inst.Cast into cast from o to) = Some (type.Int to)
result_type (inst.Select into condition if_true if_false) = Some if_true.of_type
result_type (inst.Freeze into of_type o) = Some of_type
result_type (inst.Alloca into number of_type align) = Some type.Ptr
result_type (inst.Load into of_type pointer align) = Some of_type
result_type (inst.Store v pointer align) = None
result_type (inst.GetElementPtr into inbounds nuw of_type base indices) = Some type.Ptr

-- a parameter gets its argument
abbrev pub parameter_step : List Name → Option Parameter → Step → List ℕ
parameter_step names None step = []
parameter_step names (Some p) step =
    piece_text (local indented (name_in names p.name)) ++ codes " = " ++ result_text p.of_type step.result ++ reason_note step.reason

abbrev pub phi_step : List Name → Option Phi → Step → List ℕ
phi_step names None step = []
phi_step names (Some phi) step = text_of (phi_pieces names phi) ++ result_notes (Some phi.of_type) step.result step.reason

-- what was read, accessed and chosen, the first choice with this index
abbrev pub notes : List Name → List TypedOperand → ℕ → Step → List ℕ
notes names operands k step = operand_notes names operands step.operands ++ location_note step.location ++ choice_notes k step.taken

abbrev pub inst_step : List Name → ℕ → Option Inst → Step → List ℕ
inst_step names k None step = []
inst_step names k (Some i) step =
    text_of (inst_pieces names i) ++ notes names (operands_of i) k step ++ result_notes (result_type i) step.result step.reason

abbrev pub end_step : List Name → ℕ → Block → Step → List ℕ
end_step names k b step =
    text_of (terminator_pieces names b.terminator) ++ notes names (end_operands b.terminator) k step ++ reason_note step.reason

-- ---- blocks

-- whether it is the first step of a block
abbrev pub is_first : Block → Site → Bool
is_first b (site.Phi k) = nat_eq k 0
is_first b (site.Inst k) = nat_eq k 0 && nat_eq (length b.phis) 0
is_first b site.Terminator = nat_eq (length b.phis) 0 && nat_eq (length b.insts) 0
is_first b (site.Parameter k) = false
is_first b site.NoBlock = false

-- the label, before the first step
abbrev pub heading : List Name → Block → Site → List ℕ
heading names b at = if is_first b at then piece_text (label (name_in names b.label)) else []

abbrev pub step_in : List Name → ℕ → Block → Site → Step → List ℕ
step_in names k b (site.Phi n) step = phi_step names (slice_get b.phis n) step
step_in names k b (site.Inst n) step = inst_step names k (slice_get b.insts n) step
step_in names k b site.Terminator step = end_step names k b step
step_in names k b (site.Parameter n) step = []
step_in names k b site.NoBlock step = []

abbrev pub block_step : List Name → ℕ → Option Block → Step → List ℕ
block_step names k None step = []
block_step names k (Some b) step = heading names b step.site ++ step_in names k b step.site step

abbrev pub missing_step : Step → List ℕ
missing_step step = indented ++ codes "no block" ++ reason_note step.reason

-- ---- a run

abbrev pub step_at : Function → ℕ → Site → Step → List ℕ
step_at f k (site.Parameter n) step = parameter_step f.names (slice_get f.parameters n) step
step_at f k (site.Phi n) step = block_step f.names k (slice_get f.blocks step.block) step
step_at f k (site.Inst n) step = block_step f.names k (slice_get f.blocks step.block) step
step_at f k site.Terminator step = block_step f.names k (slice_get f.blocks step.block) step
step_at f k site.NoBlock step = missing_step step

-- a step, its first choice with this index
abbrev pub step_text : Function → ℕ → Step → List ℕ
step_text f k step = step_at f k step.site step

abbrev pub choices_after : ℕ → List ℕ → ℕ
choices_after k words = min (k + length words) 18446744073709551615

-- steps in order, the first choice with this index
abbrev pub step_texts : Function → ℕ → List Step → List ℕ
step_texts f k [] = []
step_texts f k (step ∷ steps) = step_text f k step ++ step_texts f (choices_after k step.taken) steps

abbrev pub returned_text : Option IrType → Option Value → List ℕ
returned_text (Some type) (Some v) = value_text type v
returned_text (Some type) None = codes "void"
returned_text None v = codes "void"

abbrev pub outcome_text : Option IrType → Outcome → List ℕ
outcome_text type (Return v memory) = indented ++ codes "returns " ++ returned_text type v
outcome_text type Ub = indented ++ codes "undefined behaviour"
outcome_text type Beyond = indented ++ codes "goes past the bound on backward jumps"

-- a line that says which run it is, its steps, and its outcome
abbrev pub run_text : List ℕ → Function → Trace → List ℕ
run_text title f trace = title ++ step_texts f 0 trace.steps ++ outcome_text f.returns trace.outcome ++ newline

-- ---- how they differ

-- the block at an index of the memory that a run leaves
abbrev pub block_named : ℕ → Option MemoryBlock → List ℕ
block_named index None = codes "block " ++ decimal index
block_named index (Some b) = block_text b.name

abbrev pub block_left : Outcome → ℕ → List ℕ
block_left (Return v memory) index = block_named index (slice_get memory index)
block_left Ub index = block_named index None
block_left Beyond index = block_named index None

-- of the source's outcome and the target's
abbrev pub difference_text : Outcome → Difference → List ℕ
difference_text source difference.Undefined = codes "the target is undefined behaviour, and the source returns"
difference_text source difference.MorePoisonous = codes "the target returns poison, and the source another value"
difference_text source difference.Value = codes "they return different values"
difference_text source difference.Blocks = codes "they leave different numbers of blocks"
difference_text source (difference.Block index) = block_left source index ++ codes " has another size"
difference_text source (difference.Byte index byte) = codes "byte " ++ decimal byte ++ codes " of " ++ block_left source index

abbrev pub difference_line : Outcome → Difference → List ℕ
difference_line source d = codes "difference: " ++ difference_text source d ++ newline

-- ---- the whole text

abbrev pub source_title : List ℕ
source_title = codes "source, on the choices 0 (one of its runs)"

abbrev pub target_title : List ℕ
target_title = codes "target, on the choices of the counterexample"

abbrev pub trace_text : Functions → Traces → Difference → List ℕ
trace_text pair traces d =
    run_text source_title (run_pair pair).source traces.source
    ++ run_text target_title (run_pair pair).target traces.target
    ++ difference_line traces.source.outcome d
