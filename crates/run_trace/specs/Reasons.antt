-- Why a step gives poison, or is the end of a run (LLVM Language Reference, "Poison Values",
-- "Undefined Values", "Parameter Attributes").
use Rattle.std.specs.Prelude.{◌≡◌, ◌≢◌, ℕ, ◌+◌, ◌%◌, ◌^◌, List, [], nat_eq, nat_lt, nat_le, Bool, true, false, ◌&&◌, not, Option, Some, None, IsSomeAnd}
use Rattle.std.specs.List.{list_any}
use Rattle.ir_tree.specs.declared.tree.Flags.{Flags}
use Rattle.ir_tree.specs.declared.tree.Op.{Op}
use Rattle.ir_tree.specs.declared.tree.Op.TheVariants.{Add, Sub, Mul, UnsignedDiv, UnsignedRem, SignedDiv, SignedRem, ShiftLeft, LogicalShiftRight, ArithmeticShiftRight, And, Or, Xor}
use Rattle.ir_tree.specs.declared.tree.Cast.{Cast as CastKind}
use Rattle.ir_tree.specs.declared.tree.Cast.TheVariants as cast
use Rattle.ir_tree.specs.declared.tree.TypedOperand.{TypedOperand}
use Rattle.ir_tree.specs.declared.tree.Parameter.{Parameter}
use Rattle.ir_tree.specs.declared.tree.Inst.{Inst}
use Rattle.ir_tree.specs.declared.tree.Inst.TheVariants.{Binary, Icmp, Cast, Load, Store, GetElementPtr}
use Rattle.ir_tree.specs.declared.tree.Terminator.{Terminator}
use Rattle.ir_tree.specs.declared.tree.Terminator.TheVariants as terminator
use Rattle.ir_tree.specs.declared.tree.Phi.{Phi}
use Rattle.ir_tree.specs.declared.tree.Function.{Function}
use Rattle.ir_tree.specs.Flow.{block_of}
use Rattle.byte_block.specs.declared.value.BlockName.TheVariants.{Null}
use Rattle.byte_block.specs.declared.value.Value.{Value}
use Rattle.byte_block.specs.declared.value.Value.TheVariants as value
use Rattle.byte_block.specs.declared.value.Value.TheVariants.{Num}
use Rattle.byte_block.specs.declared.block.MemoryBlock.{MemoryBlock}
use Rattle.memory_access.specs.declared.access_types.Loaded.TheVariants as loaded
use Rattle.memory_access.specs.Blocks.{block_named, block_size}
use Rattle.memory_access.specs.Bytes.{access_size}
use Rattle.memory_access.specs.Accesses.{load_result}
use Rattle.points.specs.declared.machine.Machine.{Machine}
use Rattle.points.specs.Table.{is_undefined, is_minus_1}
use Rattle.points.specs.Run.{Exit, To, Over, act, exit_by, operand_value, typed_operand_value, access_of, argument_value, is_null, is_poison}
use Rattle.run_trace.specs.declared.steps.Flag.{Flag}
use Rattle.run_trace.specs.declared.steps.Flag.TheVariants.{NoUnsignedWrap, NoSignedWrap, Exact, Disjoint, NonNegative, SameSign, Inbounds}
use Rattle.run_trace.specs.declared.steps.Reason.{Reason}
use Rattle.run_trace.specs.declared.steps.Reason.TheVariants as reason
use Rattle.run_trace.specs.Operands.{phi_operand, effective_operands, is_poison_literal, name_of, value_after}

-- ---- flags

abbrev pub is_flag : Flag → Flag → Bool
is_flag NoUnsignedWrap NoUnsignedWrap = true
is_flag NoSignedWrap NoSignedWrap = true
is_flag Exact Exact = true
is_flag Disjoint Disjoint = true
is_flag NonNegative NonNegative = true
is_flag SameSign SameSign = true
is_flag Inbounds Inbounds = true
is_flag _ _ = false

abbrev pub no_flag : Flag → Bool
no_flag flag = false

-- only the flags that pass
abbrev pub flags_kept : (Flag → Bool) → Flags → Flags
flags_kept keeps flags = record { nuw = keeps NoUnsignedWrap && flags.nuw; nsw = keeps NoSignedWrap && flags.nsw }

abbrev pub op_kept : (Flag → Bool) → Op → Op
op_kept keeps (Add flags) = Add (flags_kept keeps flags)
op_kept keeps (Sub flags) = Sub (flags_kept keeps flags)
op_kept keeps (Mul flags) = Mul (flags_kept keeps flags)
op_kept keeps (UnsignedDiv exact) = UnsignedDiv (keeps Exact && exact)
op_kept keeps UnsignedRem = UnsignedRem
op_kept keeps (SignedDiv exact) = SignedDiv (keeps Exact && exact)
op_kept keeps SignedRem = SignedRem
op_kept keeps (ShiftLeft flags) = ShiftLeft (flags_kept keeps flags)
op_kept keeps (LogicalShiftRight exact) = LogicalShiftRight (keeps Exact && exact)
op_kept keeps (ArithmeticShiftRight exact) = ArithmeticShiftRight (keeps Exact && exact)
op_kept keeps And = And
op_kept keeps (Or disjoint) = Or (keeps Disjoint && disjoint)
op_kept keeps Xor = Xor

abbrev pub cast_kept : (Flag → Bool) → CastKind → CastKind
cast_kept keeps (cast.Truncate flags) = cast.Truncate (flags_kept keeps flags)
cast_kept keeps (cast.ZeroExtend non_negative) = cast.ZeroExtend (keeps NonNegative && non_negative)
cast_kept keeps cast.SignExtend = cast.SignExtend

-- the instruction with only those of its flags that pass
abbrev pub inst_kept : (Flag → Bool) → Inst → Inst
inst_kept keeps (Binary into op width left right) = Binary into (op_kept keeps op) width left right
inst_kept keeps (Icmp into predicate same_sign width left right) = Icmp into predicate (keeps SameSign && same_sign) width left right
inst_kept keeps (Cast into kind from operand to) = Cast into (cast_kept keeps kind) from operand to
inst_kept keeps (GetElementPtr into inbounds nuw type base indices) =
    GetElementPtr into (keeps Inbounds && inbounds) (keeps NoUnsignedWrap && nuw) type base indices
inst_kept keeps inst = inst

-- ---- poison

abbrev pub is_some_poison : Option Value → Bool
is_some_poison None = false
is_some_poison (Some v) = is_poison v

abbrev pub gives_poison : Inst → List ℕ → Machine → Bool
gives_poison inst tape m = is_some_poison (value_after (act inst tape m) (name_of inst))

-- with this flag alone it gives poison, and without flags it doesn't
pub record IsByFlag (flag : Flag) (inst : Inst) (tape : List ℕ) (m : Machine) : Type 0 where
  pub with_it : gives_poison (inst_kept (is_flag flag) inst) tape m ≡ true
  pub without : gives_poison (inst_kept no_flag inst) tape m ≡ false

abbrev pub is_shift : Op → Bool
is_shift (ShiftLeft flags) = true
is_shift (LogicalShiftRight exact) = true
is_shift (ArithmeticShiftRight exact) = true
is_shift _ = false

-- an amount that is the width or more
abbrev pub is_past_width : ℕ → Value → Bool
is_past_width n (Num amount) = nat_le n (amount % 2 ^ n)
is_past_width n _ = false

abbrev pub IsShiftPastWidth : Inst → Machine → Type 0
IsShiftPastWidth (Binary into op width left right) m =
    (is_shift op && is_past_width width.bits (operand_value m.registers right)) ≡ true
IsShiftPastWidth _ m = ⊥

-- the access is defined, and its bytes are no value of the type
abbrev pub IsLoadOfPoison : Inst → Machine → Type 0
IsLoadOfPoison (Load into type pointer align) m =
    load_result m.memory (operand_value m.registers pointer) (access_of type) align ≡ loaded.Done value.Poison
IsLoadOfPoison _ m = ⊥

-- ---- division

abbrev pub is_number : Value → Bool
is_number (Num a) = true
is_number _ = false

abbrev pub is_zero : ℕ → Value → Bool
is_zero n (Num a) = nat_eq (a % 2 ^ n) 0
is_zero n _ = false

-- why an operation that is undefined at these operands is so
abbrev pub is_cause_of_division : Reason → ℕ → Value → Value → Bool
is_cause_of_division reason.DivisionByZero n left right = is_zero n right
is_cause_of_division reason.PoisonDivisor n left right = not (is_number right)
is_cause_of_division reason.DivisionOverflow n left right = is_minus_1 n right && is_number left
is_cause_of_division reason.PoisonDividend n left right = is_minus_1 n right && not (is_number left)
is_cause_of_division _ n left right = false

abbrev pub IsDivisionReason : Reason → Inst → Machine → Type 0
IsDivisionReason r (Binary into op width left right) m =
    (is_undefined op width.bits (operand_value m.registers left) (operand_value m.registers right)
    && is_cause_of_division r width.bits (operand_value m.registers left) (operand_value m.registers right)) ≡ true
IsDivisionReason r _ m = ⊥

-- ---- loads and stores

-- the block does not have n bytes from the offset on
abbrev pub IsPastEnd : ℕ → ℕ → MemoryBlock → Type 0
IsPastEnd offset n b = nat_le (offset + n) (block_size b) ≡ false

abbrev pub IsMisaligned : ℕ → ℕ → MemoryBlock → Type 0
IsMisaligned offset align b = (nat_le align b.align && nat_eq (offset % align) 0) ≡ false

-- why an access of n bytes at an address is undefined behaviour
abbrev pub IsAccessCause : Reason → List MemoryBlock → Value → ℕ → ℕ → Type 0
IsAccessCause reason.NullAddress memory (value.Ptr p) n align = p.block ≡ Null
IsAccessCause reason.DeadBlock memory (value.Ptr p) n align = (p.block ≢ Null) × (block_named memory p.block ≡ None)
IsAccessCause reason.PastEnd memory (value.Ptr p) n align = IsSomeAnd (block_named memory p.block) (IsPastEnd p.offset n)
IsAccessCause reason.Misaligned memory (value.Ptr p) n align = IsSomeAnd (block_named memory p.block) (IsMisaligned p.offset align)
IsAccessCause _ memory (value.Ptr p) n align = ⊥
IsAccessCause r memory _ n align = r ≡ reason.PoisonAddress

abbrev pub IsAccessReason : Reason → Inst → Machine → Type 0
IsAccessReason r (Load into type pointer align) m =
    IsAccessCause r m.memory (operand_value m.registers pointer) (access_size (access_of type)) align
IsAccessReason r (Store v pointer align) m =
    IsAccessCause r m.memory (operand_value m.registers pointer) (access_size (access_of v.of_type)) align
IsAccessReason r _ m = ⊥

-- ---- the reasons of each kind of step

abbrev pub IsInstReason : Reason → Inst → List ℕ → Machine → Type 0
IsInstReason (reason.Flag flag) inst tape m = IsByFlag flag inst tape m
IsInstReason reason.ShiftPastWidth inst tape m = IsShiftPastWidth inst m
IsInstReason reason.PoisonOperand inst tape m = list_any (is_poison_literal m.registers) (effective_operands inst m.registers) ≡ true
IsInstReason reason.LoadedPoison inst tape m = IsLoadOfPoison inst m
IsInstReason reason.DivisionByZero inst tape m = IsDivisionReason reason.DivisionByZero inst m
IsInstReason reason.PoisonDivisor inst tape m = IsDivisionReason reason.PoisonDivisor inst m
IsInstReason reason.DivisionOverflow inst tape m = IsDivisionReason reason.DivisionOverflow inst m
IsInstReason reason.PoisonDividend inst tape m = IsDivisionReason reason.PoisonDividend inst m
IsInstReason r inst tape m = IsAccessReason r inst m

abbrev pub IsPhiReason : Reason → Phi → Machine → Type 0
IsPhiReason reason.PoisonOperand phi m = list_any (is_poison_literal m.registers) (phi_operand m phi) ≡ true
IsPhiReason reason.NoEntry phi m = phi_operand m phi ≡ []
IsPhiReason _ phi m = ⊥

abbrev pub IsArgumentReason : Reason → Parameter → Value → Type 0
IsArgumentReason reason.NullArgument parameter v = (parameter.non_null && is_null v) ≡ true
IsArgumentReason reason.PoisonArgument parameter v = (parameter.no_undef && is_poison (argument_value parameter v)) ≡ true
IsArgumentReason _ parameter v = ⊥

-- a branch or a switch on what is no number
abbrev pub IsOnPoison : Terminator → Machine → Type 0
IsOnPoison (terminator.CondBranch condition if_true if_false) m = is_number (operand_value m.registers condition) ≡ false
IsOnPoison (terminator.Switch width operand default cases) m = is_number (operand_value m.registers operand) ≡ false
IsOnPoison _ m = ⊥

-- a return of poison, written so or not
abbrev pub IsReturnOf : (List Value → TypedOperand → Bool) → Terminator → Machine → Type 0
IsReturnOf test (terminator.Return (Some returned)) m = test m.registers returned ≡ true
IsReturnOf test _ m = ⊥

abbrev pub is_poison_operand : List Value → TypedOperand → Bool
is_poison_operand registers t = is_poison (typed_operand_value registers t)

-- the block at this index is left backward
abbrev pub IsBackward : Function → ℕ → Exit → Type 0
IsBackward f at (Over run) = ⊥
IsBackward f at (To label m) = nat_lt at (block_of f label) ≡ false

abbrev pub IsEndReason : Reason → Function → Terminator → List ℕ → ℕ → ℕ → Machine → Type 0
IsEndReason reason.PoisonCondition f end tape at jumps m = IsOnPoison end m
IsEndReason reason.Unreachable f end tape at jumps m = end ≡ terminator.Unreachable
IsEndReason reason.PoisonReturn f end tape at jumps m = (f.returns_no_undef ≡ true) × IsReturnOf is_poison_operand end m
IsEndReason reason.PoisonOperand f end tape at jumps m = IsReturnOf is_poison_literal end m
IsEndReason reason.TooManyJumps f end tape at jumps m = (jumps ≡ 0) × IsBackward f at (exit_by f.returns_no_undef end tape m)
IsEndReason _ f end tape at jumps m = ⊥
