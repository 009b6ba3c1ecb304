-- What holds of each function that some tokens spell, apart from those tokens.
use Rattle.read_back.proofs.Common.{◌≡◌, ◌<◌, ◌≤◌, ◌+◌, ◌^◌, ℕ, List, [], ◌∷◌, length, Bool, true, false, not, Option, Some, None, All, AllByRecursion, Contains, is_digits, without_zeros, one_bit, alignments, Name, IrType, Int, Ptr, MemoryType, WrittenName, WrittenValue, WrittenTyped, WrittenParameter, GepFlags, WrittenAccess, WrittenIndex, WrittenInst, WrittenEntry, WrittenPhi, WrittenCase, WrittenReturn, Void, Value, WrittenTerminator, WrittenBody, WrittenBlock, WrittenFunction, is_pointer_type, is_small_object}
use Rattle.ir_tree.specs.Carrying.{is_division, is_pointer}
use Rattle.ir_tree.specs.declared.name.Name.TheVariants as name
use Rattle.ir_words.specs.declared.written.WrittenValue.TheVariants as value
use Rattle.ir_words.specs.declared.written.WrittenAccess.TheVariants as access
use Rattle.ir_words.specs.declared.written.WrittenInst.TheVariants as inst
use Rattle.ir_words.specs.declared.written.WrittenTerminator.TheVariants as end
use Rattle.ir_grammar.specs.Instructions.{is_undef}

-- digits without leading zeros, or bytes
abbrev pub IsName : Name → Type 0
IsName (name.Number digits) = (is_digits digits ≡ true) × (without_zeros digits ≡ digits)
IsName (name.Word bytes) = All (λ (b : ℕ). b < 256) bytes

abbrev pub IsNameOrNone : Option WrittenName → Type 0
IsNameOrNone None = Unit {0}
IsNameOrNone (Some n) = IsName n.name

-- a literal of the type; no number is a pointer
abbrev pub IsLiteral : IrType → ℕ → Type 0
IsLiteral (Int w) n = n < 2 ^ w.bits
IsLiteral Ptr n = ⊥

abbrev pub FitsValue : Bool → IrType → WrittenValue → Type 0
FitsValue undef_too type (value.Local n) = IsName n
FitsValue undef_too type (value.Literal n) = IsLiteral type n
FitsValue undef_too type value.Null = is_pointer_type type ≡ true
FitsValue undef_too type value.Poison = Unit {0}
FitsValue undef_too type value.Undef = undef_too ≡ true

abbrev pub IsTyped : Bool → WrittenTyped → Type 0
IsTyped undef_too t = FitsValue undef_too t.of_type.of_type t.operand.value

-- an arm of a select, an integer where it has to be one, and where it is undef
pub record IsArm (of_integer : Bool) (t : WrittenTyped) : Type 0 where
  pub type : of_integer ≡ true → is_pointer t.of_type.of_type ≡ false
  pub value : IsTyped (not (is_pointer t.of_type.of_type)) t

pub record IsPointer (t : WrittenTyped) : Type 0 where
  pub type : t.of_type.of_type ≡ Ptr
  pub value : FitsValue false Ptr t.operand.value

-- nested arrays, of an alloca or elsewhere
pub record IsObject (in_alloca : Bool) (type : MemoryType) : Type 0 where
  pub arrays : length type.lengths ≤ 8
  pub lengths : All (λ (n : ℕ). n < 2 ^ 64) type.lengths
  pub small : is_small_object in_alloca type.lengths type.element ≡ true

-- an access that is the instruction of this number
abbrev pub IsAccess : ℕ → WrittenAccess → Type 0
IsAccess n (access.Alloca into number type) = IsName into.name × (number ≡ n) × IsObject true type.of_type
IsAccess n (access.Load into type from) = IsName into.name × IsPointer from
IsAccess n (access.Store value to) = IsTyped false value × IsPointer to

abbrev pub IsIndex : WrittenIndex → Type 0
IsIndex i = FitsValue false (Int i.of_type.width) i.operand.value

-- nuw occurs only with inbounds
abbrev pub AreFlags : GepFlags → Type 0
AreFlags flags = flags.nuw ≡ true → flags.inbounds ≡ true

-- the instruction of this number
abbrev pub IsInst : ℕ → WrittenInst → Type 0
IsInst n (inst.Binary into o type left right) = IsName into.name × FitsValue (not (is_division o)) (Int type.width) left.value × FitsValue (not (is_division o)) (Int type.width) right.value
IsInst n (inst.Icmp into p same_sign type left right) = IsName into.name × FitsValue true (Int type.width) left.value × FitsValue true (Int type.width) right.value
IsInst n (inst.Cast into c from o to) = IsName into.name × FitsValue true (Int from.width) o.value
IsInst n (inst.Select into bit condition if_true if_false) = IsName into.name × FitsValue true (Int one_bit) condition.value × IsArm (is_undef condition.value) if_true × IsArm (is_undef condition.value) if_false
IsInst n (inst.Freeze into t) = IsName into.name × IsTyped true t
IsInst n (inst.Access a align) = IsAccess n a × Contains alignments align
IsInst n (inst.GetElementPtr g) = IsName g.into.name × AreFlags g.flags × IsObject false g.of_type.of_type × IsPointer g.base × AllByRecursion IsIndex g.indices

-- instructions, the first of them with this number
abbrev pub AreInsts : ℕ → List WrittenInst → Type 0
AreInsts n [] = Unit {0}
AreInsts n (i ∷ is) = IsInst n i × AreInsts (n + 1) is

pub record IsEntry (type : IrType) (e : WrittenEntry) : Type 0 where
  pub value : FitsValue false type e.operand.value
  pub from : IsName e.from.name

pub record IsPhi (phi : WrittenPhi) : Type 0 where
  pub into : IsName phi.into.name
  pub some : 0 < length phi.entries
  pub few : length phi.entries ≤ 16777216
  pub each : AllByRecursion (IsEntry phi.of_type.of_type) phi.entries

pub record IsCase (c : WrittenCase) : Type 0 where
  pub literal : c.literal.value < 2 ^ c.of_type.width.bits
  pub to : IsName c.to.name

abbrev pub IsReturned : WrittenReturn → Type 0
IsReturned (Void at) = Unit {0}
IsReturned (Value t) = IsTyped true t

abbrev pub IsTerminator : WrittenTerminator → Type 0
IsTerminator (end.Return returned) = IsReturned returned
IsTerminator (end.Branch to) = IsName to.name
IsTerminator (end.CondBranch bit condition if_true if_false) = FitsValue false (Int one_bit) condition.value × IsName if_true.name × IsName if_false.name
IsTerminator (end.Switch type o default cases) = FitsValue false (Int type.width) o.value × IsName default.name × (length cases ≤ 256) × AllByRecursion IsCase cases
IsTerminator end.Unreachable = Unit {0}

-- what follows a label, its first instruction with this number
pub record IsBody (n : ℕ) (b : WrittenBody) : Type 0 where
  pub phis : AllByRecursion IsPhi b.phis
  pub insts : AreInsts (n + length b.phis) b.insts
  pub last : IsTerminator b.terminator

abbrev pub body_size : WrittenBody → ℕ
body_size b = length b.phis + length b.insts + 1

-- blocks, the first instruction of the first of them with this number; a function has at most 65,536
abbrev pub AreBlocks : ℕ → List WrittenBlock → Type 0
AreBlocks n [] = n ≤ 65536
AreBlocks n (b ∷ bs) = IsName b.label.name × IsBody n b.body × AreBlocks (n + body_size b.body) bs

-- nonnull occurs only on a pointer
pub record IsParameter (p : WrittenParameter) : Type 0 where
  pub name : IsNameOrNone p.name
  pub non_null : p.non_null ≡ true → is_pointer_type p.of_type.of_type ≡ true

pub record IsSpellable (w : WrittenFunction) : Type 0 where
  pub name : IsName w.name.name
  pub few : length w.parameters ≤ 16
  pub parameters : AllByRecursion IsParameter w.parameters
  pub label : IsNameOrNone w.label
  pub entry : IsBody 0 w.entry
  pub others : AreBlocks (body_size w.entry) w.others
