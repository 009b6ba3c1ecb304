-- A function in which each use of a register that carries undef is written out. Each use of undef may be another value,
-- and so may each use of a register that an operation makes from it (LLVM Language Reference, "Undefined Values"). So
-- the instructions that make such a register are left out where they are, and stand where it is frozen or returned,
-- once for each use, with a choice of its own for each undef. No register of this function holds more than one value.
use Rattle.std.specs.Prelude.{◌≡◌, ◌+◌, ◌*◌, ◌≤◌, ◌++◌, ◌∷◌, ℕ, zero, suc, max, Bool, false, if◌then◌else◌, List, [], length, map, replicate, Option, Some, None}
use Rattle.std.specs.List.{find, flat_map, list_any}
use Rattle.ir_tree.specs.declared.name.Name.{Name}
use Rattle.ir_tree.specs.declared.name.Name.TheVariants as word
use Rattle.ir_tree.specs.declared.tree.IrType.{IrType}
use Rattle.ir_tree.specs.declared.tree.IrType.TheVariants as type
use Rattle.ir_tree.specs.declared.tree.Operand.{Operand}
use Rattle.ir_tree.specs.declared.tree.Operand.TheVariants as operand
use Rattle.ir_tree.specs.declared.tree.Inst.{Inst}
use Rattle.ir_tree.specs.declared.tree.Inst.TheVariants.{Binary, Icmp, Cast, Select, Freeze, Alloca, Load, Store, GetElementPtr}
use Rattle.ir_tree.specs.declared.tree.Terminator.{Terminator}
use Rattle.ir_tree.specs.declared.tree.Terminator.TheVariants as terminator
use Rattle.ir_tree.specs.declared.tree.Block.{Block}
use Rattle.ir_tree.specs.declared.tree.Function.{Function}
use Rattle.ir_tree.specs.Types.{one_bit}
use Rattle.ir_tree.specs.Sites.{AreNumbered}
use Rattle.ir_tree.specs.Limits.{CanRun}
use Rattle.points.specs.Runnable.{IsRunnable}
use Rattle.ir_tree.specs.Flow.{results_of}
use Rattle.ir_tree.specs.Carrying.{insts_of, makes, carries, leaf_count}

-- ---- the registers that a tree is computed in

-- they follow the function's own, and are numbered from 0
abbrev pub scratch : Function → ℕ → ℕ
scratch f height = length f.names + height

-- where an operand has its value once it is computed at this height: one that carries nothing stays as it is
abbrev pub placed : Function → ℕ → Operand → Operand
placed f height o = if carries f o then operand.Local (scratch f height) else o

-- the height behind it
abbrev pub above : Function → ℕ → Operand → ℕ
above f height o = if carries f o then height + 1 else height

-- ---- the instructions that compute an operand

-- how an operand of a type is computed at a height
abbrev pub Writing : Type 0
Writing = ℕ → IrType → Operand → List Inst

-- An instruction's operands, in text order, and then itself, with its result at this height. Each operand that
-- carries undef is computed one register higher than the one before it.
abbrev pub computed_by : Function → Writing → ℕ → Inst → List Inst
computed_by f write height (Binary into op width left right) =
    write height (type.Int width) left ++ write (above f height left) (type.Int width) right
    ++ Binary (scratch f height) op width (placed f height left) (placed f (above f height left) right) ∷ []
computed_by f write height (Icmp into predicate same_sign width left right) =
    write height (type.Int width) left ++ write (above f height left) (type.Int width) right
    ++ Icmp (scratch f height) predicate same_sign width (placed f height left) (placed f (above f height left) right) ∷ []
computed_by f write height (Cast into cast from o to) =
    write height (type.Int from) o ++ Cast (scratch f height) cast from (placed f height o) to ∷ []
computed_by f write height (Select into condition if_true if_false) =
    write height (type.Int one_bit) condition ++ write (above f height condition) if_true.of_type if_true.operand
    ++ write (above f (above f height condition) if_true.operand) if_false.of_type if_false.operand
    ++ Select (scratch f height) (placed f height condition)
    (record { of_type = if_true.of_type; operand = placed f (above f height condition) if_true.operand })
    (record { of_type = if_false.of_type; operand = placed f (above f (above f height condition) if_true.operand) if_false.operand }) ∷ []
computed_by f write height (Freeze into type o) = []
computed_by f write height (Alloca into number type align) = []
computed_by f write height (Load into type pointer align) = []
computed_by f write height (Store value pointer align) = []
computed_by f write height (GetElementPtr into inbounds nuw type base indices) = []

abbrev pub computed_from : Function → Writing → ℕ → Option Inst → List Inst
computed_from f write height None = []
computed_from f write height (Some i) = computed_by f write height i

-- the instruction that makes a name, the first in text order
abbrev pub maker_of : Function → ℕ → Option Inst
maker_of f name = find (makes name) (insts_of f)

-- in this number of steps back along the operands; an undef is a choice, which freeze makes
unfoldable pub written : ℕ → Function → Writing
written zero f height type o = []
written (suc n) f height type operand.Undef = Freeze (scratch f height) type operand.Undef ∷ []
written (suc n) f height type (operand.Local name) = if carries f (operand.Local name) then computed_from f (written n f) height (maker_of f name) else []
written (suc n) f height type (operand.Number a) = []
written (suc n) f height type operand.Null = []
written (suc n) f height type operand.Poison = []

-- the instructions that compute an operand at a height; in so many steps all leaves are counted, and each is reached
abbrev pub computed : Function → Writing
computed f = written (66 * (length (insts_of f) + 1)) f

-- ---- the function

-- a name that carries undef, and no other operand
abbrev pub carries_name : Function → Operand → Bool
carries_name f (operand.Local name) = carries f (operand.Local name)
carries_name f _ = false

-- an operand that is frozen or returned: what computes it, and where it then is
abbrev pub sampled_insts : Function → IrType → Operand → List Inst
sampled_insts f type o = if carries_name f o then computed f 0 type o else []

abbrev pub sampled_operand : Function → Operand → Operand
sampled_operand f o = if carries_name f o then operand.Local (scratch f 0) else o

-- the instruction's result carries undef
abbrev pub makes_tree : Function → Inst → Bool
makes_tree f i = list_any (λ (name : ℕ). carries f (operand.Local name)) (results_of i)

abbrev pub lowered_inst : Function → Inst → List Inst
lowered_inst f (Freeze into type o) = sampled_insts f type o ++ Freeze into type (sampled_operand f o) ∷ []
lowered_inst f i = if makes_tree f i then [] else i ∷ []

abbrev pub insts_at_end : Function → Terminator → List Inst
insts_at_end f (terminator.Return (Some returned)) = sampled_insts f returned.of_type returned.operand
insts_at_end f _ = []

abbrev pub lowered_end : Function → Terminator → Terminator
lowered_end f (terminator.Return (Some returned)) = terminator.Return (Some (record { of_type = returned.of_type; operand = sampled_operand f returned.operand }))
lowered_end f end = end

abbrev pub lowered_block : Function → Block → Block
lowered_block f b = record b { insts = flat_map (lowered_inst f) b.insts ++ insts_at_end f b.terminator; terminator = lowered_end f b.terminator }

-- ---- names for the registers

-- the most leaves of a name: a tree takes at most one register for each of its leaves
unfoldable pub most_leaves : Function → ℕ → ℕ
most_leaves f zero = 0
most_leaves f (suc name) = max (leaf_count f (operand.Local name)) (most_leaves f name)

abbrev pub stack_height : Function → ℕ
stack_height f = most_leaves f (length f.names)

abbrev pub spelling_length : Name → ℕ
spelling_length (word.Number bytes) = length bytes
spelling_length (word.Word bytes) = length bytes

unfoldable pub longest : List Name → ℕ
longest [] = 0
longest (name ∷ names) = max (spelling_length name) (longest names)

-- so many words of letters u, the first of this many and each next one of one more
unfoldable pub words_from : ℕ → ℕ → List Name
words_from zero bytes = []
words_from (suc count) bytes = word.Word (replicate bytes 117) ∷ words_from count (bytes + 1)

-- they are longer than each name of the function
abbrev pub stack_names : Function → List Name
stack_names f = words_from (stack_height f) (longest f.names + 1)

abbrev pub lowered : Function → Function
lowered f = record f { names = f.names ++ stack_names f; blocks = map (lowered_block f) f.blocks }

-- no name has more than 64 leaves, so that none depends on itself
abbrev pub HasFewLeaves : Function → Type 0
HasFewLeaves f = (name : ℕ) → leaf_count f (operand.Local name) ≤ 64

-- none where the function is its own lowered one
abbrev pub IsLowered : Function → Option Function → Type 0
IsLowered f None = lowered f ≡ f
IsLowered f (Some g) = g ≡ lowered f

-- its names are in its table, no register has too many leaves, and the lowered function may be run
pub record CanBeLowered (f : Function) : Type 0 where
  pub numbered : AreNumbered f
  pub leaves : HasFewLeaves f
  pub runnable : IsRunnable (lowered f)
  pub run : CanRun (lowered f)
