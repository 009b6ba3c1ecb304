-- What holds of all instructions of a function that are kept, and of those that compute trees, holds of those of its
-- lowered one.
use Rattle.std.proofs.Common.{◌+◌, ◌*◌, ℕ, zero, suc, Bool, true, false, List, [], ◌∷◌, ◌++◌, length, Option, Some, None, arith, All}
use Rattle.std.specs.Prelude.{if◌then◌else◌}
use Rattle.std.specs.List.{flat_map}
use Rattle.std.proofs.lemmas.List.Concat.{flat_map-cons}
use Rattle.std.proofs.lemmas.List.Elements.{All-append, All-nil, All-cons}
use Rattle.tv_num.specs.declared.Width.{Width}
use Rattle.ir_tree.specs.declared.tree.IrType.{IrType}
use Rattle.ir_tree.specs.declared.tree.Operand.{Operand}
use Rattle.ir_tree.specs.declared.tree.Operand.TheVariants as operand
use Rattle.ir_tree.specs.declared.tree.TypedOperand.{TypedOperand}
use Rattle.ir_tree.specs.declared.tree.Op.{Op}
use Rattle.ir_tree.specs.declared.tree.Cast.{Cast as Conversion}
use Rattle.ir_tree.specs.declared.tree.Predicate.{Predicate}
use Rattle.ir_tree.specs.declared.tree.Inst.{Inst}
use Rattle.ir_tree.specs.declared.tree.Inst.TheVariants.{Binary, Icmp, Cast, Select, Freeze, Alloca, Load, Store, GetElementPtr}
use Rattle.ir_tree.specs.declared.tree.Terminator.{Terminator}
use Rattle.ir_tree.specs.declared.tree.Terminator.TheVariants as terminator
use Rattle.ir_tree.specs.declared.tree.Block.{Block}
use Rattle.ir_tree.specs.declared.tree.Function.{Function}
use Rattle.ir_tree.specs.Carrying.{carries, insts_of}
use Rattle.ir_tree.specs.Limits.{HasSmallNumber, HasSmallTypes}
use Rattle.lowering.specs.Lowered.{Writing, carries_name, computed, computed_by, computed_from, insts_at_end, lowered_block, lowered_inst, maker_of, makes_tree, sampled_insts, written}

-- it holds of each operation and freeze
pub record HoldsOfPlain (P : Inst → Type 0) : Type 0 where
  pub binary : (into : ℕ) (op : Op) (width : Width) (left right : Operand) → P (Binary into op width left right)
  pub icmp : (into : ℕ) (predicate : Predicate) (same_sign : Bool) (width : Width) (left right : Operand) → P (Icmp into predicate same_sign width left right)
  pub cast : (into : ℕ) (cast : Conversion) (from : Width) (o : Operand) (to : Width) → P (Cast into cast from o to)
  pub select : (into : ℕ) (condition : Operand) (if_true if_false : TypedOperand) → P (Select into condition if_true if_false)
  pub freeze : (into : ℕ) (t : IrType) (o : Operand) → P (Freeze into t o)

pub small_plain : HoldsOfPlain HasSmallTypes
small_plain = record {
  binary = λ into op width left right. tt;
  icmp = λ into predicate same_sign width left right. tt;
  cast = λ into cast from o to. tt;
  select = λ into condition if_true if_false. tt;
  freeze = λ into t o. tt;
}

pub number_plain : HoldsOfPlain HasSmallNumber
number_plain = record {
  binary = λ into op width left right. tt;
  icmp = λ into predicate same_sign width left right. tt;
  cast = λ into cast from o to. tt;
  select = λ into condition if_true if_false. tt;
  freeze = λ into t o. tt;
}

module _ (f : Function) (P : Inst → Type 0) (plain : HoldsOfPlain P) where
  one : (i : Inst) → P i → All P (i ∷ [])
  one i h = All-cons P i [] h (All-nil P)

  both : (xs ys : List Inst) → All P xs → All P ys → All P (xs ++ ys)
  both xs ys a b = All-append P xs ys a b

  abbrev Writes : Writing → Type 0
  Writes write = (height : ℕ) (t : IrType) (o : Operand) → All P (write height t o)

  by_all : (write : Writing) → Writes write → (height : ℕ) (i : Inst) → All P (computed_by f write height i)
  by_all write all height (Binary into op width left right) = both _ _ (both _ _ (all _ _ _) (all _ _ _)) (one _ (plain.binary _ _ _ _ _))
  by_all write all height (Icmp into predicate same_sign width left right) = both _ _ (both _ _ (all _ _ _) (all _ _ _)) (one _ (plain.icmp _ _ _ _ _ _))
  by_all write all height (Cast into cast from o to) = both _ _ (all _ _ _) (one _ (plain.cast _ _ _ _ _))
  by_all write all height (Select into condition if_true if_false) = both _ _ (both _ _ (both _ _ (all _ _ _) (all _ _ _)) (all _ _ _)) (one _ (plain.select _ _ _ _))
  by_all write all height (Freeze into t o) = All-nil P
  by_all write all height (Alloca into number t align) = All-nil P
  by_all write all height (Load into t pointer align) = All-nil P
  by_all write all height (Store value pointer align) = All-nil P
  by_all write all height (GetElementPtr into inbounds nuw t base indices) = All-nil P

  from_all : (write : Writing) → Writes write → (height : ℕ) (o : Option Inst) → All P (computed_from f write height o)
  from_all write all height None = All-nil P
  from_all write all height (Some i) = by_all write all height i

  if_all : (b : Bool) (insts : List Inst) → All P insts → All P (let is : List Inst = if b then insts else [] in is)
  if_all true insts all = all
  if_all false insts all = All-nil P

  unless_all : (b : Bool) (insts : List Inst) → All P insts → All P (let is : List Inst = if b then [] else insts in is)
  unless_all true insts all = All-nil P
  unless_all false insts all = all

  written_all : (n : ℕ) → Writes (written n f)
  unfolding written
  written_all zero height t o = All-nil P
  written_all (suc n) height t operand.Undef = one _ (plain.freeze _ _ _)
  written_all (suc n) height t (operand.Local name) = if_all (carries f (operand.Local name)) (computed_from f (written n f) height (maker_of f name)) (from_all (written n f) (written_all n) height (maker_of f name))
  written_all (suc n) height t (operand.Number a) = All-nil P
  written_all (suc n) height t operand.Null = All-nil P
  written_all (suc n) height t operand.Poison = All-nil P

  sampled_all : (t : IrType) (o : Operand) → All P (sampled_insts f t o)
  sampled_all t o = if_all (carries_name f o) (computed f 0 t o) (written_all (66 * (length (insts_of f) + 1)) 0 t o)

  inst_all : (i : Inst) → P i → All P (lowered_inst f i)
  inst_all (Binary into op width left right) h = unless_all (makes_tree f (Binary into op width left right)) _ (one _ h)
  inst_all (Icmp into predicate same_sign width left right) h = unless_all (makes_tree f (Icmp into predicate same_sign width left right)) _ (one _ h)
  inst_all (Cast into cast from o to) h = unless_all (makes_tree f (Cast into cast from o to)) _ (one _ h)
  inst_all (Select into condition if_true if_false) h = unless_all (makes_tree f (Select into condition if_true if_false)) _ (one _ h)
  inst_all (Freeze into t o) h = both _ _ (sampled_all t o) (one _ (plain.freeze _ _ _))
  inst_all (Alloca into number t align) h = unless_all (makes_tree f (Alloca into number t align)) _ (one _ h)
  inst_all (Load into t pointer align) h = unless_all (makes_tree f (Load into t pointer align)) _ (one _ h)
  inst_all (Store value pointer align) h = one (Store value pointer align) h
  inst_all (GetElementPtr into inbounds nuw t base indices) h = unless_all (makes_tree f (GetElementPtr into inbounds nuw t base indices)) _ (one _ h)

  tail : (i : Inst) (insts : List Inst) → All P (i ∷ insts) → All P insts
  tail i insts all = λ k d below. all (suc k) d (omega (arith, below))

  insts_all : (insts : List Inst) → All P insts → All P (flat_map (lowered_inst f) insts)
  insts_all [] all = All-nil P
  insts_all (i ∷ insts) all = rw (flat_map-cons (lowered_inst f) i insts) (both _ _ (inst_all i (all 0 i (omega arith))) (insts_all insts (tail i insts all)))

  end_all : (end : Terminator) → All P (insts_at_end f end)
  end_all (terminator.Return None) = All-nil P
  end_all (terminator.Return (Some returned)) = sampled_all returned.of_type returned.operand
  end_all (terminator.Branch to) = All-nil P
  end_all (terminator.CondBranch condition if_true if_false) = All-nil P
  end_all (terminator.Switch width operand default cases) = All-nil P
  end_all terminator.Unreachable = All-nil P

  pub block_all : (b : Block) → All P b.insts → All P (lowered_block f b).insts
  block_all b all = both _ _ (insts_all b.insts all) (end_all b.terminator)
