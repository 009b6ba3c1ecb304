-- A function whose names carry nothing is its own lowered one.
use Rattle.std.proofs.Common.{◌≡◌, ◌⊎◌, ◌<◌, ◌≤◌, inl, inr, ◌+◌, ◌||◌, ◌++◌, ℕ, zero, suc, Bool, false, nat_lt, List, [], ◌∷◌, length, map, Some, None, refl, sym, ◌∙◌, ap, arith, append-nil}
use Rattle.std.specs.Prelude.{if◌then◌else◌, EachIndex, slice_index, slice_index_or}
use Rattle.std.proofs.lemmas.Bool.{cases_lt}
use Rattle.std.proofs.lemmas.List.{get_or_past}
use Rattle.std.specs.List.{flat_map}
use Rattle.ir_tree.specs.declared.tree.IrType.{IrType}
use Rattle.ir_tree.specs.declared.tree.Operand.{Operand}
use Rattle.ir_tree.specs.declared.tree.Operand.TheVariants.{Local, Number, Null, Poison, Undef}
use Rattle.ir_tree.specs.declared.tree.Inst.{Inst}
use Rattle.ir_tree.specs.declared.tree.Inst.TheVariants.{Binary, Icmp, Cast, Select, Freeze, Alloca, Load, Store, GetElementPtr}
use Rattle.ir_tree.specs.declared.tree.Terminator.{Terminator}
use Rattle.ir_tree.specs.declared.tree.Terminator.TheVariants.{Return, Branch, CondBranch, Switch, Unreachable}
use Rattle.ir_tree.specs.declared.tree.Block.{Block}
use Rattle.ir_tree.specs.declared.tree.Function.{Function}
use Rattle.ir_tree.specs.Carrying.{carries}
use Rattle.undef_uses.specs.Counts.{AreCounts}
use Rattle.lowering.specs.Lowered.{carries_name, computed, insts_at_end, lowered, lowered_block, lowered_end, lowered_inst, makes_tree, most_leaves, sampled_insts, sampled_operand, scratch, stack_height, stack_names, words_from, longest}
use Rattle.lowering.specs.Plan.{HasNoLeaves}

local-not : (f : Function) → HasNoLeaves f → (name : ℕ) → carries f (Local name) ≡ false
local-not f none name = ap (nat_lt 0) (none name)

name-not : (f : Function) → HasNoLeaves f → (o : Operand) → carries_name f o ≡ false
name-not f none (Local name) = local-not f none name
name-not f none (Number n) = refl
name-not f none Null = refl
name-not f none Poison = refl
name-not f none Undef = refl

sampled-none : (f : Function) → HasNoLeaves f → (type : IrType) (o : Operand) → sampled_insts f type o ≡ []
sampled-none f none type o = ap (λ (b : Bool). if b then computed f 0 type o else []) (name-not f none o)

sampled-same : (f : Function) → HasNoLeaves f → (o : Operand) → sampled_operand f o ≡ o
sampled-same f none o = ap (λ (b : Bool). if b then Local (scratch f 0) else o) (name-not f none o)

kept : (f : Function) → HasNoLeaves f → (into : ℕ) (i : Inst) → makes_tree f i ≡ (carries f (Local into) || false) → (if makes_tree f i then [] else i ∷ []) ≡ i ∷ []
kept f none into i own = ap (λ (b : Bool). if b then [] else i ∷ []) (own ∙ ap (λ (b : Bool). b || false) (local-not f none into))

inst-same : (f : Function) → HasNoLeaves f → (i : Inst) → lowered_inst f i ≡ i ∷ []
inst-same f none (Binary into op width left right) = kept f none into (Binary into op width left right) refl
inst-same f none (Icmp into predicate same_sign width left right) = kept f none into (Icmp into predicate same_sign width left right) refl
inst-same f none (Cast into cast from o to) = kept f none into (Cast into cast from o to) refl
inst-same f none (Select into condition if_true if_false) = kept f none into (Select into condition if_true if_false) refl
inst-same f none (Freeze into type o) = rw (sampled-none f none type o, sampled-same f none o) refl
inst-same f none (Alloca into number type align) = kept f none into (Alloca into number type align) refl
inst-same f none (Load into type pointer align) = kept f none into (Load into type pointer align) refl
inst-same f none (Store value pointer align) = refl
inst-same f none (GetElementPtr into inbounds nuw type base indices) = kept f none into (GetElementPtr into inbounds nuw type base indices) refl

insts-same : (f : Function) → HasNoLeaves f → (insts : List Inst) → flat_map (lowered_inst f) insts ≡ insts
insts-same f none [] = refl
insts-same f none (i ∷ insts) = rw (inst-same f none i, insts-same f none insts) refl

end-none : (f : Function) → HasNoLeaves f → (end : Terminator) → insts_at_end f end ≡ []
end-none f none (Return None) = refl
end-none f none (Return (Some returned)) = sampled-none f none returned.of_type returned.operand
end-none f none (Branch to) = refl
end-none f none (CondBranch condition if_true if_false) = refl
end-none f none (Switch width operand default cases) = refl
end-none f none Unreachable = refl

end-same : (f : Function) → HasNoLeaves f → (end : Terminator) → lowered_end f end ≡ end
end-same f none (Return None) = refl
end-same f none (Return (Some returned)) = ap (λ (o : Operand). Return (Some (record { of_type = returned.of_type; operand = o }))) (sampled-same f none returned.operand)
end-same f none (Branch to) = refl
end-same f none (CondBranch condition if_true if_false) = refl
end-same f none (Switch width operand default cases) = refl
end-same f none Unreachable = refl

block-same : (f : Function) → HasNoLeaves f → (b : Block) → lowered_block f b ≡ b
block-same f none b =
    let insts : flat_map (lowered_inst f) b.insts ++ insts_at_end f b.terminator ≡ b.insts =
    rw (insts-same f none b.insts, end-none f none b.terminator) (append-nil b.insts) in
    λ k. record b { insts = insts k; terminator = end-same f none b.terminator k }

blocks-same : (f : Function) → HasNoLeaves f → (blocks : List Block) → map (lowered_block f) blocks ≡ blocks
blocks-same f none [] = refl
blocks-same f none (b ∷ blocks) = rw (block-same f none b, blocks-same f none blocks) refl

most-none : (f : Function) → HasNoLeaves f → (names : ℕ) → most_leaves f names ≡ 0
unfolding most_leaves
most-none f none zero = refl
most-none f none (suc names) = rw (none names, most-none f none names) (omega arith)

words-none : (f : Function) → stack_height f ≡ 0 → stack_names f ≡ []
unfolding words_from
words-none f none = ap (λ (n : ℕ). words_from n (longest f.names + 1)) none

pub lowered-same : (f : Function) → HasNoLeaves f → lowered f ≡ f
lowered-same f none =
    let names : f.names ++ stack_names f ≡ f.names = rw (words-none f (most-none f none (length f.names))) (append-nil f.names) in
    λ k. record f { names = names k; blocks = blocks-same f none f.blocks k }

-- where each count is 0
pub no-leaves : (f : Function) (counts read : List ℕ) → read ≡ counts → AreCounts f counts → EachIndex read (λ k. slice_index read k ≡ 0) → HasNoLeaves f
no-leaves f counts read same own zeros name = sym (own name) ∙ (ap (λ (xs : List ℕ). slice_index_or xs name 0) (sym same) ∙ by (cases_lt name (length read)))
  where
    by : (name < length read) ⊎ (length read ≤ name) → slice_index_or read name 0 ≡ 0
    by (inl below) = zeros name below
    by (inr past) = get_or_past read name 0 past
