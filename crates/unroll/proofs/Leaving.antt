-- How a block is left: for one of its terminator's labels, with the count of backward jumps that it was entered with.
use Rattle.std.proofs.Common.{◌≡◌, ℕ, ◌%◌, List, [], ◌∷◌, map, ◌==◌, nat_eq, Bool, true, false, cond, if◌then◌else◌, Option, Some, None, ◌⊎◌, inl, inr, refl, sym, ap, subst}
use Rattle.std.specs.List.{find}
use Rattle.std.specs.Option.{option_map, option_map_or}
use Rattle.std.proofs.lemmas.Bool.{cases_Bool, eqb-true, eqb-false}
use Rattle.ir_tree.specs.declared.tree.IrType.{IrType}
use Rattle.ir_tree.specs.declared.tree.Inst.{Inst}
use Rattle.ir_tree.specs.declared.tree.Inst.TheVariants.{Binary, Icmp, Cast, Select, Freeze, Alloca, Load, Store, GetElementPtr}
use Rattle.ir_tree.specs.declared.tree.Phi.{Phi}
use Rattle.ir_tree.specs.declared.tree.Case.{Case}
use Rattle.ir_tree.specs.declared.tree.Terminator.{Terminator}
use Rattle.ir_tree.specs.declared.tree.Terminator.TheVariants as terminator
use Rattle.ir_tree.specs.declared.tree.Block.{Block}
use Rattle.ir_tree.specs.Sites.{same_number}
use Rattle.ir_tree.specs.Flow.{targets}
use Rattle.byte_block.specs.declared.value.Value.{Value}
use Rattle.byte_block.specs.declared.value.Value.TheVariants.{Num, Poison}
use Rattle.byte_block.specs.declared.value.Value.TheVariants as value
use Rattle.byte_block.specs.declared.block.MemoryBlock.{MemoryBlock}
use Rattle.memory_access.specs.declared.access_types.Loaded.{Loaded}
use Rattle.memory_access.specs.declared.access_types.Loaded.TheVariants as load
use Rattle.memory_access.specs.declared.access_types.Stored.{Stored}
use Rattle.memory_access.specs.declared.access_types.Stored.TheVariants as store
use Rattle.memory_access.specs.Accesses.{load_result, store_result, after_store}
use Rattle.points.specs.declared.machine.Machine.{Machine}
use Rattle.points.specs.Table.{value_result}
use Rattle.points.specs.Run.{Exit, Over, To, act, assigned, frozen, operand_value, typed_value, typed_operand_value, access_of, loaded, stored, phi_value, with_phis, entered, branch_on, switch_on, exit_by, exit_after, exit_insts, exit_of}
use Rattle.unroll.specs.declared.layered.Edge.{Edge}
use Rattle.unroll.specs.Layers.{edge_of, labels_of}

abbrev pub Among : ℕ → List ℕ → Type 0
Among label [] = ⊥
Among label (l ∷ ls) = (label ≡ l) ⊎ Among label ls

abbrev pub Leaves : ℕ → List ℕ → Exit → Type 0
Leaves turn labels (Over run) = Unit {0}
Leaves turn labels (To label m) = (m.turn ≡ turn) × Among label labels

-- ---- instructions keep the count

abbrev KeepsTurn : ℕ → Option Machine → Type 0
KeepsTurn turn None = Unit {0}
KeepsTurn turn (Some m) = m.turn ≡ turn

assigned_turn : (m : Machine) (into : ℕ) (o : Option Value) → KeepsTurn m.turn (option_map (assigned m into) o)
assigned_turn m into None = tt
assigned_turn m into (Some v) = refl

frozen_turn : (tape : List ℕ) (m : Machine) (into : ℕ) (type : IrType) (v : Value) → (frozen tape m into type v).turn ≡ m.turn
frozen_turn tape m into type (Num n) = refl
frozen_turn tape m into type Poison = refl
frozen_turn tape m into type (value.Ptr p) = refl

loaded_turn : (m : Machine) (into : ℕ) (result : Loaded) → KeepsTurn m.turn (loaded m into result)
loaded_turn m into load.Ub = tt
loaded_turn m into (load.Done v) = refl

stored_turn : (m : Machine) (memory : List MemoryBlock) (result : Stored) → KeepsTurn m.turn (stored m memory result)
stored_turn m memory store.Ub = tt
stored_turn m memory store.Done = refl

act_turn : (inst : Inst) (tape : List ℕ) (m : Machine) → KeepsTurn m.turn (act inst tape m)
act_turn (Binary into op width left right) tape m = assigned_turn m into (value_result op width.bits (operand_value m.registers left) (operand_value m.registers right))
act_turn (Icmp into predicate same_sign width left right) tape m = refl
act_turn (Cast into cast from operand to) tape m = refl
act_turn (Select into condition if_true if_false) tape m = refl
act_turn (Freeze into type operand) tape m = frozen_turn tape m into type (typed_value type (operand_value m.registers operand))
act_turn (Alloca into number type align) tape m = refl
act_turn (Load into type pointer align) tape m = loaded_turn m into (load_result m.memory (operand_value m.registers pointer) (access_of type) align)
act_turn (Store v pointer align) tape m =
    stored_turn m (after_store m.memory (typed_operand_value m.registers v) (access_of v.of_type) (operand_value m.registers pointer) align)
    (store_result m.memory (access_of v.of_type) (operand_value m.registers pointer) align)
act_turn (GetElementPtr into inbounds nuw type base indices) tape m = refl

phis_turn : (before : Machine) (phis : List Phi) (m : Machine) → (with_phis before phis m).turn ≡ m.turn
phis_turn before [] m = refl
phis_turn before (phi ∷ phis) m = phis_turn before phis (assigned m phi.into (phi_value before phi))

-- ---- terminators lead to their labels

among_two : (b : Bool) (l k : ℕ) → Among (if b then l else k) (l ∷ k ∷ [])
among_two true l k = inl refl
among_two false l k = inr (inl refl)

branch_leaves : (v : Value) (l k : ℕ) (m : Machine) → Leaves m.turn (l ∷ k ∷ []) (branch_on v l k m)
branch_leaves (Num n) l k m = (refl, among_two (nat_eq (n % 2) 1) l k)
branch_leaves Poison l k m = tt
branch_leaves (value.Ptr p) l k m = tt

abbrev case_to : Case → ℕ
case_to c = c.to

among_cases : (test : Case → Bool) (default : ℕ) (cases : List Case) → Among (option_map_or case_to (find test cases) default) (default ∷ map case_to cases)
among_cases test default [] = inl refl
among_cases test default (c ∷ cases) = by (test c) (among_cases test default cases)
  where
    further : (label : ℕ) → Among label (default ∷ map case_to cases) → Among label (default ∷ c.to ∷ map case_to cases)
    further label (inl e) = inl e
    further label (inr rest) = inr (inr rest)

    by : (b : Bool) → Among (option_map_or case_to (find test cases) default) (default ∷ map case_to cases) → Among (option_map_or case_to (cond b (Some c) (find test cases)) default) (default ∷ c.to ∷ map case_to cases)
    by true rest = inr (inl refl)
    by false rest = further _ rest

switch_leaves : (width : ℕ) (v : Value) (default : ℕ) (cases : List Case) (m : Machine) → Leaves m.turn (default ∷ map case_to cases) (switch_on width v default cases m)
switch_leaves width (Num n) default cases m = (refl, among_cases (λ (c : Case). same_number width c.value n) default cases)
switch_leaves width Poison default cases m = tt
switch_leaves width (value.Ptr p) default cases m = tt

end_leaves : (no_undef : Bool) (end : Terminator) (tape : List ℕ) (m : Machine) → Leaves m.turn (targets end) (exit_by no_undef end tape m)
end_leaves no_undef (terminator.Return returned) tape m = tt
end_leaves no_undef (terminator.Branch to) tape m = (refl, inl refl)
end_leaves no_undef (terminator.CondBranch condition if_true if_false) tape m = branch_leaves (operand_value m.registers condition) if_true if_false m
end_leaves no_undef (terminator.Switch width operand default cases) tape m = switch_leaves width.bits (operand_value m.registers operand) default cases m
end_leaves no_undef terminator.Unreachable tape m = tt

-- ---- a block

after_leaves : (turn : ℕ) (labels : List ℕ) (o : Option Machine) (m : Machine) (go : Machine → Exit) → KeepsTurn turn o → ((n : Machine) → n.turn ≡ turn → Leaves turn labels (go n)) → Leaves turn labels (exit_after o m go)
after_leaves turn labels None m go keeps rest = tt
after_leaves turn labels (Some n) m go keeps rest = rest n keeps

insts_leave : (no_undef : Bool) (insts : List Inst) (end : Terminator) (tape : List ℕ) (m : Machine) → Leaves m.turn (targets end) (exit_insts no_undef insts end tape m)
unfolding exit_insts
insts_leave no_undef [] end tape m = end_leaves no_undef end tape m
insts_leave no_undef (inst ∷ insts) end tape m = after_leaves m.turn (targets end) (act inst tape m) m (exit_insts no_undef insts end tape) (act_turn inst tape m)
    (λ n same. subst (λ turn. Leaves turn (targets end) (exit_insts no_undef insts end tape n)) same (insts_leave no_undef insts end tape n))

pub block_leaves : (no_undef : Bool) (block : Option Block) (tape : List ℕ) (m : Machine) → Leaves m.turn (labels_of block) (exit_of no_undef block tape m)
block_leaves no_undef None tape m = tt
block_leaves no_undef (Some b) tape m = subst (λ turn. Leaves turn (targets b.terminator) (exit_insts no_undef b.insts b.terminator tape (entered b m))) (phis_turn m b.phis m) (insts_leave no_undef b.insts b.terminator tape (entered b m))

-- ---- the edge of a label

pub edge_at : (edge : ℕ → Edge) (place : ℕ → ℕ) (labels : List ℕ) (label : ℕ) → Among label labels → edge_of label labels (map edge (map place labels)) ≡ edge (place label)
edge_at edge place [] label among = absurd among
edge_at edge place (l ∷ labels) label (inl e) = elim (cases_Bool (label == l)) [
  | inl t ↦ rw t (ap (λ (k : ℕ). edge (place k)) (sym e))
  | inr f ↦ absurd (eqb-false label l f e)
]
edge_at edge place (l ∷ labels) label (inr rest) = elim (cases_Bool (label == l)) [
  | inl t ↦ rw t (ap (λ (k : ℕ). edge (place k)) (sym (eqb-true label l t)))
  | inr f ↦ rw f (edge_at edge place labels label rest)
]
