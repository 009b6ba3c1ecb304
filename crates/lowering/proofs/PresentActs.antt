-- What a machine does that has more registers after those of its function: it leaves them as they are.
use Rattle.lowering.proofs.PresentCommon.{◌≡◌, ◌⊎◌, inl, inr, ℕ, ◌+◌, ◌<◌, Bool, true, false, ◌&&◌, if◌then◌else◌, nat_eq, List, [], ◌∷◌, ◌++◌, length, set, map, Option, Some, None, option_map, refl, sym, ap, ◌∙◌, arith, AllByRecursion, cases_Bool, length-set, set-append_left, same_Some, none-some, IrType, TypedOperand, GepIndex, MemoryType, Inst, Phi, PhiEntry, Case, Terminator, Function, results_of, Value, Machine, value_result, operand_value, typed_value, typed_operand_value, choice_of, with_taken, assigned, frozen, act, Run, Exit, To, Over, exit_by}
use Rattle.points.specs.declared.outcome.Outcome.TheVariants.{Ub}
use Rattle.memory_access.specs.Accesses.{after_alloca}
use Rattle.memory_access.specs.declared.access_types.Loaded.{Loaded}
use Rattle.memory_access.specs.declared.access_types.Loaded.TheVariants as load
use Rattle.memory_access.specs.declared.access_types.Stored.{Stored}
use Rattle.memory_access.specs.declared.access_types.Stored.TheVariants as store
use Rattle.byte_block.specs.declared.block.MemoryBlock.{MemoryBlock}
use Rattle.byte_block.specs.declared.value.BlockName.TheVariants as block
use Rattle.points.specs.Run.{ended, loaded, stored, index_values, entry_value, phi_value, with_phis, returns, returned_with, undef_type, is_poison, branch_on, switch_on}
use Rattle.ir_tree.specs.Types.{object_size}
use Rattle.ir_tree.specs.Operands.{operands_of, operands_at_end}
use Rattle.lowering.proofs.PresentTrees.{IsIn, value-more}
use Rattle.lowering.proofs.Samples.{with_scratch, choice-scratch}
use Rattle.ir_tree.specs.declared.tree.Inst.TheVariants as inst
use Rattle.ir_tree.specs.declared.tree.Terminator.TheVariants as terminator
use Rattle.byte_block.specs.declared.value.Value.TheVariants.{Num, Poison, Ptr}

abbrev pub IsBelow : ℕ → ℕ → Type 0
IsBelow count name = name < count

-- ---- instructions

pub assigned-scratch : (m : Machine) (s : List Value) (into : ℕ) (v : Value) → into < length m.registers → assigned (with_scratch m s) into v ≡ with_scratch (assigned m into v) s
assigned-scratch m s into v within = ap (λ (rs : List Value). record m { registers = rs }) (set-append_left m.registers s into v within)

pub frozen-scratch : (tape : List ℕ) (m : Machine) (s : List Value) (into : ℕ) (ty : IrType) (v : Value) → into < length m.registers → frozen tape (with_scratch m s) into ty v ≡ with_scratch (frozen tape m into ty v) s
frozen-scratch tape m s into ty (Num n) within = assigned-scratch m s into (Num n) within
frozen-scratch tape m s into ty (Ptr p) within = assigned-scratch m s into (Ptr p) within
frozen-scratch tape m s into ty Poison within = rw (choice-scratch tape m s ty) (assigned-scratch (with_taken m (choice_of ty tape m)) s into (choice_of ty tape m).value within)

map_assigned : (m : Machine) (s : List Value) (into : ℕ) → into < length m.registers → (o : Option Value) → option_map (assigned (with_scratch m s) into) o ≡ option_map (λ (m' : Machine). with_scratch m' s) (option_map (assigned m into) o)
map_assigned m s into within None = refl
map_assigned m s into within (Some v) = ap Some (assigned-scratch m s into v within)

loaded-scratch : (m : Machine) (s : List Value) (into : ℕ) → into < length m.registers → (l : Loaded) → loaded (with_scratch m s) into l ≡ option_map (λ (m' : Machine). with_scratch m' s) (loaded m into l)
loaded-scratch m s into within (load.Done v) = ap Some (assigned-scratch m s into v within)
loaded-scratch m s into within load.Ub = refl

stored-scratch : (m : Machine) (s : List Value) (memory : List MemoryBlock) (st : Stored) → stored (with_scratch m s) memory st ≡ option_map (λ (m' : Machine). with_scratch m' s) (stored m memory st)
stored-scratch m s memory store.Done = refl
stored-scratch m s memory store.Ub = refl

index_values-more : (f : Function) (rs s : List Value) → length rs ≡ length f.names → (ty : MemoryType) (n : ℕ) (indices : List GepIndex) → AllByRecursion (IsIn f) (map (λ (index : GepIndex). index.operand) indices)
    → index_values (rs ++ s) ty n indices ≡ index_values rs ty n indices
index_values-more f rs s wide ty n [] all = refl
index_values-more f rs s wide ty n (index ∷ indices) all = rw (value-more f rs s index.operand wide all.0, index_values-more f rs s wide ty (n + 1) indices all.1) refl

-- an instruction does the same, and leaves the registers after the function's
pub act-scratch : (f : Function) (i : Inst) (tape : List ℕ) (m : Machine) (s : List Value) → length m.registers ≡ length f.names → AllByRecursion (IsIn f) (operands_of i) → AllByRecursion (IsBelow (length f.names)) (results_of i)
    → act i tape (with_scratch m s) ≡ option_map (λ (m' : Machine). with_scratch m' s) (act i tape m)
act-scratch f (inst.Binary into op width left right) tape m s wide all below =
    rw (value-more f m.registers s left wide all.0, value-more f m.registers s right wide all.1.0)
    (map_assigned m s into (omega (arith, below.0, wide)) (value_result op width.bits (operand_value m.registers left) (operand_value m.registers right)))
act-scratch f (inst.Icmp into predicate same_sign width left right) tape m s wide all below =
    rw (value-more f m.registers s left wide all.0, value-more f m.registers s right wide all.1.0) (ap Some (assigned-scratch m s into _ (omega (arith, below.0, wide))))
act-scratch f (inst.Cast into cast from o to) tape m s wide all below = rw (value-more f m.registers s o wide all.0) (ap Some (assigned-scratch m s into _ (omega (arith, below.0, wide))))
act-scratch f (inst.Select into condition if_true if_false) tape m s wide all below =
    rw (value-more f m.registers s condition wide all.0, value-more f m.registers s if_true.operand wide all.1.0, value-more f m.registers s if_false.operand wide all.1.1.0)
    (ap Some (assigned-scratch m s into _ (omega (arith, below.0, wide))))
act-scratch f (inst.Freeze into ty o) tape m s wide all below =
    rw (value-more f m.registers s o wide all.0) (ap Some (frozen-scratch tape m s into ty (typed_value ty (operand_value m.registers o)) (omega (arith, below.0, wide))))
act-scratch f (inst.Alloca into number ty align) tape m s wide all below =
    ap Some (assigned-scratch (record m { memory = after_alloca m.memory (block.Local m.turn number) (object_size ty) align }) s into (Ptr (record { block = block.Local m.turn number; offset = 0 })) (omega (arith, below.0, wide)))
act-scratch f (inst.Load into ty pointer align) tape m s wide all below = rw (value-more f m.registers s pointer wide all.0) (loaded-scratch m s into (omega (arith, below.0, wide)) _)
act-scratch f (inst.Store value pointer align) tape m s wide all below =
    rw (value-more f m.registers s value.operand wide all.0, value-more f m.registers s pointer wide all.1.0) (stored-scratch m s _ _)
act-scratch f (inst.GetElementPtr into inbounds nuw ty base indices) tape m s wide all below =
    rw (value-more f m.registers s base wide all.0, index_values-more f m.registers s wide ty 0 indices all.1) (ap Some (assigned-scratch m s into _ (omega (arith, below.0, wide))))

-- ---- what an instruction writes

-- the registers after an instruction with these results
abbrev pub Writes : List ℕ → List Value → List Value → Type 0
Writes [] old new = new ≡ old
Writes (x ∷ []) old new = (v : Value) × (new ≡ set old x v)
Writes (x ∷ y ∷ others) old new = ⊥

pub frozen_writes : (tape : List ℕ) (m : Machine) (into : ℕ) (ty : IrType) (v : Value) → Writes (into ∷ []) m.registers (frozen tape m into ty v).registers
frozen_writes tape m into ty (Num n) = (Num n, refl)
frozen_writes tape m into ty (Ptr p) = (Ptr p, refl)
frozen_writes tape m into ty Poison = ((choice_of ty tape m).value, refl)

writes_some : (m m' : Machine) (into : ℕ) (v : Value) → Some (assigned m into v) ≡ Some m' → Writes (into ∷ []) m.registers m'.registers
writes_some m m' into v e = (v, ap (λ (x : Machine). x.registers) (sym (same_Some (assigned m into v) m' e)))

writes_map : (m m' : Machine) (into : ℕ) (o : Option Value) → option_map (assigned m into) o ≡ Some m' → Writes (into ∷ []) m.registers m'.registers
writes_map m m' into None e = absurd (none-some m' e)
writes_map m m' into (Some v) e = writes_some m m' into v e

writes_loaded : (m m' : Machine) (into : ℕ) (l : Loaded) → loaded m into l ≡ Some m' → Writes (into ∷ []) m.registers m'.registers
writes_loaded m m' into (load.Done v) e = writes_some m m' into v e
writes_loaded m m' into load.Ub e = absurd (none-some m' e)

writes_stored : (m m' : Machine) (memory : List MemoryBlock) (st : Stored) → stored m memory st ≡ Some m' → Writes [] m.registers m'.registers
writes_stored m m' memory store.Done e = ap (λ (x : Machine). x.registers) (sym (same_Some (record m { memory = memory }) m' e))
writes_stored m m' memory store.Ub e = absurd (none-some m' e)

pub act_writes : (i : Inst) (tape : List ℕ) (m m' : Machine) → act i tape m ≡ Some m' → Writes (results_of i) m.registers m'.registers
act_writes (inst.Binary into op width left right) tape m m' e = writes_map m m' into (value_result op width.bits (operand_value m.registers left) (operand_value m.registers right)) e
act_writes (inst.Icmp into predicate same_sign width left right) tape m m' e = writes_some m m' into _ e
act_writes (inst.Cast into cast from o to) tape m m' e = writes_some m m' into _ e
act_writes (inst.Select into condition if_true if_false) tape m m' e = writes_some m m' into _ e
act_writes (inst.Freeze into ty o) tape m m' e =
    let v : Value = typed_value ty (operand_value m.registers o) in
    let w = frozen_writes tape m into ty v in
    (w.0, ap (λ (x : Machine). x.registers) (sym (same_Some (frozen tape m into ty v) m' e)) ∙ w.1)
act_writes (inst.Alloca into number ty align) tape m m' e = writes_some (record m { memory = after_alloca m.memory (block.Local m.turn number) (object_size ty) align }) m' into _ e
act_writes (inst.Load into ty pointer align) tape m m' e = writes_loaded m m' into _ e
act_writes (inst.Store value pointer align) tape m m' e = writes_stored m m' _ _ e
act_writes (inst.GetElementPtr into inbounds nuw ty base indices) tape m m' e = writes_some m m' into _ e

-- ---- phis

-- a phi's result and its operands are in the table
abbrev pub PhiFits : Function → Phi → Type 0
PhiFits f phi = (phi.into < length f.names) × AllByRecursion (IsIn f) (map (λ (entry : PhiEntry). entry.operand) phi.entries)

entry-scratch : (f : Function) (m : Machine) (s : List Value) → length m.registers ≡ length f.names → (entries : List PhiEntry) → AllByRecursion (IsIn f) (map (λ (entry : PhiEntry). entry.operand) entries)
    → entry_value (with_scratch m s) entries ≡ entry_value m entries
entry-scratch f m s wide [] all = refl
entry-scratch f m s wide (e ∷ entries) all = by (cases_Bool (nat_eq e.from m.block)) (entry-scratch f m s wide entries all.1)
  where
    by : (nat_eq e.from m.block ≡ true) ⊎ (nat_eq e.from m.block ≡ false) → entry_value (with_scratch m s) entries ≡ entry_value m entries → entry_value (with_scratch m s) (e ∷ entries) ≡ entry_value m (e ∷ entries)
    by (inl t) rest = rw t (value-more f m.registers s e.operand wide all.0)
    by (inr no') rest = rw no' rest

pub with_phis-scratch : (f : Function) (before : Machine) (s : List Value) → length before.registers ≡ length f.names → (phis : List Phi) → AllByRecursion (PhiFits f) phis → (m : Machine) → length m.registers ≡ length f.names
    → with_phis (with_scratch before s) phis (with_scratch m s) ≡ with_scratch (with_phis before phis m) s
with_phis-scratch f before s wide [] all m wide' = refl
with_phis-scratch f before s wide (phi ∷ phis) all m wide' =
    let value : phi_value (with_scratch before s) phi ≡ phi_value before phi = ap (typed_value phi.of_type) (entry-scratch f before s wide phi.entries all.0.1) in
    let one = assigned-scratch m s phi.into (phi_value before phi) (omega (arith, all.0.0, wide')) in
    ap (λ (v : Value). with_phis (with_scratch before s) phis (assigned (with_scratch m s) phi.into v)) value
    ∙ (ap (with_phis (with_scratch before s) phis) one
    ∙ with_phis-scratch f before s wide phis all.1 (assigned m phi.into (phi_value before phi)) (length-set m.registers phi.into (phi_value before phi) ∙ wide'))

-- ---- the end of a block

abbrev pub exit-scratch : List Value → Exit → Exit
exit-scratch s (To label m) = To label (with_scratch m s)
exit-scratch s (Over run) = Over run

branch-scratch : (v : Value) (if_true if_false : ℕ) (m : Machine) (s : List Value) → branch_on v if_true if_false (with_scratch m s) ≡ exit-scratch s (branch_on v if_true if_false m)
branch-scratch (Num n) if_true if_false m s = refl
branch-scratch Poison if_true if_false m s = refl
branch-scratch (Ptr p) if_true if_false m s = refl

switch-scratch : (width : ℕ) (v : Value) (default : ℕ) (cases : List Case) (m : Machine) (s : List Value) → switch_on width v default cases (with_scratch m s) ≡ exit-scratch s (switch_on width v default cases m)
switch-scratch width (Num n) default cases m s = refl
switch-scratch width Poison default cases m s = refl
switch-scratch width (Ptr p) default cases m s = refl

returned-scratch : (f : Function) (returned : TypedOperand) (tape : List ℕ) (m : Machine) (s : List Value) → length m.registers ≡ length f.names → IsIn f returned.operand → (undef : Option IrType)
    → returned_with undef returned tape (with_scratch m s) ≡ returned_with undef returned tape m
returned-scratch f returned tape m s wide within (Some ty) = rw (choice-scratch tape m s ty) refl
returned-scratch f returned tape m s wide within None = ap (λ (v : Value). returns (Some (typed_value returned.of_type v)) m) (value-more f m.registers s returned.operand wide within)

pub exit_by-scratch : (f : Function) (no_undef : Bool) (end : Terminator) (tape : List ℕ) (m : Machine) (s : List Value) → length m.registers ≡ length f.names → AllByRecursion (IsIn f) (operands_at_end end)
    → exit_by no_undef end tape (with_scratch m s) ≡ exit-scratch s (exit_by no_undef end tape m)
exit_by-scratch f no_undef (terminator.Return None) tape m s wide all = refl
exit_by-scratch f no_undef (terminator.Return (Some returned)) tape m s wide all =
    let undef : Option IrType = undef_type returned.of_type returned.operand in
    ap (λ (v : Value). Over (if no_undef && is_poison (typed_value returned.of_type v) then ended Ub m else returned_with undef returned tape (with_scratch m s))) (value-more f m.registers s returned.operand wide all.0)
    ∙ ap (λ (run : Run). Over (if no_undef && is_poison (typed_operand_value m.registers returned) then ended Ub m else run)) (returned-scratch f returned tape m s wide all.0 undef)
exit_by-scratch f no_undef (terminator.Branch to) tape m s wide all = refl
exit_by-scratch f no_undef (terminator.CondBranch condition if_true if_false) tape m s wide all =
    rw (value-more f m.registers s condition wide all.0) (branch-scratch (operand_value m.registers condition) if_true if_false m s)
exit_by-scratch f no_undef (terminator.Switch width o default cases) tape m s wide all = rw (value-more f m.registers s o wide all.0) (switch-scratch width.bits (operand_value m.registers o) default cases m s)
exit_by-scratch f no_undef terminator.Unreachable tape m s wide all = refl
