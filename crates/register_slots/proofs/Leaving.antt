-- The instructions and the terminator of a block leave it alike on names and on their slots.
use Rattle.register_slots.proofs.Common.{◌≡◌, ℕ, ◌%◌, List, [], ◌∷◌, length, map, nat_eq, Bool, true, false, cond, ◌&&◌, if◌then◌else◌, Option, Some, None, refl, sym, ap, subst, ◌∙◌, AllByRecursion, find, option_map, option_map_or, IrType, Operand, Inst, TypedOperand, Terminator, Function, block_of, results_of, targets, Value, Num, Poison, Machine, Ub, Exit, To, Over, ended, act, operand_value, is_poison, undef_type, returns, returned_with, returned_run, branch_on, switch_on, exit_by, exit_after, exit_insts, operand_in, typed_in, inst_in, terminator_in, holding, IsReadHeld, AreReadHeld, AreRightInsts, held_after, IsRightJump}
use Rattle.ir_tree.specs.declared.tree.IrType.TheVariants as type
use Rattle.ir_tree.specs.declared.tree.Operand.TheVariants as operand
use Rattle.ir_tree.specs.declared.tree.Case.{Case}
use Rattle.ir_tree.specs.declared.tree.Terminator.TheVariants as terminator
use Rattle.ir_tree.specs.Sites.{same_number}
use Rattle.byte_block.specs.declared.value.Value.TheVariants as value
use Rattle.ir_tree.specs.Operands.{returned_operands, operands_at_end}
use Rattle.register_slots.proofs.Held.{holding_length}
use Rattle.register_slots.proofs.Registers.{Agrees}
use Rattle.register_slots.proofs.Reading.{operand_read, typed_read}
use Rattle.register_slots.proofs.Acting.{IsSlottedIn, ActsSlotted, act_slotted}

-- ---- how a block is left

-- the same label, with what is held being right for the block that it leads to
pub record LeadsOn (f : Function) (slots : List ℕ) (lives : List (List ℕ)) (held : List (Option ℕ)) (from label to : ℕ) (m other : Machine) : Type 0 where
  pub same : to ≡ label
  pub slotted : IsSlottedIn slots (length f.names) held from m other
  pub jump : IsRightJump f slots lives held from (block_of f label)

-- both are over with one run, or both lead to one label
abbrev pub LeavesAlike : Function → List ℕ → List (List ℕ) → List (Option ℕ) → ℕ → Exit → Exit → Type 0
LeavesAlike f slots lives held from (Over run) (Over other) = other ≡ run
LeavesAlike f slots lives held from (To label m) (To to other) = LeadsOn f slots lives held from label to m other
LeavesAlike f slots lives held from (Over run) (To to other) = ⊥
LeavesAlike f slots lives held from (To label m) (Over other) = ⊥

undef_in : (slots : List ℕ) (type : IrType) (o : Operand) → undef_type type (operand_in slots o) ≡ undef_type type o
undef_in slots type (operand.Local name) = refl
undef_in slots type (operand.Number n) = refl
undef_in slots type operand.Null = refl
undef_in slots type operand.Poison = refl
undef_in slots type operand.Undef = refl

abbrev case_to : Case → ℕ
case_to c = c.to

-- what holds of the default and of each case's label
case_holds : (P : ℕ → Type 0) (test : Case → Bool) (default : ℕ) (cases : List Case) → P default → AllByRecursion P (map case_to cases) → P (option_map_or case_to (find test cases) default)
case_holds P test default [] first rest = first
case_holds P test default (c ∷ cases) first rest = by (test c) (case_holds P test default cases first rest.1)
  where
    by : (b : Bool) → P (option_map_or case_to (find test cases) default) → P (option_map_or case_to (cond b (Some c) (find test cases)) default)
    by true further = rest.0
    by false further = further

module _ (f : Function) (slots : List ℕ) (lives : List (List ℕ)) (held : List (Option ℕ)) (from : ℕ) (m : Machine) (slotted : List Value) (agrees : Agrees slots (length f.names) held m.registers slotted) (here : m.block ≡ from) where
  abbrev in_slots : Machine
  in_slots = record m { registers = slotted }

  abbrev Jumps : ℕ → Type 0
  Jumps label = IsRightJump f slots lives held from (block_of f label)

  leads_on : (label : ℕ) → Jumps label → LeadsOn f slots lives held from label label m in_slots
  leads_on label jump = record { same = refl; slotted = (record { slotted = slotted; is = refl; agrees = agrees }, here); jump = jump }

  branch_alike : (v w : Value) (l k : ℕ) → w ≡ v → Jumps l → Jumps k → LeavesAlike f slots lives held from (branch_on v l k m) (branch_on w l k in_slots)
  branch_alike v w l k e to_l to_k = subst (λ (x : Value). LeavesAlike f slots lives held from (branch_on v l k m) (branch_on x l k in_slots)) (sym e) (by v)
    where
      pick : (b : Bool) → LeavesAlike f slots lives held from (To (if b then l else k) m) (To (if b then l else k) in_slots)
      pick true = leads_on l to_l
      pick false = leads_on k to_k

      by : (x : Value) → LeavesAlike f slots lives held from (branch_on x l k m) (branch_on x l k in_slots)
      by (Num n) = pick (nat_eq (n % 2) 1)
      by Poison = refl
      by (value.Ptr p) = refl

  switch_alike : (width : ℕ) (v w : Value) (default : ℕ) (cases : List Case) → w ≡ v → Jumps default → AllByRecursion Jumps (map case_to cases)
      → LeavesAlike f slots lives held from (switch_on width v default cases m) (switch_on width w default cases in_slots)
  switch_alike width v w default cases e first rest = subst (λ (x : Value). LeavesAlike f slots lives held from (switch_on width v default cases m) (switch_on width x default cases in_slots)) (sym e) (by v)
    where
      by : (x : Value) → LeavesAlike f slots lives held from (switch_on width x default cases m) (switch_on width x default cases in_slots)
      by (Num n) = leads_on (option_map_or case_to (find (λ (c : Case). same_number width c.value n) cases) default) (case_holds Jumps (λ (c : Case). same_number width c.value n) default cases first rest)
      by Poison = refl
      by (value.Ptr p) = refl

  returned_alike : (o : Option IrType) (r : TypedOperand) → IsReadHeld slots held r.operand → (tape : List ℕ) → returned_with o (typed_in slots r) tape in_slots ≡ returned_with o r tape m
  returned_alike None r h tape = ap (λ (v : Value). returns (Some v) m) (typed_read slots (length f.names) held m.registers slotted agrees r h)
  returned_alike (Some (type.Int width)) r h tape = refl
  returned_alike (Some type.Ptr) r h tape = refl

  run_alike : (no_undef : Bool) (returned : Option TypedOperand) → AreReadHeld slots held (returned_operands returned) → (tape : List ℕ)
      → returned_run no_undef (option_map (typed_in slots) returned) tape in_slots ≡ returned_run no_undef returned tape m
  run_alike no_undef None h tape = refl
  run_alike no_undef (Some r) h tape =
      let v = typed_read slots (length f.names) held m.registers slotted agrees r h.0 in
      let back = ap (λ (o : Option IrType). returned_with o (typed_in slots r) tape in_slots) (undef_in slots r.of_type r.operand) ∙ returned_alike (undef_type r.of_type r.operand) r h.0 tape in
      λ i. if no_undef && is_poison (v i) then ended Ub m else back i

  end_alike : (no_undef : Bool) (end : Terminator) (tape : List ℕ) → AreReadHeld slots held (operands_at_end end) → AllByRecursion Jumps (targets end)
      → LeavesAlike f slots lives held from (exit_by no_undef end tape m) (exit_by no_undef (terminator_in slots end) tape in_slots)
  end_alike no_undef (terminator.Return returned) tape h jumps = run_alike no_undef returned h tape
  end_alike no_undef (terminator.Branch to) tape h jumps = leads_on to jumps.0
  end_alike no_undef (terminator.CondBranch condition if_true if_false) tape h jumps =
      branch_alike (operand_value m.registers condition) (operand_value slotted (operand_in slots condition)) if_true if_false (operand_read slots (length f.names) held m.registers slotted agrees condition h.0) jumps.0 jumps.1.0
  end_alike no_undef (terminator.Switch width operand default cases) tape h jumps =
      switch_alike width.bits (operand_value m.registers operand) (operand_value slotted (operand_in slots operand)) default cases (operand_read slots (length f.names) held m.registers slotted agrees operand h.0) jumps.0 jumps.1
  end_alike no_undef terminator.Unreachable tape h jumps = refl

-- ---- instructions

after_alike : (f : Function) (slots : List ℕ) (lives : List (List ℕ)) (held last : List (Option ℕ)) (from : ℕ) (m : Machine) (slotted : List Value) (o p : Option Machine) (go again : Machine → Exit)
    → ActsSlotted slots (length f.names) held from o p
    → ((n : Machine) (registers : List Value) → Agrees slots (length f.names) held n.registers registers → n.block ≡ from → LeavesAlike f slots lives last from (go n) (again (record n { registers = registers })))
    → LeavesAlike f slots lives last from (exit_after o m go) (exit_after p (record m { registers = slotted }) again)
after_alike f slots lives held last from m slotted None None go again acts rest = refl
after_alike f slots lives held last from m slotted (Some n) (Some other) go again acts rest =
    subst (λ (x : Machine). LeavesAlike f slots lives last from (go n) (again x)) (sym acts.0.is) (rest n acts.0.slotted acts.0.agrees acts.1)
after_alike f slots lives held last from m slotted None (Some other) go again acts rest = absurd acts
after_alike f slots lives held last from m slotted (Some n) None go again acts rest = absurd acts

pub insts_alike : (f : Function) (slots : List ℕ) (lives : List (List ℕ)) (from : ℕ) (no_undef : Bool) (insts : List Inst) (end : Terminator) (tape : List ℕ) (held : List (Option ℕ)) (m : Machine) (slotted : List Value)
    → Agrees slots (length f.names) held m.registers slotted → m.block ≡ from → AreRightInsts slots (length f.names) held insts → AreReadHeld slots (held_after slots insts held) (operands_at_end end)
    → AllByRecursion (λ (label : ℕ). IsRightJump f slots lives (held_after slots insts held) from (block_of f label)) (targets end)
    → LeavesAlike f slots lives (held_after slots insts held) from (exit_insts no_undef insts end tape m) (exit_insts no_undef (map (inst_in slots) insts) (terminator_in slots end) tape (record m { registers = slotted }))
unfolding exit_insts AreRightInsts held_after
insts_alike f slots lives from no_undef [] end tape held m slotted agrees here right read jumps = end_alike f slots lives held from m slotted agrees here no_undef end tape read jumps
insts_alike f slots lives from no_undef (inst ∷ insts) end tape held m slotted agrees here right read jumps =
    let next = holding slots (results_of inst) held in
    after_alike f slots lives next (held_after slots insts next) from m slotted (act inst tape m) (act (inst_in slots inst) tape (record m { registers = slotted }))
    (exit_insts no_undef insts end tape) (exit_insts no_undef (map (inst_in slots) insts) (terminator_in slots end) tape)
    (act_slotted slots (length f.names) held from m slotted agrees here inst right.0 tape)
    (λ n registers agrees' here'. insts_alike f slots lives from no_undef insts end tape next n registers agrees' here' right.1 read jumps)

pub held_after_length : (slots : List ℕ) (insts : List Inst) (held : List (Option ℕ)) → length (held_after slots insts held) ≡ length held
unfolding held_after
held_after_length slots [] held = refl
held_after_length slots (inst ∷ insts) held = held_after_length slots insts (holding slots (results_of inst) held) ∙ holding_length slots (results_of inst) held
