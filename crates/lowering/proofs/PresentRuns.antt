-- A function's lowered one does what its run with trees does.
use Rattle.lowering.proofs.PresentCommon.{◌≡◌, ◌⊎◌, inl, inr, ℕ, zero, suc, ◌+◌, ◌<◌, ◌≤◌, Bool, true, false, nat_lt, nat_eq, if◌then◌else◌, List, [], ◌∷◌, ◌++◌, length, get_or, set, map, replicate, slice_get, Contains, Option, Some, None, option_map, refl, sym, ap, subst, ◌∙◌, arith, append_assoc, append-nil, flat_map, AllByRecursion, position_or_len, ◌==◌, cases_Bool, both_ways, length-set, length-map, set-append_left, slice_get-map, IrType, Operand, TypedOperand, Inst, Phi, PhiEntry, Case, Terminator, Block, Parameter, Function, block_of, targets, assigned_with, carries, end_refuses_undef, Value, Machine, operand_value, typed_value, exit_by, Run, Exit, To, Over, scratch, computed, stack_height, Tree, Sample, TreeMachine}
unfoldable use Rattle.lowering.proofs.PresentCommon.{exit_insts, sample}
use Rattle.std.proofs.Common.{length-append, ◌%◌}
use Rattle.std.proofs.lemmas.List.{length-replicate, get_or-replicate, get_or_past}
use Rattle.std.proofs.lemmas.Bool.{cases_lt}
use Rattle.ir_tree.specs.Sites.{same_number, IsNumbered, sites}
use Rattle.ir_tree.specs.Operands.{operands_at_end}
use Rattle.ir_tree.specs.declared.sites.Site.TheVariants.{Defines}
use Rattle.ir_tree.specs.declared.sites.Part.TheVariants as part
use Rattle.points.specs.declared.outcome.Outcome.TheVariants.{Ub, Beyond}
use Rattle.points.specs.declared.point.Input.{Input}
use Rattle.points.specs.Run.{ended, phi_value, with_phis, entered, returns, returned_run, branch_on, switch_on, case_for, exit_of, Go, jump, go_on, argument_value, with_args, first_machine, breaks_noundef, run_of}
unfoldable use Rattle.points.specs.Run.{forward, run_turns}
use Rattle.lowering.specs.Laws.{SamplesArePresent}
use Rattle.lowering.proofs.Makers.{DividesNoUndef, no_undef_divided}
use Rattle.lowering.specs.Lowered.{carries_name, lowered_inst, insts_at_end, lowered_end, lowered_block, lowered, stack_names, longest}
unfoldable use Rattle.lowering.specs.Lowered.{words_from}
use Rattle.lowering.specs.Trees.{TreeExit, GoTo, Ended, TreeGo, register_tree, act_with_trees, entered_with_trees, left_by, returned_tree, exit_with_trees, go_after, block_with_trees, jump_with_trees, go_on_with_trees, first_tree_machine, run_with_trees}
unfoldable use Rattle.lowering.specs.Trees.{with_tree, phi_results, insts_with_trees, forward_with_trees, turns_with_trees}
use Rattle.ir_tree.proofs.Definers.{all_at}
use Rattle.ir_tree.proofs.Standing.{parameter_site}
use Rattle.lowering.proofs.Samples.{with_scratch, Computes}
use Rattle.lowering.proofs.Paths.{Misses, IsReached, missed_before, one_part, none_in}
use Rattle.lowering.proofs.PathSites.{IsAccepted, IsUsable, MissedAt, phi_usable, end_usable, phi_within, has_maker, maker_at, defined_at_result}
use Rattle.lowering.proofs.PathsClosed.{closed_before, missed_start, missed_end, missed_on, next_block}
use Rattle.lowering.proofs.PresentHolds.{Holds, IsHeld, weaken, assign, name_held}
use Rattle.lowering.proofs.PresentActs.{PhiFits, exit-scratch, exit_by-scratch, with_phis-scratch}
use Rattle.lowering.proofs.PresentSteps.{IsPlace, Steps, steps, samples, sampled_value, all_usable_in}
use Rattle.ir_tree.specs.declared.tree.Operand.TheVariants as operand
use Rattle.ir_tree.specs.declared.tree.Terminator.TheVariants as terminator
use Rattle.byte_block.specs.declared.value.Value.TheVariants.{Num, Poison, Ptr}

-- ---- how a block is left

-- both go on to a label, and agree
pub record GoesOn (f : Function) (k : ℕ) (b : Block) (e : Exit) (e' : TreeExit) : Type 0 where
  pub label : ℕ
  pub next : TreeMachine
  pub after : List Value
  pub long : length after ≡ stack_height f
  pub is : e ≡ To label (with_scratch next.machine after)
  pub is_too : e' ≡ GoTo label next
  pub leads : Contains (targets b.terminator) label
  pub held : Holds f (Misses f k (assigned_with b b.insts)) next.machine.registers next.trees

-- both end the run, and agree
abbrev pub BothEnd : Exit → TreeExit → Type 0
BothEnd e e' = (run : Run) × (e ≡ Over run) × (e' ≡ Ended run)

abbrev pub AreAlike : Function → ℕ → Block → Exit → TreeExit → Type 0
AreAlike f k b e e' = BothEnd e e' ⊎ GoesOn f k b e e'

-- where an end goes on, it leads there
branch_leads : (v : Value) (if_true if_false label : ℕ) (m m' : Machine) → branch_on v if_true if_false m ≡ To label m' → (m ≡ m') × Contains (if_true ∷ if_false ∷ []) label
branch_leads (Num n) if_true if_false label m m' e = by (nat_eq (n % 2) 1) e
  where
    by : (t : Bool) → To (if t then if_true else if_false) m ≡ To label m' → (m ≡ m') × Contains (if_true ∷ if_false ∷ []) label
    by true e' = ((let is : m ≡ m' = cc in is), (0, omega arith, (let is : if_true ≡ label = cc in is)))
    by false e' = ((let is : m ≡ m' = cc in is), (1, omega arith, (let is : if_false ≡ label = cc in is)))
branch_leads Poison if_true if_false label m m' e = absurd (let never : Over (ended Ub m) ≡ To label m' = e in cc)
branch_leads (Ptr p) if_true if_false label m m' e = absurd (let never : Over (ended Ub m) ≡ To label m' = e in cc)

case_leads : (width n default : ℕ) (cases : List Case) → Contains (default ∷ map (λ (c : Case). c.to) cases) (case_for width n default cases)
case_leads width n default [] = (0, omega arith, refl)
case_leads width n default (c ∷ cases) = by (cases_Bool (same_number width c.value n)) (case_leads width n default cases)
  where
    later : (x : ℕ) → Contains (default ∷ map (λ (d : Case). d.to) cases) x → Contains (default ∷ c.to ∷ map (λ (d : Case). d.to) cases) x
    later x found = at found.0 found.1 found.2
      where
        at : (k : ℕ) → k < length (default ∷ map (λ (d : Case). d.to) cases) → get_or (default ∷ map (λ (d : Case). d.to) cases) k x ≡ x → Contains (default ∷ c.to ∷ map (λ (d : Case). d.to) cases) x
        at zero below e = (0, omega arith, e)
        at (suc k) below e = (suc (suc k), omega (arith, below), e)

    by : (same_number width c.value n ≡ true) ⊎ (same_number width c.value n ≡ false) → Contains (default ∷ map (λ (d : Case). d.to) cases) (case_for width n default cases) → Contains (default ∷ c.to ∷ map (λ (d : Case). d.to) cases) (case_for width n default (c ∷ cases))
    by (inl t) rest = rw t (1, omega arith, refl)
    by (inr no') rest = rw no' (later (case_for width n default cases) rest)

switch_leads : (width : ℕ) (v : Value) (default label : ℕ) (cases : List Case) (m m' : Machine) → switch_on width v default cases m ≡ To label m' → (m ≡ m') × Contains (default ∷ map (λ (c : Case). c.to) cases) label
switch_leads width (Num n) default label cases m m' e = (
  (let is : m ≡ m' = cc in is),
  subst (λ (x : ℕ). Contains (default ∷ map (λ (c : Case). c.to) cases) x) (let is : case_for width n default cases ≡ label = cc in is) (case_leads width n default cases),
)
switch_leads width Poison default label cases m m' e = absurd (let never : Over (ended Ub m) ≡ To label m' = e in cc)
switch_leads width (Ptr p) default label cases m m' e = absurd (let never : Over (ended Ub m) ≡ To label m' = e in cc)

exit_leads : (no_undef : Bool) (end : Terminator) (tape : List ℕ) (label : ℕ) (m m' : Machine) → exit_by no_undef end tape m ≡ To label m' → (m ≡ m') × Contains (targets end) label
exit_leads no_undef (terminator.Return returned) tape label m m' e = absurd (let never : Over (returned_run no_undef returned tape m) ≡ To label m' = e in cc)
exit_leads no_undef (terminator.Branch to) tape label m m' e = ((let same : To to m ≡ To label m' = e in let is : m ≡ m' = cc in is), (0, omega arith, (let same : To to m ≡ To label m' = e in let is : to ≡ label = cc in is)))
exit_leads no_undef (terminator.CondBranch condition if_true if_false) tape label m m' e = branch_leads (operand_value m.registers condition) if_true if_false label m m' e
exit_leads no_undef (terminator.Switch width o default cases) tape label m m' e = switch_leads width.bits (operand_value m.registers o) default label cases m m' e
exit_leads no_undef terminator.Unreachable tape label m m' e = absurd (let never : Over (ended Ub m) ≡ To label m' = e in cc)

-- ---- the end of a block

-- an end that samples no tree
plain_end : (f : Function) (k : ℕ) (b : Block) (tape : List ℕ) (t : TreeMachine) (s : List Value) → IsAccepted f → slice_get f.blocks k ≡ Some b → length s ≡ stack_height f → Holds f (Misses f k (assigned_with b b.insts)) t.machine.registers t.trees
    → insts_at_end f b.terminator ≡ [] → lowered_end f b.terminator ≡ b.terminator → exit_with_trees f.returns_no_undef b.terminator tape t ≡ left_by t (exit_by f.returns_no_undef b.terminator tape t.machine)
    → AreAlike f k b (exit_insts f.returns_no_undef (insts_at_end f b.terminator) (lowered_end f b.terminator) tape (with_scratch t.machine s)) (exit_with_trees f.returns_no_undef b.terminator tape t)
unfolding exit_insts
plain_end f k b tape t s accepted stands long held none same plain = by (exit_by f.returns_no_undef b.terminator tape t.machine) refl
  where
    left : exit_insts f.returns_no_undef (insts_at_end f b.terminator) (lowered_end f b.terminator) tape (with_scratch t.machine s) ≡ exit-scratch s (exit_by f.returns_no_undef b.terminator tape t.machine)
    left =
        ap (λ (insts : List Inst). exit_insts f.returns_no_undef insts (lowered_end f b.terminator) tape (with_scratch t.machine s)) none
        ∙ (ap (λ (end : Terminator). exit_by f.returns_no_undef end tape (with_scratch t.machine s)) same
        ∙ exit_by-scratch f f.returns_no_undef b.terminator tape t.machine s held.wide
        (all_usable_in f (Misses f k (assigned_with b b.insts)) (end_refuses_undef f.returns_no_undef b.terminator) (operands_at_end b.terminator) (end_usable f k b accepted stands)))

    by : (e : Exit) → exit_by f.returns_no_undef b.terminator tape t.machine ≡ e
        → AreAlike f k b (exit_insts f.returns_no_undef (insts_at_end f b.terminator) (lowered_end f b.terminator) tape (with_scratch t.machine s)) (exit_with_trees f.returns_no_undef b.terminator tape t)
    by (Over run) e = inl (run, left ∙ ap (exit-scratch s) e, plain ∙ ap (left_by t) e)
    by (To label m) e =
        let w = exit_leads f.returns_no_undef b.terminator tape label t.machine m e in
        inr (record {
          label = label;
          next = t;
          after = s;
          long = long;
          is = left ∙ (ap (exit-scratch s) e ∙ ap (λ (x : Machine). To label (with_scratch x s)) (sym w.0));
          is_too = plain ∙ (ap (left_by t) e ∙ ap (λ (x : Machine). GoTo label (record t { machine = x })) (sym w.0));
          leads = w.1;
          held = held;
        })

-- a tree that is returned
returned_end : (f : Function) (P : ℕ → Type 0) (tape : List ℕ) (t : TreeMachine) (s : List Value) (ty : IrType) (name : ℕ) → IsAccepted f → length s ≡ stack_height f → Holds f P t.machine.registers t.trees
    → IsUsable f P false (operand.Local name) → carries f (operand.Local name) ≡ true → (returned : TypedOperand) → returned ≡ record { of_type = ty; operand = operand.Local name }
    → BothEnd (exit_insts false (insts_at_end f (terminator.Return (Some returned))) (lowered_end f (terminator.Return (Some returned))) tape (with_scratch t.machine s)) (exit_with_trees false (terminator.Return (Some returned)) tape t)
unfolding exit_insts
returned_end f P tape t s ty name accepted long held usable does returned is = rw is (run, left, right)
  where
    w : IsHeld f t.machine.registers t.trees name
    w = name_held f P false t name held usable does

    x : Sample
    x = sample w.0 tape t.machine

    c : Computes f tape t.machine t.machine.registers s 0 ty (operand.Local name) (sample w.0 tape t.machine)
    c = samples f P tape t s ty name accepted held long usable.0 w

    run : Run
    run = returns (Some (typed_value ty x.value)) x.machine

    right : exit_with_trees false (terminator.Return (Some (record { of_type = ty; operand = operand.Local name }))) tape t ≡ Ended run
    right =
        ap (λ (r : Option Tree). returned_tree (record { of_type = ty; operand = operand.Local name }) r tape t (left_by t (exit_by false (terminator.Return (Some (record { of_type = ty; operand = operand.Local name }))) tape t.machine))) w.1

    end : Terminator
    end = terminator.Return (Some (record { of_type = ty; operand = operand.Local (scratch f 0) }))

    left : exit_insts false (insts_at_end f (terminator.Return (Some (record { of_type = ty; operand = operand.Local name })))) (lowered_end f (terminator.Return (Some (record { of_type = ty; operand = operand.Local name })))) tape (with_scratch t.machine s) ≡ Over run
    left =
        ap
        (λ (e : Bool). exit_insts false (if e then computed f 0 ty (operand.Local name) else []) (terminator.Return (Some (record { of_type = ty; operand = if e then operand.Local (scratch f 0) else operand.Local name }))) tape (with_scratch t.machine s)) does
        ∙ (ap (λ (insts : List Inst). exit_insts false insts end tape (with_scratch t.machine s)) (sym (append-nil (computed f 0 ty (operand.Local name))))
        ∙ (c.leads false [] end ∙ ap (λ (v : Value). Over (returns (Some (typed_value ty v)) x.machine)) (sampled_value f tape t s ty name w.0 does c)))

end_alike : (f : Function) (k : ℕ) (b : Block) (tape : List ℕ) (t : TreeMachine) (s : List Value) → IsAccepted f → slice_get f.blocks k ≡ Some b → length s ≡ stack_height f → Holds f (Misses f k (assigned_with b b.insts)) t.machine.registers t.trees
    → AreAlike f k b (exit_insts f.returns_no_undef (insts_at_end f b.terminator) (lowered_end f b.terminator) tape (with_scratch t.machine s)) (exit_with_trees f.returns_no_undef b.terminator tape t)
end_alike f k b tape t s accepted stands long held = by b.terminator refl
  where
    P : ℕ → Type 0
    P = Misses f k (assigned_with b b.insts)

    Goal : Type 0
    Goal = AreAlike f k b (exit_insts f.returns_no_undef (insts_at_end f b.terminator) (lowered_end f b.terminator) tape (with_scratch t.machine s)) (exit_with_trees f.returns_no_undef b.terminator tape t)

    plain : insts_at_end f b.terminator ≡ [] → lowered_end f b.terminator ≡ b.terminator → exit_with_trees f.returns_no_undef b.terminator tape t ≡ left_by t (exit_by f.returns_no_undef b.terminator tape t.machine) → Goal
    plain none same values = plain_end f k b tape t s accepted stands long held none same values

    -- no tree is returned
    no_tree : (returned : TypedOperand) → b.terminator ≡ terminator.Return (Some returned) → carries_name f returned.operand ≡ false → register_tree t returned.operand ≡ None → Goal
    no_tree returned e nothing none =
        plain
        (ap (insts_at_end f) e ∙ ap (λ (c : Bool). if c then computed f 0 returned.of_type returned.operand else []) nothing)
        (ap (lowered_end f) e ∙ (ap (λ (c : Bool). terminator.Return (Some (record { of_type = returned.of_type; operand = if c then operand.Local (scratch f 0) else returned.operand }))) nothing ∙ sym e))
        (rw e (values f.returns_no_undef))
      where
        values : (no_undef : Bool) → exit_with_trees no_undef (terminator.Return (Some returned)) tape t ≡ left_by t (exit_by no_undef (terminator.Return (Some returned)) tape t.machine)
        values true = refl
        values false = ap (λ (r : Option Tree). returned_tree returned r tape t (left_by t (exit_by false (terminator.Return (Some returned)) tape t.machine))) none

    no_carrier : (returned : TypedOperand) (name : ℕ) → b.terminator ≡ terminator.Return (Some returned) → returned.operand ≡ operand.Local name → carries f (operand.Local name) ≡ false → Goal
    no_carrier returned name e is not' = no_tree returned e (ap (carries_name f) is ∙ not') (ap (register_tree t) is ∙ held.plain name not')

    carrier : (returned : TypedOperand) (name : ℕ) → b.terminator ≡ terminator.Return (Some returned) → returned.operand ≡ operand.Local name → carries f (operand.Local name) ≡ true → (no_undef : Bool) → f.returns_no_undef ≡ no_undef → Goal
    carrier returned name e is does true strict =
        let usable : AllByRecursion (IsUsable f P (end_refuses_undef f.returns_no_undef (terminator.Return (Some returned)))) (returned.operand ∷ []) = rw e at (end_usable f k b accepted stands) in
        let strictly : IsUsable f P (f.returns_no_undef) (operand.Local name) = rw is at usable.0 in
        absurd (both_ways _ (strictly.2 strict) does)
    carrier returned name e is does false lax =
        let usable : AllByRecursion (IsUsable f P (end_refuses_undef f.returns_no_undef (terminator.Return (Some returned)))) (returned.operand ∷ []) = rw e at (end_usable f k b accepted stands) in
        let laxly : IsUsable f P (f.returns_no_undef) (operand.Local name) = rw is at usable.0 in
        let laxly' : IsUsable f P false (operand.Local name) = subst (λ (r : Bool). IsUsable f P r (operand.Local name)) lax laxly in
        let returns' = returned_end f P tape t s returned.of_type name accepted long held laxly' does returned (ap (λ (o : Operand). record { of_type = returned.of_type; operand = o }) is) in
        inl
        (subst (λ (r : Bool). BothEnd (exit_insts r (insts_at_end f b.terminator) (lowered_end f b.terminator) tape (with_scratch t.machine s)) (exit_with_trees r b.terminator tape t)) (sym lax)
        (subst (λ (end : Terminator). BothEnd (exit_insts false (insts_at_end f end) (lowered_end f end) tape (with_scratch t.machine s)) (exit_with_trees false end tape t)) (sym e) returns'))

    by_operand : (returned : TypedOperand) (o : Operand) → b.terminator ≡ terminator.Return (Some returned) → returned.operand ≡ o → Goal
    by_operand returned (operand.Local name) e is = choose (cases_Bool (carries f (operand.Local name)))
      where
        choose : (carries f (operand.Local name) ≡ true) ⊎ (carries f (operand.Local name) ≡ false) → Goal
        choose (inl does) = carrier returned name e is does f.returns_no_undef refl
        choose (inr not') = no_carrier returned name e is not'
    by_operand returned (operand.Number n) e is = no_tree returned e (ap (carries_name f) is) (ap (register_tree t) is)
    by_operand returned operand.Null e is = no_tree returned e (ap (carries_name f) is) (ap (register_tree t) is)
    by_operand returned operand.Poison e is = no_tree returned e (ap (carries_name f) is) (ap (register_tree t) is)
    by_operand returned operand.Undef e is = no_tree returned e (ap (carries_name f) is) (ap (register_tree t) is)

    other : (end : Terminator) → b.terminator ≡ end → insts_at_end f end ≡ [] → lowered_end f end ≡ end → ((no_undef : Bool) → exit_with_trees no_undef end tape t ≡ left_by t (exit_by no_undef end tape t.machine)) → Goal
    other end e none same values = plain (ap (insts_at_end f) e ∙ none) (ap (lowered_end f) e ∙ (same ∙ sym e)) (rw e (values f.returns_no_undef))

    by : (end : Terminator) → b.terminator ≡ end → Goal
    by (terminator.Return (Some returned)) e = by_operand returned returned.operand e refl
    by (terminator.Return None) e = other (terminator.Return None) e refl refl both
      where
        both : (no_undef : Bool) → exit_with_trees no_undef (terminator.Return None) tape t ≡ left_by t (exit_by no_undef (terminator.Return None) tape t.machine)
        both true = refl
        both false = refl
    by (terminator.Branch to) e = other (terminator.Branch to) e refl refl both
      where
        both : (no_undef : Bool) → exit_with_trees no_undef (terminator.Branch to) tape t ≡ left_by t (exit_by no_undef (terminator.Branch to) tape t.machine)
        both true = refl
        both false = refl
    by (terminator.CondBranch condition if_true if_false) e = other (terminator.CondBranch condition if_true if_false) e refl refl both
      where
        both : (no_undef : Bool) → exit_with_trees no_undef (terminator.CondBranch condition if_true if_false) tape t ≡ left_by t (exit_by no_undef (terminator.CondBranch condition if_true if_false) tape t.machine)
        both true = refl
        both false = refl
    by (terminator.Switch width o default cases) e = other (terminator.Switch width o default cases) e refl refl both
      where
        both : (no_undef : Bool) → exit_with_trees no_undef (terminator.Switch width o default cases) tape t ≡ left_by t (exit_by no_undef (terminator.Switch width o default cases) tape t.machine)
        both true = refl
        both false = refl
    by terminator.Unreachable e = other terminator.Unreachable e refl refl both
      where
        both : (no_undef : Bool) → exit_with_trees no_undef terminator.Unreachable tape t ≡ left_by t (exit_by no_undef terminator.Unreachable tape t.machine)
        both true = refl
        both false = refl

-- ---- a block

-- these are the instructions after the first ones
abbrev Follows : List Inst → ℕ → List Inst → Type 0
Follows insts j rest = ((m : ℕ) → slice_get rest m ≡ slice_get insts (j + m)) × (j + length rest ≡ length insts)

alike_at : (f : Function) (k : ℕ) (b : Block) (e d : Exit) (e' d' : TreeExit) → e ≡ d → e' ≡ d' → AreAlike f k b d d' → AreAlike f k b e e'
alike_at f k b e d e' d' p q alike = rw (p, q) alike

insts_alike : (f : Function) (k : ℕ) (b : Block) (tape : List ℕ) → IsAccepted f → DividesNoUndef f → slice_get f.blocks k ≡ Some b → IsReached f k → (rest : List Inst) (j : ℕ) → Follows b.insts j rest
    → (t : TreeMachine) (s : List Value) → length s ≡ stack_height f → Holds f (MissedAt f k b j) t.machine.registers t.trees
    → AreAlike f k b (exit_insts f.returns_no_undef (flat_map (lowered_inst f) rest ++ insts_at_end f b.terminator) (lowered_end f b.terminator) tape (with_scratch t.machine s)) (insts_with_trees f.returns_no_undef rest b.terminator tape t)
unfolding insts_with_trees
insts_alike f k b tape accepted divides stands reached [] j follows t s long held =
    end_alike f k b tape t s accepted stands long (weaken f (MissedAt f k b j) (Misses f k (assigned_with b b.insts)) t.machine.registers t.trees (λ name does missed. missed_end f k b j name (omega (arith, follows.1)) missed) held)
insts_alike f k b tape accepted divides stands reached (i ∷ rest) j follows t s long held =
    by (steps f k b j tape t s i accepted divides place long held) (λ next after long' held'. insts_alike f k b tape accepted divides stands reached rest (suc j) later next after long' held')
  where
    place : IsPlace f k b j i
    place = record { stands = stands; its = ap (λ (n : ℕ). slice_get b.insts n) (let e : j ≡ j + 0 = omega arith in e) ∙ sym (follows.0 0); reached = reached }

    later : Follows b.insts (suc j) rest
    later = (λ m. follows.0 (suc m) ∙ ap (λ (n : ℕ). slice_get b.insts n) (let e : j + suc m ≡ suc j + m = omega arith in e), omega (arith, follows.1))

    more : List Inst
    more = flat_map (lowered_inst f) rest ++ insts_at_end f b.terminator

    joined : (lowered_inst f i ++ flat_map (lowered_inst f) rest) ++ insts_at_end f b.terminator ≡ lowered_inst f i ++ (flat_map (lowered_inst f) rest ++ insts_at_end f b.terminator)
    joined = append_assoc (lowered_inst f i) (flat_map (lowered_inst f) rest) (insts_at_end f b.terminator)

    by : Steps f k b j tape t s i
        → ((next : TreeMachine) (after : List Value) → length after ≡ stack_height f → Holds f (MissedAt f k b (suc j)) next.machine.registers next.trees
        → AreAlike f k b (exit_insts f.returns_no_undef (flat_map (lowered_inst f) rest ++ insts_at_end f b.terminator) (lowered_end f b.terminator) tape (with_scratch next.machine after)) (insts_with_trees f.returns_no_undef rest b.terminator tape next))
        → AreAlike f k b (exit_insts f.returns_no_undef ((lowered_inst f i ++ flat_map (lowered_inst f) rest) ++ insts_at_end f b.terminator) (lowered_end f b.terminator) tape (with_scratch t.machine s))
        (go_after (act_with_trees i tape t) t (insts_with_trees f.returns_no_undef rest b.terminator tape))
    by (inl on) rec =
        alike_at f k b _ _ _ _
        (ap (λ (insts : List Inst). exit_insts f.returns_no_undef insts (lowered_end f b.terminator) tape (with_scratch t.machine s)) joined ∙ on.leads f.returns_no_undef more (lowered_end f b.terminator))
        (ap (λ (o : Option TreeMachine). go_after o t (insts_with_trees f.returns_no_undef rest b.terminator tape)) on.is)
        (rec on.next on.after (on.long ∙ long) on.held)
    by (inr stop) rec =
        inl (
          ended Ub t.machine,
          ap (λ (insts : List Inst). exit_insts f.returns_no_undef insts (lowered_end f b.terminator) tape (with_scratch t.machine s)) joined ∙ stop.stops f.returns_no_undef more (lowered_end f b.terminator),
          ap (λ (o : Option TreeMachine). go_after o t (insts_with_trees f.returns_no_undef rest b.terminator tape)) stop.is,
        )

all_from : {X : Type 0} (P : X → Type 0) (xs : List X) → ((j : ℕ) (x : X) → slice_get xs j ≡ Some x → P x) → AllByRecursion P xs
all_from P [] each = tt
all_from P (x ∷ xs) each = (each 0 x refl, all_from P xs (λ j y e. each (suc j) y e))

-- a phi fits, its result is missed before it, and carries nothing
abbrev IsPlainPhi : Function → ℕ → Phi → Type 0
IsPlainPhi f k phi = PhiFits f phi × Misses f k [] phi.into × (carries f (operand.Local phi.into) ≡ false)

plain_phis : (f : Function) (k : ℕ) (b : Block) → IsAccepted f → slice_get f.blocks k ≡ Some b → IsReached f k → AllByRecursion (IsPlainPhi f k) b.phis
plain_phis f k b accepted stands reached = all_from (IsPlainPhi f k) b.phis each
  where
    nothing : (j : ℕ) (phi : Phi) → slice_get b.phis j ≡ Some phi → (carries f (operand.Local phi.into) ≡ true) ⊎ (carries f (operand.Local phi.into) ≡ false) → carries f (operand.Local phi.into) ≡ false
    nothing j phi its (inr not') = not'
    nothing j phi its (inl does) =
        let w = has_maker f phi.into does in
        let at = maker_at f phi.into w.0 w.1 in
        let never : part.Phi k j ≡ part.Inst at.k at.j = one_part f (part.Phi k j) (part.Inst at.k at.j) phi.into accepted.well_formed.names.0 (b, stands, phi, its, refl) (defined_at_result f phi.into w.0 at) in
        absurd (let is : ⊥ = cc in is)

    each : (j : ℕ) (phi : Phi) → slice_get b.phis j ≡ Some phi → IsPlainPhi f k phi
    each j phi its = (
      (phi_within f k b j phi accepted stands its, all_usable_in f (λ name. ⊥) true (map (λ (entry : PhiEntry). entry.operand) phi.entries) (phi_usable f k b j phi accepted stands its)),
      missed_before f k 0 phi.into (part.Phi k j) accepted.well_formed.names.0 reached (b, stands, phi, its, refl) refl,
      nothing j phi its (cases_Bool (carries f (operand.Local phi.into))),
    )

phis_fit : (f : Function) (k : ℕ) (phis : List Phi) → AllByRecursion (IsPlainPhi f k) phis → AllByRecursion (PhiFits f) phis
phis_fit f k [] all = tt
phis_fit f k (phi ∷ phis) all = (all.0.0, phis_fit f k phis all.1)

phis_held : (f : Function) (k : ℕ) → IsAccepted f → (before : Machine) (phis : List Phi) → AllByRecursion (IsPlainPhi f k) phis → (m : Machine) (trees : List (Option Tree))
    → Holds f (Misses f k []) m.registers trees → Holds f (Misses f k []) (with_phis before phis m).registers (with_tree (phi_results phis) None trees)
unfolding with_tree phi_results
phis_held f k accepted before [] all m trees held = held
phis_held f k accepted before (phi ∷ phis) all m trees held =
    phis_held f k accepted before phis all.1 (record m { registers = set m.registers phi.into (phi_value before phi) }) (set trees phi.into None)
    (assign f (Misses f k []) m.registers trees phi.into (phi_value before phi) (closed_before f k accepted) all.0.1 all.0.2 held)

block_alike : (f : Function) (k : ℕ) (b : Block) (tape : List ℕ) (t : TreeMachine) (s : List Value) → IsAccepted f → DividesNoUndef f → slice_get f.blocks k ≡ Some b → IsReached f k → length s ≡ stack_height f
    → Holds f (Misses f k []) t.machine.registers t.trees → AreAlike f k b (exit_of f.returns_no_undef (Some (lowered_block f b)) tape (with_scratch t.machine s)) (block_with_trees f.returns_no_undef (Some b) tape t)
block_alike f k b tape t s accepted divides stands reached long held =
    alike_at f k b _ _ _ _
    (ap (λ (m : Machine). exit_insts f.returns_no_undef (flat_map (lowered_inst f) b.insts ++ insts_at_end f b.terminator) (lowered_end f b.terminator) tape (record m { block = b.label }))
    (with_phis-scratch f t.machine s held.wide b.phis (phis_fit f k b.phis phis) t.machine held.wide)) refl
    (insts_alike f k b tape accepted divides stands reached b.insts 0 (λ m. ap (λ (n : ℕ). slice_get b.insts n) (let e : m ≡ 0 + m = omega arith in e), omega arith) (entered_with_trees b t) s long
    (weaken f (Misses f k []) (MissedAt f k b 0) (entered b t.machine).registers (with_tree (phi_results b.phis) None t.trees) start (phis_held f k accepted t.machine b.phis phis t.machine t.trees held)))
  where
    phis : AllByRecursion (IsPlainPhi f k) b.phis
    phis = plain_phis f k b accepted stands reached

    start : (name : ℕ) → carries f (operand.Local name) ≡ true → Misses f k [] name → MissedAt f k b 0 name
    start name does missed = let w = has_maker f name does in missed_start f k b name w.0 accepted.well_formed.names.0 stands (maker_at f name w.0 w.1) missed

-- ---- the run

labels-lowered : (f : Function) (blocks : List Block) → map (λ (b : Block). b.label) (map (lowered_block f) blocks) ≡ map (λ (b : Block). b.label) blocks
labels-lowered f [] = refl
labels-lowered f (b ∷ blocks) = ap (λ (ls : List ℕ). b.label ∷ ls) (labels-lowered f blocks)

block_of-lowered : (f : Function) (label : ℕ) → block_of (lowered f) label ≡ block_of f label
block_of-lowered f label = ap (position_or_len (λ (other : ℕ). label == other)) (labels-lowered f f.blocks)

-- two ways to go on from a block agree
abbrev GoAlike : Function → Go → TreeGo → Type 0
GoAlike f go go' = (at : ℕ) (t : TreeMachine) (s : List Value) → length s ≡ stack_height f → Holds f (Misses f at []) t.machine.registers t.trees → IsReached f at → go at (with_scratch t.machine s) ≡ go' at t

go_alike : (f : Function) (k : ℕ) (b : Block) (e : Exit) (e' : TreeExit) (onward again : Go) (onward' again' : TreeGo) → slice_get f.blocks k ≡ Some b → IsReached f k → AreAlike f k b e e'
    → GoAlike f onward onward' → GoAlike f again again' → go_on (lowered f) e k onward again ≡ go_on_with_trees f e' k onward' again'
go_alike f k b e e' onward again onward' again' stands reached (inl ends) first second = rw (ends.1, ends.2) refl
go_alike f k b e e' onward again onward' again' stands reached (inr on) first second =
    rw (on.is, on.is_too) (ap (λ (to : ℕ). jump k to (with_scratch on.next.machine on.after) onward again) (block_of-lowered f on.label) ∙ by (cases_Bool (nat_lt k (block_of f on.label))))
  where
    to : ℕ
    to = block_of f on.label

    held : Holds f (Misses f (block_of f on.label) []) on.next.machine.registers on.next.trees
    held =
        weaken f (Misses f k (assigned_with b b.insts)) (Misses f (block_of f on.label) []) on.next.machine.registers on.next.trees
        (λ name does missed. missed_on f k (block_of f on.label) b name stands (next_block f k b on.label stands on.leads) missed) on.held

    there : IsReached f (block_of f on.label)
    there = (k ∷ reached.0, (next_block f k b on.label stands on.leads, reached.1))

    turned : TreeMachine
    turned = record on.next { machine = record on.next.machine { turn = on.next.machine.turn + 1 } }

    by : (nat_lt k (block_of f on.label) ≡ true) ⊎ (nat_lt k (block_of f on.label) ≡ false)
        → jump k (block_of f on.label) (with_scratch on.next.machine on.after) onward again ≡ jump_with_trees k (block_of f on.label) on.next onward' again'
    by (inl less) = rw less (first (block_of f on.label) on.next on.after on.long held there)
    by (inr not') = rw not' (second (block_of f on.label) turned on.after on.long held there)

forward_alike : (f : Function) (tape : List ℕ) (again : Go) (again' : TreeGo) → IsAccepted f → DividesNoUndef f → GoAlike f again again' → (left : ℕ) → GoAlike f (forward (lowered f) tape again left) (forward_with_trees f tape again' left)
unfolding forward forward_with_trees
forward_alike f tape again again' accepted divides second zero at t s long held reached = refl
forward_alike f tape again again' accepted divides second (suc left) at t s long held reached = by (slice_get f.blocks at) refl (forward_alike f tape again again' accepted divides second left)
  where
    by : (o : Option Block) → slice_get f.blocks at ≡ o → GoAlike f (forward (lowered f) tape again left) (forward_with_trees f tape again' left)
        → go_on (lowered f) (exit_of f.returns_no_undef (slice_get (map (lowered_block f) f.blocks) at) tape (with_scratch t.machine s)) at (forward (lowered f) tape again left) again
        ≡ go_on_with_trees f (block_with_trees f.returns_no_undef (slice_get f.blocks at) tape t) at (forward_with_trees f tape again' left) again'
    by None e first =
        ap (λ (o : Option Block). go_on (lowered f) (exit_of f.returns_no_undef o tape (with_scratch t.machine s)) at (forward (lowered f) tape again left) again) (slice_get-map (lowered_block f) f.blocks at ∙ ap (option_map (lowered_block f)) e)
        ∙ sym (ap (λ (o : Option Block). go_on_with_trees f (block_with_trees f.returns_no_undef o tape t) at (forward_with_trees f tape again' left) again') e)
    by (Some b) e first =
        ap (λ (o : Option Block). go_on (lowered f) (exit_of f.returns_no_undef o tape (with_scratch t.machine s)) at (forward (lowered f) tape again left) again) (slice_get-map (lowered_block f) f.blocks at ∙ ap (option_map (lowered_block f)) e)
        ∙ (go_alike f at b _ _ (forward (lowered f) tape again left) again (forward_with_trees f tape again' left) again' e reached (block_alike f at b tape t s accepted divides e reached long held) first second
        ∙ sym (ap (λ (o : Option Block). go_on_with_trees f (block_with_trees f.returns_no_undef o tape t) at (forward_with_trees f tape again' left) again') e))

turns_alike : (f : Function) (tape : List ℕ) → IsAccepted f → DividesNoUndef f → (turns : ℕ) → GoAlike f (run_turns (lowered f) tape turns) (turns_with_trees f tape turns)
unfolding run_turns turns_with_trees
turns_alike f tape accepted divides zero at t s long held reached =
    ap (λ (n : ℕ). forward (lowered f) tape (λ k m. ended Beyond m) n at (with_scratch t.machine s)) (length-map f.blocks (lowered_block f))
    ∙ forward_alike f tape (λ k m. ended Beyond m) (λ k x. ended Beyond x.machine) accepted divides (λ k x r long' held' reached'. refl) (length f.blocks) at t s long held reached
turns_alike f tape accepted divides (suc turns) at t s long held reached =
    ap (λ (n : ℕ). forward (lowered f) tape (run_turns (lowered f) tape turns) n at (with_scratch t.machine s)) (length-map f.blocks (lowered_block f))
    ∙ forward_alike f tape (run_turns (lowered f) tape turns) (turns_with_trees f tape turns) accepted divides (turns_alike f tape accepted divides turns) (length f.blocks) at t s long held reached

-- ---- the start

words-length : (count bytes : ℕ) → length (words_from count bytes) ≡ count
unfolding words_from
words-length zero bytes = refl
words-length (suc count) bytes = ap (λ (n : ℕ). suc n) (words-length count (bytes + 1))

replicate-add : {X : Type 0} (n m : ℕ) (x : X) → replicate (n + m) x ≡ replicate n x ++ replicate m x
replicate-add zero m x = ap (λ (k : ℕ). replicate k x) (let e : 0 + m ≡ m = omega arith in e)
replicate-add (suc n) m x = ap (λ (k : ℕ). replicate k x) (let e : suc n + m ≡ suc (n + m) = omega arith in e) ∙ ap (λ (xs : List _). x ∷ xs) (replicate-add n m x)

abbrev IsNamed : ℕ → Parameter → Type 0
IsNamed count p = p.name < count

with_args-scratch : (count : ℕ) (ps : List Parameter) (vs rs s : List Value) → AllByRecursion (IsNamed count) ps → length rs ≡ count → with_args ps vs (rs ++ s) ≡ with_args ps vs rs ++ s
with_args-scratch count [] vs rs s all long = refl
with_args-scratch count (p ∷ ps) [] rs s all long = refl
with_args-scratch count (p ∷ ps) (v ∷ vs) rs s all long =
    ap (with_args ps vs) (set-append_left rs s p.name (argument_value p v) (omega (arith, all.0, long)))
    ∙ with_args-scratch count ps vs (set rs p.name (argument_value p v)) s all.1 (length-set rs p.name (argument_value p v) ∙ long)

with_args-length : (ps : List Parameter) (vs rs : List Value) → length (with_args ps vs rs) ≡ length rs
with_args-length [] vs rs = refl
with_args-length (p ∷ ps) [] rs = refl
with_args-length (p ∷ ps) (v ∷ vs) rs = with_args-length ps vs (set rs p.name (argument_value p v)) ∙ length-set rs p.name (argument_value p v)

parameters_named : (f : Function) → IsAccepted f → AllByRecursion (IsNamed (length f.names)) f.parameters
parameters_named f accepted = all_from (IsNamed (length f.names)) f.parameters each
  where
    each : (j : ℕ) (p : Parameter) → slice_get f.parameters j ≡ Some p → p.name < length f.names
    each j p its = let w = parameter_site f j p (Defines (Some p.of_type) p.name) its (1, omega arith, refl) in all_at (IsNumbered (length f.names)) (sites f) w.0 (Defines (Some p.of_type) p.name) accepted.numbered w.1

abbrev FirstStack : Function → List Value
FirstStack f = replicate (stack_height f) Poison

first_registers : (f : Function) (input : Input) → IsAccepted f
    → with_args f.parameters input.args (replicate (length (f.names ++ stack_names f)) Poison) ≡ with_args f.parameters input.args (replicate (length f.names) Poison) ++ FirstStack f
first_registers f input accepted =
    let many : length (f.names ++ stack_names f) ≡ length f.names + stack_height f = length-append f.names (stack_names f) ∙ ap (λ (n : ℕ). length f.names + n) (words-length (stack_height f) (longest f.names + 1)) in
    ap (with_args f.parameters input.args) (ap (λ (n : ℕ). replicate n Poison) many ∙ replicate-add (length f.names) (stack_height f) Poison)
    ∙ with_args-scratch (length f.names) f.parameters input.args (replicate (length f.names) Poison) (FirstStack f) (parameters_named f accepted) (length-replicate (length f.names) Poison)

abbrev machine_of : Input → List Value → Machine
machine_of input rs = record { registers = rs; memory = input.blocks; turn = 0; block = 0; taken = [] }

first_held : (f : Function) (input : Input) → IsAccepted f → Holds f (Misses f 0 []) (first_machine f input).registers (replicate (length f.names) None)
first_held f input accepted = record {
  wide = with_args-length f.parameters input.args (replicate (length f.names) Poison) ∙ length-replicate (length f.names) Poison;
  many = length-replicate (length f.names) None;
  plain = λ name nothing. none name (cases_lt name (length f.names));
  carried = λ name within does. inl (missed name does);
}
  where
    none : (name : ℕ) → (name < length f.names) ⊎ (length f.names ≤ name) → get_or (replicate {A = Option Tree} (length f.names) None) name None ≡ None
    none name (inl below) = get_or-replicate (length f.names) name None None below
    none name (inr past) = get_or_past (replicate (length f.names) None) name None (let long = length-replicate {A = Option Tree} (length f.names) None in omega (arith, past, long))

    missed : (name : ℕ) → carries f (operand.Local name) ≡ true → Misses f 0 [] name
    missed name does =
        let w = has_maker f name does in
        let at = maker_at f name w.0 w.1 in
        record {
          left = [];
          path = refl;
          outside = λ found. let never : part.Parameter ≡ part.Inst at.k at.j = one_part f part.Parameter (part.Inst at.k at.j) name accepted.well_formed.names.0 found (defined_at_result f name w.0 at) in cc;
          before = λ found. found;
          within = λ found. none_in name found;
        }

-- ---- the law

pub samples_are_present : SamplesArePresent
samples_are_present f bounds input tape numbered well_formed undefs = by (cases_Bool (breaks_noundef f.parameters input.args))
  where
    accepted : IsAccepted f
    accepted = record { numbered = numbered; well_formed = well_formed }

    first : first_machine (lowered f) input ≡ with_scratch (first_machine f input) (FirstStack f)
    first = ap (machine_of input) (first_registers f input (record { numbered = numbered; well_formed = well_formed }))

    goes : run_turns (lowered f) tape bounds.turns 0 (first_machine (lowered f) input) ≡ turns_with_trees f tape bounds.turns 0 (first_tree_machine f input)
    goes =
        ap (run_turns (lowered f) tape bounds.turns 0) first
        ∙ turns_alike f tape accepted (no_undef_divided f undefs) bounds.turns 0 (first_tree_machine f input) (FirstStack f) (length-replicate (stack_height f) Poison) (first_held f input accepted) ([], refl)

    by : (breaks_noundef f.parameters input.args ≡ true) ⊎ (breaks_noundef f.parameters input.args ≡ false) → run_of (lowered f) bounds input tape ≡ run_with_trees f bounds input tape
    by (inl breaks) = rw breaks refl
    by (inr not') = rw not' goes
