-- What is shown of a terminator.
use Rattle.run_trace.proofs.Common.{◌≡◌, ℕ, zero, suc, ◌≤◌, List, [], ◌∷◌, ◌++◌, length, Bool, true, false, ◌&&◌, ◌||◌, not, nat_eq, nat_lt, if◌then◌else◌, Option, Some, None, refl, sym, ap, subst, ◌∙◌, arith, IsSomeAnd, slice_get, list_any, eqb-true, slice_get_past, IrType, TypedOperand, Block, Function, block_of, Value, Num, Poison, Machine, Exit, exit_by, branch_on, switch_on, returned_run, returned_with, undef_type, operand_value, typed_operand_value, is_poison, ended, Ub, exit_with, Reason, Step, end_operands, is_name, is_poison_name, is_poison_literal, Position, Insts, State, At, Leaves, item_at, at_block, after_jump, after_exit, again, is_some_poison, IsReturnOf, IsEndReason, is_no_return, is_failure, value_of_exit, block_of_exit, taken_by_exit, needs_reason, HasReason, Shows, Leads, position, IsFailedExit, IsReasonOver, IsLeaving, is_too_many, or_parts, and_parts}
use Rattle.std.proofs.Math.Dec.{eqb-suc-zero}
use Rattle.ir_tree.specs.declared.tree.Case.{Case}
use Rattle.ir_tree.specs.declared.tree.Terminator.{Terminator}
use Rattle.ir_tree.specs.declared.tree.Terminator.TheVariants as terminator
use Rattle.byte_block.specs.declared.value.Value.TheVariants as value
use Rattle.points.specs.Run as exit
use Rattle.choice_interp.specs.declared.flow.Left.{Left}
use Rattle.choice_interp.specs.declared.flow.Left.TheVariants as left
use Rattle.choice_interp.specs.declared.ending.Ending.{Ending}
use Rattle.choice_interp.specs.declared.ending.Ending.TheVariants as ending
use Rattle.choice_interp.specs.Ran.{outcome_of}
use Rattle.run_trace.specs.declared.steps.Reason.TheVariants as reason
use Rattle.run_trace.specs.declared.ends.Leaving.{Leaving}
use Rattle.run_trace.proofs.Given.{true_not_false}
use Rattle.run_trace.proofs.Never.{choice_defined}
use Rattle.run_trace.proofs.Leading.{leads_shown}

-- ---- poison that is returned

literal_of : (registers : List Value) (t : TypedOperand) → is_poison (typed_operand_value registers t) ≡ true → is_poison_name registers t ≡ false → is_poison_literal registers t ≡ true
literal_of registers t = go (is_name t.operand) (is_poison (typed_operand_value registers t))
  where
    go : (name poison : Bool) → poison ≡ true → (name && poison) ≡ false → (not name && poison) ≡ true
    go true poison e f = true_not_false (sym e ∙ f)
    go false poison e f = e

returned_literal : (no_undef : Bool) (r : TypedOperand) (tape : List ℕ) (m : Machine)
    → is_some_poison (value_of_exit (exit.Over (returned_run no_undef (Some r) tape m))) ≡ true → is_poison_name m.registers r ≡ false
    → is_poison_literal m.registers r ≡ true
returned_literal no_undef r tape m poison name = go (no_undef && is_poison (typed_operand_value m.registers r)) poison
  where
    by_type : (o : Option IrType) → is_some_poison (value_of_exit (exit.Over (returned_with o r tape m))) ≡ true → is_poison_literal m.registers r ≡ true
    by_type None e = literal_of m.registers r e name
    by_type (Some type) e = true_not_false (sym e ∙ choice_defined type tape m)

    go : (b : Bool) → is_some_poison (value_of_exit (exit.Over (if b then ended Ub m else returned_with (undef_type r.of_type r.operand) r tape m))) ≡ true → is_poison_literal m.registers r ≡ true
    go true e = true_not_false (sym e)
    go false e = by_type (undef_type r.of_type r.operand) e

branch_gives_none : (v : Value) (if_true if_false : ℕ) (m : Machine) → is_some_poison (value_of_exit (branch_on v if_true if_false m)) ≡ false
branch_gives_none (Num n) if_true if_false m = refl
branch_gives_none Poison if_true if_false m = refl
branch_gives_none (value.Ptr p) if_true if_false m = refl

switch_gives_none : (width : ℕ) (v : Value) (default : ℕ) (cases : List Case) (m : Machine) → is_some_poison (value_of_exit (switch_on width v default cases m)) ≡ false
switch_gives_none width (Num n) default cases m = refl
switch_gives_none width Poison default cases m = refl
switch_gives_none width (value.Ptr p) default cases m = refl

poison_literal : (no_undef : Bool) (end : Terminator) (tape : List ℕ) (m : Machine) → is_some_poison (value_of_exit (exit_by no_undef end tape m)) ≡ true
    → list_any (is_poison_name m.registers) (end_operands end) ≡ false → IsReturnOf is_poison_literal end m
poison_literal no_undef (terminator.Return None) tape m e names = true_not_false (sym e)
poison_literal no_undef (terminator.Return (Some r)) tape m e names = returned_literal no_undef r tape m e (or_parts (is_poison_name m.registers r) false names).0
poison_literal no_undef (terminator.Branch to) tape m e names = true_not_false (sym e)
poison_literal no_undef (terminator.CondBranch condition if_true if_false) tape m e names = true_not_false (sym e ∙ branch_gives_none (operand_value m.registers condition) if_true if_false m)
poison_literal no_undef (terminator.Switch width operand default cases) tape m e names = true_not_false (sym e ∙ switch_gives_none width.bits (operand_value m.registers operand) default cases m)
poison_literal no_undef terminator.Unreachable tape m e names = true_not_false (sym e)

-- ---- a jump

too_many_is : (at to jumps : ℕ) (n : Machine) → is_failure (after_jump at to jumps n) ≡ is_too_many at jumps (Some to)
too_many_is at to jumps n = go (nat_lt at to) jumps
  where
    go : (b : Bool) (j : ℕ) → is_failure (if b then at_block to j n else again to j n) ≡ (not b && nat_eq j 0)
    go true j = refl
    go false zero = refl
    go false (suc j) = sym (eqb-suc-zero j)

-- ---- the reasons

needs_by : (f : Function) (end : Terminator) (tape : List ℕ) (p : Position) (x : Exit) → exit_by f.returns_no_undef end tape p.machine ≡ x
    → needs_reason f tape (Leaves end) p
    ≡ (is_failure (after_exit f p x) || (is_some_poison (value_of_exit x) && not (list_any (is_poison_name p.machine.registers) (end_operands end))))
needs_by f end tape p x e = rw e refl

end_failed : (f : Function) (end : Terminator) (tape : List ℕ) (m n : Machine) (leaving : Leaving) (k : ℕ) (o : Option Reason)
    → IsLeaving f end tape m n leaving → IsFailedExit (exit_with leaving.left n)
    → (IsFailedExit (exit_by f.returns_no_undef end tape m) → IsSomeAnd o (λ r. IsEndReason r f end tape leaving.at leaving.jumps m))
    → HasReason f tape (Leaves end) (position leaving.at k leaving.jumps m) o
end_failed f end tape m n leaving k o is failed found = go o (found (rw is.exit failed))
  where
    needs : (x : Exit) → IsFailedExit x → (is_failure (after_exit f (position leaving.at k leaving.jumps m) x) || (is_some_poison (value_of_exit x) && not (list_any (is_poison_name m.registers) (end_operands end)))) ≡ true
    needs (exit.To label m') e = absurd e
    needs (exit.Over run) e = rw e refl

    go : (r : Option Reason) → IsSomeAnd r (λ r. IsEndReason r f end tape leaving.at leaving.jumps m) → HasReason f tape (Leaves end) (position leaving.at k leaving.jumps m) r
    go None h = absurd h
    go (Some r) h = (needs_by f end tape (position leaving.at k leaving.jumps m) (exit_with leaving.left n) is.exit ∙ needs (exit_with leaving.left n) failed, h)

-- by undefined behaviour, or beyond the bound
end_over : (f : Function) (end : Terminator) (tape : List ℕ) (m n : Machine) (leaving : Leaving) (k : ℕ) (e : Ending) (o : Option Reason)
    → IsLeaving f end tape m n leaving → leaving.left ≡ left.Over e → is_no_return (outcome_of e []) ≡ true
    → (IsFailedExit (exit_by f.returns_no_undef end tape m) → IsSomeAnd o (λ r. IsEndReason r f end tape leaving.at leaving.jumps m))
    → HasReason f tape (Leaves end) (position leaving.at k leaving.jumps m) o
end_over f end tape m n leaving k e o is so fails found =
    end_failed f end tape m n leaving k o is (subst (λ (l : Left). IsFailedExit (exit_with l n)) (sym so) (failed e fails)) found
  where
    failed : (x : Ending) → is_no_return (outcome_of x []) ≡ true → IsFailedExit (exit_with (left.Over x) n)
    failed (ending.Return v) h = true_not_false (sym h)
    failed ending.Ub h = refl
    failed ending.Beyond h = refl

end_returned : (f : Function) (end : Terminator) (tape : List ℕ) (m n : Machine) (leaving : Leaving) (k : ℕ) (v : Option Value) (o : Option Reason)
    → IsLeaving f end tape m n leaving → leaving.left ≡ left.Over (ending.Return v)
    → o ≡ (if is_some_poison v && not (list_any (is_poison_name n.registers) (end_operands end)) then Some reason.PoisonOperand else None)
    → HasReason f tape (Leaves end) (position leaving.at k leaving.jumps m) o
end_returned f end tape m n leaving k v o is so e =
    let x : exit_by f.returns_no_undef end tape m ≡ exit_with (left.Over (ending.Return v)) n = is.exit ∙ ap (λ l. exit_with l n) so in
    let p = position leaving.at k leaving.jumps m in
    let test = is_some_poison v && not (list_any (is_poison_name m.registers) (end_operands end)) in
    let o_is : o ≡ (if test then Some reason.PoisonOperand else None) = e ∙ ap (λ (rs : List Value). if is_some_poison v && not (list_any (is_poison_name rs) (end_operands end)) then Some reason.PoisonOperand else None) is.registers in
    rw o_is (go test (needs_by f end tape p (exit_with (left.Over (ending.Return v)) n) x) x refl)
  where
    no_name : (b : Bool) → not b ≡ true → b ≡ false
    no_name true h = true_not_false (sym h)
    no_name false h = refl

    go : (b : Bool) → needs_reason f tape (Leaves end) (position leaving.at k leaving.jumps m) ≡ (is_some_poison v && not (list_any (is_poison_name m.registers) (end_operands end)))
        → exit_by f.returns_no_undef end tape m ≡ exit_with (left.Over (ending.Return v)) n
        → (is_some_poison v && not (list_any (is_poison_name m.registers) (end_operands end))) ≡ b
        → HasReason f tape (Leaves end) (position leaving.at k leaving.jumps m) (if b then Some reason.PoisonOperand else None)
    go true needs x h =
        let both = and_parts (is_some_poison v) (not (list_any (is_poison_name m.registers) (end_operands end))) h in (
          needs ∙ h,
          poison_literal f.returns_no_undef end tape m (ap (λ y. is_some_poison (value_of_exit y)) x ∙ both.0) (no_name (list_any (is_poison_name m.registers) (end_operands end)) both.1),
        )
    go false needs x h = needs ∙ h

pub over_has_reason : (f : Function) (end : Terminator) (tape : List ℕ) (m n : Machine) (leaving : Leaving) (k : ℕ) (e : Ending) (registers : List Value) (operands : List TypedOperand) (o : Option Reason)
    → IsLeaving f end tape m n leaving → leaving.left ≡ left.Over e → registers ≡ n.registers → operands ≡ end_operands end → IsReasonOver e registers operands end o
    → HasReason f tape (Leaves end) (position leaving.at k leaving.jumps m) o
over_has_reason f end tape m n leaving k (ending.Return v) registers operands o is so same read found =
    end_returned f end tape m n leaving k v o is so
    (found ∙ ap (λ (rs : List Value). if is_some_poison v && not (list_any (is_poison_name rs) operands) then Some reason.PoisonOperand else None) same
    ∙ ap (λ (ts : List TypedOperand). if is_some_poison v && not (list_any (is_poison_name n.registers) ts) then Some reason.PoisonOperand else None) read)
over_has_reason f end tape m n leaving k ending.Ub registers operands o is so same read found =
    end_over f end tape m n leaving k ending.Ub o is so refl (found f tape leaving.at leaving.jumps m)
over_has_reason f end tape m n leaving k ending.Beyond registers operands o is so same read found =
    end_over f end tape m n leaving k ending.Beyond o is so refl (found f tape leaving.at leaving.jumps m)

pub end_jumped : (f : Function) (end : Terminator) (tape : List ℕ) (m n : Machine) (leaving : Leaving) (k label : ℕ) (o : Option Reason)
    → IsLeaving f end tape m n leaving → leaving.left ≡ left.To label
    → o ≡ (if is_too_many leaving.at leaving.jumps leaving.to then Some reason.TooManyJumps else None)
    → HasReason f tape (Leaves end) (position leaving.at k leaving.jumps m) o
end_jumped f end tape m n leaving k label o is so e =
    let x : exit_by f.returns_no_undef end tape m ≡ exit_with (left.To label) n = is.exit ∙ ap (λ l. exit_with l n) so in
    let p = position leaving.at k leaving.jumps m in
    let to : leaving.to ≡ Some (block_of f label) = is.to ∙ ap (λ l. block_of_exit f (exit_with l n)) so in
    let o_is : o ≡ (if is_too_many leaving.at leaving.jumps (Some (block_of f label)) then Some reason.TooManyJumps else None) = e ∙ ap (λ (t : Option ℕ). if is_too_many leaving.at leaving.jumps t then Some reason.TooManyJumps else None) to in
    let needs = needs_by f end tape p (exit_with (left.To label) n) x ∙ or_false_is _ ∙ too_many_is leaving.at (block_of f label) leaving.jumps n in
    rw o_is (go (is_too_many leaving.at leaving.jumps (Some (block_of f label))) needs x refl)
  where
    or_false_is : (b : Bool) → (b || false) ≡ b
    or_false_is true = refl
    or_false_is false = refl

    backward : (b : Bool) → not b ≡ true → b ≡ false
    backward true h = true_not_false (sym h)
    backward false h = refl

    go : (b : Bool) → needs_reason f tape (Leaves end) (position leaving.at k leaving.jumps m) ≡ is_too_many leaving.at leaving.jumps (Some (block_of f label))
        → exit_by f.returns_no_undef end tape m ≡ exit_with (left.To label) n
        → is_too_many leaving.at leaving.jumps (Some (block_of f label)) ≡ b
        → HasReason f tape (Leaves end) (position leaving.at k leaving.jumps m) (if b then Some reason.TooManyJumps else None)
    go true needs x h =
        let both = and_parts (not (nat_lt leaving.at (block_of f label))) (nat_eq leaving.jumps 0) h in
        (needs ∙ h, (eqb-true leaving.jumps 0 both.1, rw x (backward (nat_lt leaving.at (block_of f label)) both.0)))
    go false needs x h = needs ∙ h

-- ---- the step

pub taken_by-exit_with : (l : Left) (n : Machine) → taken_by_exit (exit_with l n) ≡ n.taken
taken_by-exit_with (left.To label) n = refl
taken_by-exit_with (left.Over ending) n = refl

after_exit-position : (f : Function) (at k jumps : ℕ) (m n : Machine) (x : Exit) → after_exit f (position at k jumps m) x ≡ after_exit f (position at 0 jumps n) x
after_exit-position f at k jumps m n (exit.To label q) = refl
after_exit-position f at k jumps m n (exit.Over run) = refl

pub end_leads : (f : Function) (tape : List ℕ) (first to : State) (b : Block) (at jumps : ℕ) (m n : Machine) (l : Left) (steps new : List Step) (step : Step)
    → slice_get f.blocks at ≡ Some b → Leads f tape first steps (At Insts (position at (length b.insts) jumps m))
    → Shows f tape (Leaves b.terminator) (position at (length b.insts) jumps m) step
    → exit_by f.returns_no_undef b.terminator tape m ≡ exit_with l n
    → after_exit f (position at 0 jumps n) (exit_with l n) ≡ to → new ≡ steps ++ step ∷ []
    → Leads f tape first new to
end_leads f tape first to b at jumps m n l steps new step block leads shows exits goes e =
    let p = position at (length b.insts) jumps m in
    let there : item_at f Insts p ≡ Leaves b.terminator = rw (block, slice_get_past b.insts (length b.insts) (same_le (length b.insts))) refl in
    let after_it = leads_shown f tape first steps Insts p (Leaves b.terminator) step there leads shows in
    rw e (subst (λ (s : State). Leads f tape first (steps ++ step ∷ []) s) (ap (after_exit f p) exits ∙ after_exit-position f at (length b.insts) jumps m n (exit_with l n) ∙ goes) after_it)
  where
    same_le : (i : ℕ) → i ≤ i
    same_le i = omega arith
