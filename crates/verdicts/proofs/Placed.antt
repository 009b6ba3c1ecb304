-- A function without pointers hands its memory on: on other memory it is the same run with that memory, since no instruction touches it.
use Rattle.std.proofs.Common.{◌≡◌, ℕ, zero, suc, ◌+◌, List, [], ◌∷◌, length, Bool, true, false, ◌&&◌, if◌then◌else◌, Option, Some, None, refl, sym, ap, ◌∙◌}
use Rattle.std.specs.Prelude.{slice_get, nat_lt}
use Rattle.std.specs.List.{filter, AllByRecursion}
use Rattle.std.specs.Option.{option_map}
use Rattle.std.proofs.lemmas.List.Elements.{recursion_from_All}
use Rattle.ir_tree.specs.declared.tree.IrType.{IrType}
use Rattle.ir_tree.specs.declared.tree.IrType.TheVariants as type
use Rattle.ir_tree.specs.declared.tree.Operand.{Operand}
use Rattle.ir_tree.specs.declared.tree.Operand.TheVariants as operand
use Rattle.ir_tree.specs.declared.tree.Inst.{Inst}
use Rattle.ir_tree.specs.declared.tree.Inst.TheVariants.{Binary, Icmp, Cast, Select, Freeze, Alloca, Load, Store, GetElementPtr}
use Rattle.ir_tree.specs.declared.tree.TypedOperand.{TypedOperand}
use Rattle.ir_tree.specs.declared.tree.Phi.{Phi}
use Rattle.ir_tree.specs.declared.tree.Case.{Case}
use Rattle.ir_tree.specs.declared.tree.Terminator.{Terminator}
use Rattle.ir_tree.specs.declared.tree.Terminator.TheVariants as terminator
use Rattle.ir_tree.specs.declared.tree.Block.{Block}
use Rattle.ir_tree.specs.declared.tree.Function.{Function}
use Rattle.ir_tree.specs.Flow.{block_of}
use Rattle.ir_tree.specs.Pointers.{IsInteger, IsIntegerOrVoid, IsOnIntegers, EndsOnIntegers, IsBlockOnIntegers, HasNoPointers}
use Rattle.byte_block.specs.declared.value.Value.{Value}
use Rattle.byte_block.specs.declared.value.Value.TheVariants.{Num, Poison}
use Rattle.byte_block.specs.declared.value.Value.TheVariants as value
use Rattle.byte_block.specs.declared.block.MemoryBlock.{MemoryBlock}
use Rattle.points.specs.declared.machine.Machine.{Machine}
use Rattle.points.specs.declared.outcome.Outcome.{Outcome}
use Rattle.points.specs.declared.outcome.Outcome.TheVariants.{Return, Ub, Beyond}
use Rattle.points.specs.declared.point.Bounds.{Bounds}
use Rattle.points.specs.declared.point.Input.{Input}
use Rattle.points.specs.Table.{value_result}
use Rattle.points.specs.Run.{Run, Exit, To, Over, ended, act, assigned, frozen, operand_value, typed_value, typed_operand_value, is_given, is_poison, undef_type, returned_with, phi_value, with_phis, entered, branch_on, switch_on, exit_by, exit_after, exit_insts, exit_of, Go, go_on, forward, run_turns, breaks_noundef, first_machine, run_of}
use Rattle.points.proofs.Runs.{run_entered_by, run_of_is}

abbrev pub with_memory : List MemoryBlock → Outcome → Outcome
with_memory memory (Return v m) = Return v memory
with_memory memory Ub = Ub
with_memory memory Beyond = Beyond

abbrev placed : List MemoryBlock → Machine → Machine
placed memory m = record m { memory = memory }

-- a return leaves the given blocks
abbrev pub rerun : List MemoryBlock → Run → Run
rerun memory run = record { outcome = with_memory (filter is_given memory) run.outcome; taken = run.taken }

abbrev left_again : List MemoryBlock → Exit → Exit
left_again memory (To label m) = To label (placed memory m)
left_again memory (Over run) = Over (rerun memory run)

assigned_placed : (memory : List MemoryBlock) (m : Machine) (into : ℕ) (v : Option Value) → option_map (assigned (placed memory m) into) v ≡ option_map (placed memory) (option_map (assigned m into) v)
assigned_placed memory m into None = refl
assigned_placed memory m into (Some v) = refl

frozen_placed : (memory : List MemoryBlock) (tape : List ℕ) (m : Machine) (into : ℕ) (type : IrType) → IsInteger type → (v : Value) → frozen tape (placed memory m) into type v ≡ placed memory (frozen tape m into type v)
frozen_placed memory tape m into (type.Int width) on (Num n) = refl
frozen_placed memory tape m into (type.Int width) on Poison = refl
frozen_placed memory tape m into (type.Int width) on (value.Ptr p) = refl
frozen_placed memory tape m into type.Ptr on v = absurd on

act_placed : (memory : List MemoryBlock) (inst : Inst) → IsOnIntegers inst → (tape : List ℕ) (m : Machine) → act inst tape (placed memory m) ≡ option_map (placed memory) (act inst tape m)
act_placed memory (Binary into op width left right) on tape m = assigned_placed memory m into (value_result op width.bits (operand_value m.registers left) (operand_value m.registers right))
act_placed memory (Icmp into predicate same_sign width left right) on tape m = refl
act_placed memory (Cast into cast from operand to) on tape m = refl
act_placed memory (Select into condition if_true if_false) on tape m = refl
act_placed memory (Freeze into type operand) on tape m = ap Some (frozen_placed memory tape m into type on (typed_value type (operand_value m.registers operand)))
act_placed memory (Alloca into number type align) on tape m = absurd on
act_placed memory (Load into type pointer align) on tape m = absurd on
act_placed memory (Store v pointer align) on tape m = absurd on
act_placed memory (GetElementPtr into inbounds nuw type base indices) on tape m = absurd on

undef_on : (type : IrType) (o : Operand) → IsInteger type → IsIntegerOrVoid (undef_type type o)
undef_on type operand.Undef on = on
undef_on type (operand.Local name) on = tt
undef_on type (operand.Number n) on = tt
undef_on type operand.Null on = tt
undef_on type operand.Poison on = tt

returned_placed : (memory : List MemoryBlock) (o : Option IrType) → IsIntegerOrVoid o → (r : TypedOperand) (tape : List ℕ) (m : Machine) → returned_with o r tape (placed memory m) ≡ rerun memory (returned_with o r tape m)
returned_placed memory None on r tape m = refl
returned_placed memory (Some (type.Int width)) on r tape m = refl
returned_placed memory (Some type.Ptr) on r tape m = absurd on

stopped_placed : (memory : List MemoryBlock) (stops : Bool) (o : Option IrType) → IsIntegerOrVoid o → (r : TypedOperand) (tape : List ℕ) (m : Machine) → (if stops then ended Ub (placed memory m) else returned_with o r tape (placed memory m)) ≡ rerun memory (if stops then ended Ub m else returned_with o r tape m)
stopped_placed memory true o on r tape m = refl
stopped_placed memory false o on r tape m = returned_placed memory o on r tape m

branched_placed : (memory : List MemoryBlock) (v : Value) (if_true if_false : ℕ) (m : Machine) → branch_on v if_true if_false (placed memory m) ≡ left_again memory (branch_on v if_true if_false m)
branched_placed memory (Num n) if_true if_false m = refl
branched_placed memory Poison if_true if_false m = refl
branched_placed memory (value.Ptr p) if_true if_false m = refl

switched_placed : (memory : List MemoryBlock) (width : ℕ) (v : Value) (default : ℕ) (cases : List Case) (m : Machine) → switch_on width v default cases (placed memory m) ≡ left_again memory (switch_on width v default cases m)
switched_placed memory width (Num n) default cases m = refl
switched_placed memory width Poison default cases m = refl
switched_placed memory width (value.Ptr p) default cases m = refl

end_placed : (memory : List MemoryBlock) (no_undef : Bool) (end : Terminator) → EndsOnIntegers end → (tape : List ℕ) (m : Machine) → exit_by no_undef end tape (placed memory m) ≡ left_again memory (exit_by no_undef end tape m)
end_placed memory no_undef (terminator.Return None) on tape m = refl
end_placed memory no_undef (terminator.Return (Some r)) on tape m =
    ap Over (stopped_placed memory (no_undef && is_poison (typed_operand_value m.registers r)) (undef_type r.of_type r.operand) (undef_on r.of_type r.operand on) r tape m)
end_placed memory no_undef (terminator.Branch to) on tape m = refl
end_placed memory no_undef (terminator.CondBranch condition if_true if_false) on tape m = branched_placed memory (operand_value m.registers condition) if_true if_false m
end_placed memory no_undef (terminator.Switch width operand default cases) on tape m = switched_placed memory width.bits (operand_value m.registers operand) default cases m
end_placed memory no_undef terminator.Unreachable on tape m = refl

after_placed : (memory : List MemoryBlock) (o : Option Machine) (m : Machine) (go : Machine → Exit) → ((m' : Machine) → go (placed memory m') ≡ left_again memory (go m')) → exit_after (option_map (placed memory) o) (placed memory m) go ≡ left_again memory (exit_after o m go)
after_placed memory None m go h = refl
after_placed memory (Some m') m go h = h m'

insts_placed : (memory : List MemoryBlock) (no_undef : Bool) (insts : List Inst) (end : Terminator) → AllByRecursion IsOnIntegers insts → EndsOnIntegers end → (tape : List ℕ) (m : Machine)
    → exit_insts no_undef insts end tape (placed memory m) ≡ left_again memory (exit_insts no_undef insts end tape m)
unfolding exit_insts
insts_placed memory no_undef [] end on last tape m = end_placed memory no_undef end last tape m
insts_placed memory no_undef (inst ∷ insts) end on last tape m =
    ap (λ (o : Option Machine). exit_after o (placed memory m) (exit_insts no_undef insts end tape)) (act_placed memory inst on.0 tape m)
    ∙ after_placed memory (act inst tape m) m (exit_insts no_undef insts end tape) (λ m'. insts_placed memory no_undef insts end on.1 last tape m')

phis_placed : (memory : List MemoryBlock) (before : Machine) (phis : List Phi) (m : Machine) → with_phis (placed memory before) phis (placed memory m) ≡ placed memory (with_phis before phis m)
phis_placed memory before [] m = refl
phis_placed memory before (phi ∷ phis) m = phis_placed memory before phis (assigned m phi.into (phi_value before phi))

abbrev IsOnIntegersOrNone : Option Block → Type 0
IsOnIntegersOrNone None = Unit {0}
IsOnIntegersOrNone (Some b) = IsBlockOnIntegers b

block_at : (blocks : List Block) → AllByRecursion IsBlockOnIntegers blocks → (at : ℕ) → IsOnIntegersOrNone (slice_get blocks at)
block_at [] on at = tt
block_at (b ∷ blocks) on zero = on.0
block_at (b ∷ blocks) on (suc at) = block_at blocks on.1 at

block_placed : (memory : List MemoryBlock) (no_undef : Bool) (o : Option Block) → IsOnIntegersOrNone o → (tape : List ℕ) (m : Machine) → exit_of no_undef o tape (placed memory m) ≡ left_again memory (exit_of no_undef o tape m)
block_placed memory no_undef None on tape m = refl
block_placed memory no_undef (Some b) on tape m =
    ap (λ (n : Machine). exit_insts no_undef b.insts b.terminator tape (record n { block = b.label })) (phis_placed memory m b.phis m)
    ∙ insts_placed memory no_undef b.insts b.terminator (recursion_from_All IsOnIntegers b.insts on.insts) on.end tape (entered b m)

-- what comes on other memory is the same
abbrev ArePlaced : List MemoryBlock → Go → Go → Type 0
ArePlaced memory go go' = (at : ℕ) (m : Machine) → go' at (placed memory m) ≡ rerun memory (go at m)

jump_placed : (memory : List MemoryBlock) (onward again onward' again' : Go) (to : ℕ) (m : Machine) (later : Bool) → ArePlaced memory onward onward' → ArePlaced memory again again'
    → (if later then onward' to (placed memory m) else again' to (record (placed memory m) { turn = m.turn + 1 })) ≡ rerun memory (if later then onward to m else again to (record m { turn = m.turn + 1 }))
jump_placed memory onward again onward' again' to m true on h = on to m
jump_placed memory onward again onward' again' to m false on h = h to (record m { turn = m.turn + 1 })

left_placed : (f : Function) (memory : List MemoryBlock) (onward again onward' again' : Go) (at : ℕ) (x : Exit) → ArePlaced memory onward onward' → ArePlaced memory again again' → go_on f (left_again memory x) at onward' again' ≡ rerun memory (go_on f x at onward again)
left_placed f memory onward again onward' again' at (Over run) on h = refl
left_placed f memory onward again onward' again' at (To label m) on h = jump_placed memory onward again onward' again' (block_of f label) m (nat_lt at (block_of f label)) on h

forward_placed : (f : Function) → HasNoPointers f → (memory : List MemoryBlock) (tape : List ℕ) (again again' : Go) → ArePlaced memory again again' → (left : ℕ) → ArePlaced memory (forward f tape again left) (forward f tape again' left)
unfolding forward
forward_placed f none memory tape again again' h zero at m = refl
forward_placed f none memory tape again again' h (suc left) at m =
    ap (λ (x : Exit). go_on f x at (forward f tape again' left) again') (block_placed memory f.returns_no_undef (slice_get f.blocks at) (block_at f.blocks (recursion_from_All IsBlockOnIntegers f.blocks none.blocks) at) tape m)
    ∙ left_placed f memory (forward f tape again left) again (forward f tape again' left) again' at (exit_of f.returns_no_undef (slice_get f.blocks at) tape m) (forward_placed f none memory tape again again' h left) h

turns_placed : (f : Function) → HasNoPointers f → (memory : List MemoryBlock) (tape : List ℕ) (turns : ℕ) → ArePlaced memory (run_turns f tape turns) (run_turns f tape turns)
unfolding run_turns
turns_placed f none memory tape zero at m = forward_placed f none memory tape (λ at m. ended Beyond m) (λ at m. ended Beyond m) (λ at m. refl) (length f.blocks) at m
turns_placed f none memory tape (suc turns) at m = forward_placed f none memory tape (run_turns f tape turns) (run_turns f tape turns) (turns_placed f none memory tape turns) (length f.blocks) at m

entered_placed : (memory : List MemoryBlock) (broken : Bool) (f : Function) → HasNoPointers f → (bounds : Bounds) (tape : List ℕ) (m : Machine) → run_entered_by broken f bounds tape (placed memory m) ≡ rerun memory (run_entered_by broken f bounds tape m)
entered_placed memory true f none bounds tape m = refl
entered_placed memory false f none bounds tape m = turns_placed f none memory tape bounds.turns 0 m

-- the same input with other blocks
abbrev pub with_blocks : List MemoryBlock → Input → Input
with_blocks memory input = record { args = input.args; blocks = memory }

pub run_any_memory : (f : Function) → HasNoPointers f → (bounds : Bounds) (memory : List MemoryBlock) (input : Input) (tape : List ℕ) → run_of f bounds (with_blocks memory input) tape ≡ rerun memory (run_of f bounds input tape)
run_any_memory f none bounds memory input tape =
    run_of_is f bounds (with_blocks memory input) tape ∙ entered_placed memory (breaks_noundef f.parameters input.args) f none bounds tape (first_machine f input) ∙ ap (rerun memory) (sym (run_of_is f bounds input tape))
