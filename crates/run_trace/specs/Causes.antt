-- What the search for a reason promises of an instruction, and of the parts of one.
use Rattle.std.specs.Prelude.{◌≡◌, ◌⊎◌, ℕ, List, nat_le, true, false, ◌&&◌, Option, None, IsSomeAnd}
use Rattle.std.specs.List.{list_any}
use Rattle.ir_tree.specs.declared.tree.Op.{Op}
use Rattle.ir_tree.specs.declared.tree.Cast.{Cast}
use Rattle.ir_tree.specs.declared.tree.Inst.{Inst}
use Rattle.points.specs.declared.machine.Machine.{Machine}
use Rattle.points.specs.Table.{is_poisoned, cast_number}
use Rattle.points.specs.Run.{act, is_poison}
use Rattle.run_trace.specs.declared.steps.Flag.{Flag}
use Rattle.run_trace.specs.declared.steps.Reason.{Reason}
use Rattle.run_trace.specs.declared.steps.Reason.TheVariants as reason
use Rattle.run_trace.specs.Operands.{effective_operands, is_poison_name}
use Rattle.run_trace.specs.Reasons.{is_flag, no_flag, op_kept, cast_kept, is_shift, gives_poison, IsInstReason}

-- of an operation on numbers that gives poison
abbrev pub IsPoisonCause : Reason → Op → ℕ → ℕ → ℕ → Type 0
IsPoisonCause (reason.Flag flag) op n a b =
    (is_poisoned (op_kept (is_flag flag) op) n a b ≡ true) × (is_poisoned (op_kept no_flag op) n a b ≡ false)
IsPoisonCause reason.ShiftPastWidth op n a b = (is_shift op && nat_le n b) ≡ true
IsPoisonCause _ op n a b = ⊥

-- of a cast of a number that gives poison
abbrev pub IsCastCause : Flag → Cast → ℕ → ℕ → ℕ → Type 0
IsCastCause flag cast from to a =
    (is_poison (cast_number (cast_kept (is_flag flag) cast) from to a) ≡ true)
    × (is_poison (cast_number (cast_kept no_flag cast) from to a) ≡ false)

-- it is undefined behaviour, or gives poison where none of its operands was poison before
abbrev pub NeedsCause : Inst → List ℕ → Machine → Type 0
NeedsCause inst tape m =
    (act inst tape m ≡ None)
    ⊎ ((gives_poison inst tape m ≡ true) × (list_any (is_poison_name m.registers) (effective_operands inst m.registers) ≡ false))

-- a reason of the instruction, if it needs one
abbrev pub IsCauseOf : Inst → Machine → Option Reason → Type 0
IsCauseOf inst m cause = (tape : List ℕ) → NeedsCause inst tape m → IsSomeAnd cause (λ r. IsInstReason r inst tape m)
