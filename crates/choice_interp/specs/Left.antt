-- How a block is entered and left, and a jump.
use Rattle.std.specs.Prelude.{◌≡◌, ◌⊎◌, ◌+◌, ◌<◌, ◌≤◌, ℕ, List, [], ◌∷◌, Option, Some, None}
use Rattle.ir_tree.specs.declared.tree.Phi.{Phi}
use Rattle.byte_block.specs.declared.value.Value.{Value}
use Rattle.points.specs.declared.machine.Machine.{Machine}
use Rattle.std.specs.List.{filter}
use Rattle.points.specs.Run.{Run, Exit, To, Over, assigned, is_given}
use Rattle.choice_interp.specs.declared.ending.Ending.{Ending}
use Rattle.choice_interp.specs.Ran.{outcome_of}
use Rattle.choice_interp.specs.declared.flow.Left.{Left}
use Rattle.choice_interp.specs.declared.flow.Left.TheVariants as left

-- each phi gets the value at its index
abbrev pub assign_all : List Phi → List Value → Machine → Machine
assign_all (phi ∷ phis) (v ∷ vs) m = assign_all phis vs (assigned m phi.into v)
assign_all _ _ m = m

-- the run that ends so in this machine, whose local blocks are not freed yet
abbrev pub left_by : Ending → Machine → Run
left_by ending m = record { outcome = outcome_of ending (filter is_given m.memory); taken = m.taken }

-- the exit of a block that is left this way, with this machine
abbrev pub exit_with : Left → Machine → Exit
exit_with (left.To label) m = To label m
exit_with (left.Over ending) m = Over (left_by ending m)

-- to a later index; or to the same or an earlier one, which takes one of the backward jumps; None where there is no such jump left
abbrev pub IsJump : ℕ → ℕ → ℕ → Machine → Machine → Option ℕ → Type 0
IsJump at to jumps m n (Some rest) = ((at < to) × (rest ≡ jumps) × (n ≡ m)) ⊎ ((to ≤ at) × (jumps ≡ rest + 1) × (n ≡ record m { turn = m.turn + 1 }))
IsJump at to jumps m n None = (to ≤ at) × (jumps ≡ 0) × (n ≡ m)
