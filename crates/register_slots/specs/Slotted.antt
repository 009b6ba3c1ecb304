-- A function with its values in slots.
use Rattle.std.specs.Prelude.{◌≡◌, ℕ, List, length}
use Rattle.ir_tree.specs.declared.name.Name.{Name}
use Rattle.ir_tree.specs.declared.tree.Function.{Function}
use Rattle.register_slots.specs.Renaming.{function_in}
use Rattle.register_slots.specs.Allocation.{IsAllocation}

-- the function with its names renumbered to slots that they may share
abbrev pub IsSlotted : Function → Function → Type 0
IsSlotted f g = (slots : List ℕ) × (names : List Name) × (lives : List (List ℕ)) × IsAllocation f slots (length names) lives × (g ≡ function_in slots names f)
