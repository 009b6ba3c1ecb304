-- The steps of a depth-first search.
use Rattle.std.specs.Prelude.{ℕ, ◌+◌, Bool, true, false, List, [], ◌∷◌, length}
use Rattle.definite_assignment.specs.declared.visiting_order.Step.{Step}
use Rattle.definite_assignment.specs.declared.visiting_order.Step.TheVariants.{Enter, Leave}

-- the block that the step enters or leaves
abbrev pub block_of : Step → ℕ
block_of (Enter block) = block
block_of (Leave block) = block

-- how many steps are left for the blocks not entered: to leave each and to enter its successors
abbrev pub steps_left : List Bool → List (List ℕ) → ℕ
steps_left [] successors = 0
steps_left (true ∷ marks) [] = 0
steps_left (false ∷ marks) [] = 0
steps_left (true ∷ marks) (nexts ∷ successors) = steps_left marks successors
steps_left (false ∷ marks) (nexts ∷ successors) = length nexts + 2 + steps_left marks successors
