-- Which names are assigned on every path before a block. Blocks and names are numbered from 0; the entry is block 0.
use Rattle.std.specs.Prelude.{ℕ, ◌≡◌, ◌⊎◌, List, [], ◌∷◌, slice_index_or}
use Rattle.std.specs.List.{Contains}

-- the block has the other as a successor
abbrev pub IsSuccessor : List (List ℕ) → ℕ → ℕ → Type 0
IsSuccessor successors block next = Contains (slice_index_or successors block []) next

-- the block assigns the name
abbrev pub Assigns : List (List ℕ) → ℕ → ℕ → Type 0
Assigns assigns block name = Contains (slice_index_or assigns block []) name

-- A path from the entry to a block: the blocks that it leaves on its way, the last of them first. It
-- begins with the entry, and each next block is a successor of the one before.
abbrev pub IsPathTo : List (List ℕ) → ℕ → List ℕ → Type 0
IsPathTo successors block [] = block ≡ 0
IsPathTo successors block (last ∷ before) = IsSuccessor successors last block × IsPathTo successors last before

-- one of the blocks assigns the name
abbrev pub IsAssignedIn : List (List ℕ) → List ℕ → ℕ → Type 0
IsAssignedIn assigns [] name = ⊥
IsAssignedIn assigns (block ∷ blocks) name = Assigns assigns block name ⊎ IsAssignedIn assigns blocks name

-- on every path to the block, one of the blocks that it leaves assigns the name: so for each name
-- at a block that no path reaches, and for no name at the entry
abbrev pub IsAssignedBefore : List (List ℕ) → List (List ℕ) → ℕ → ℕ → Type 0
IsAssignedBefore successors assigns block name = (left : List ℕ) → IsPathTo successors block left → IsAssignedIn assigns left name

-- some path to the block leaves no block that assigns the name
abbrev pub IsUnassignedBefore : List (List ℕ) → List (List ℕ) → ℕ → ℕ → Type 0
IsUnassignedBefore successors assigns block name = (left : List ℕ) × IsPathTo successors block left × (IsAssignedIn assigns left name → ⊥)
