-- From labels to the indices of blocks.
use Rattle.std.specs.Prelude.{◌≡◌, ℕ, List, length, nat_eq}
use Rattle.std.specs.Map.{lookup}
use Rattle.std.specs.Option.{option_map_or}
use Rattle.ir_tree.specs.declared.tree.Function.{Function}
use Rattle.ir_tree.specs.Flow.{block_of}

-- the entries give the index of the block with a label; where there is none, no block has it
abbrev pub IsIndex : Function → List (ℕ × ℕ) → Type 0
IsIndex f entries = (label : ℕ) → option_map_or (λ (place : ℕ). place) (lookup (nat_eq label) entries) (length f.blocks) ≡ block_of f label
