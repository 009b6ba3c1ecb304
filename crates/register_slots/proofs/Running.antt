-- The run from block to block, on names and on their slots.
use Rattle.register_slots.proofs.Common.{◌≡◌, ℕ, zero, suc, ◌+◌, List, [], ◌∷◌, length, map, nat_lt, Bool, true, false, ◌==◌, if◌then◌else◌, Option, Some, None, refl, sym, ap, subst, ◌∙◌, slice_get, slice_index_or, position_or_len, option_map, length-map, slice_get-map, Name, Block, Function, block_of, Value, Machine, Beyond, Exit, To, Over, ended, exit_of, Go, jump, go_on, forward, run_turns, block_in, function_in, only_holding, held_after, IsRightJump, IsAllocation}
use Rattle.register_slots.proofs.Held.{only_holding_length}
use Rattle.register_slots.proofs.Registers.{Agrees}
use Rattle.register_slots.proofs.Leaving.{LeavesAlike, held_after_length}
use Rattle.register_slots.proofs.Entering.{block_alike}

labels_in : (slots : List ℕ) (blocks : List Block) → map (λ (b : Block). b.label) (map (block_in slots) blocks) ≡ map (λ (b : Block). b.label) blocks
labels_in slots [] = refl
labels_in slots (b ∷ blocks) = ap (λ (labels : List ℕ). b.label ∷ labels) (labels_in slots blocks)

block_of_in : (f : Function) (slots : List ℕ) (table : List Name) (label : ℕ) → block_of (function_in slots table f) label ≡ block_of f label
block_of_in f slots table label = ap (position_or_len (λ (other : ℕ). label == other)) (labels_in slots f.blocks)

-- the run from a block on is the same, where the edge to it is right
abbrev pub GoesAlike : Function → List ℕ → ℕ → List (List ℕ) → Go → Go → Type 0
GoesAlike f slots count lives go go' = (at : ℕ) (held : List (Option ℕ)) (m : Machine) (slotted : List Value) → length held ≡ count → Agrees slots (length f.names) held m.registers slotted → IsRightJump f slots lives held m.block at
    → go' at (record m { registers = slotted }) ≡ go at m

jump_alike : (f : Function) (slots : List ℕ) (count : ℕ) (lives : List (List ℕ)) (onward again onward' again' : Go) → GoesAlike f slots count lives onward onward' → GoesAlike f slots count lives again again'
    → (later : Bool) (to : ℕ) (held : List (Option ℕ)) (m : Machine) (slotted : List Value) → length held ≡ count → Agrees slots (length f.names) held m.registers slotted → IsRightJump f slots lives held m.block to
    → (if later then onward' to (record m { registers = slotted }) else again' to (record m { registers = slotted; turn = m.turn + 1 })) ≡ (if later then onward to m else again to (record m { turn = m.turn + 1 }))
jump_alike f slots count lives onward again onward' again' on back true to held m slotted long agrees right = on to held m slotted long agrees right
jump_alike f slots count lives onward again onward' again' on back false to held m slotted long agrees right = back to held (record m { turn = m.turn + 1 }) slotted long agrees right

left_alike : (f : Function) (slots : List ℕ) (table : List Name) (count : ℕ) (lives : List (List ℕ)) (held : List (Option ℕ)) (from at : ℕ) (x y : Exit) (onward again onward' again' : Go)
    → GoesAlike f slots count lives onward onward' → GoesAlike f slots count lives again again' → length held ≡ count → LeavesAlike f slots lives held from x y
    → go_on (function_in slots table f) y at onward' again' ≡ go_on f x at onward again
left_alike f slots table count lives held from at (Over run) (Over other) onward again onward' again' on back long leaves = leaves
left_alike f slots table count lives held from at (To label m) (To to other) onward again onward' again' on back long leaves =
    let slotted = leaves.slotted.0.slotted in
    let index : block_of (function_in slots table f) to ≡ block_of f label = ap (block_of (function_in slots table f)) leaves.same ∙ block_of_in f slots table label in
    let right : IsRightJump f slots lives held m.block (block_of f label) = subst (λ (k : ℕ). IsRightJump f slots lives held k (block_of f label)) (sym leaves.slotted.1) leaves.jump in
    let moved : jump at (block_of (function_in slots table f) to) other onward' again' ≡ jump at (block_of f label) (record m { registers = slotted }) onward' again' = λ i. jump at (index i) (leaves.slotted.0.is i) onward' again' in
    moved ∙ jump_alike f slots count lives onward again onward' again' on back (nat_lt at (block_of f label)) (block_of f label) held m slotted long leaves.slotted.0.agrees right
left_alike f slots table count lives held from at (Over run) (To to other) onward again onward' again' on back long leaves = absurd leaves
left_alike f slots table count lives held from at (To label m) (Over other) onward again onward' again' on back long leaves = absurd leaves

module _ (f : Function) (slots : List ℕ) (table : List Name) (lives : List (List ℕ)) (right : IsAllocation f slots (length table) lives) (tape : List ℕ) where
  abbrev other : Function
  other = function_in slots table f

  forward_alike : (again again' : Go) → GoesAlike f slots (length table) lives again again' → (left : ℕ) → GoesAlike f slots (length table) lives (forward f tape again left) (forward other tape again' left)
  unfolding forward
  forward_alike again again' back zero at held m slotted long agrees edge = refl
  forward_alike again again' back (suc left) at held m slotted long agrees edge =
      ap (λ (o : Option Block). go_on other (exit_of f.returns_no_undef o tape (record m { registers = slotted })) at (forward other tape again' left) again') (slice_get-map (block_in slots) f.blocks at)
      ∙ by (slice_get f.blocks at) refl (forward_alike again again' back left)
    where
      by : (o : Option Block) → slice_get f.blocks at ≡ o → GoesAlike f slots (length table) lives (forward f tape again left) (forward other tape again' left)
          → go_on other (exit_of f.returns_no_undef (option_map (block_in slots) o) tape (record m { registers = slotted })) at (forward other tape again' left) again'
          ≡ go_on f (exit_of f.returns_no_undef o tape m) at (forward f tape again left) again
      by None e on = refl
      by (Some b) e on =
          let live = slice_index_or lives at [] in
          let start = only_holding slots (length table) live in
          left_alike f slots table (length table) lives (held_after slots b.insts start) b.label at (exit_of f.returns_no_undef (Some b) tape m) (exit_of f.returns_no_undef (Some (block_in slots b)) tape (record m { registers = slotted }))
          (forward f tape again left) again (forward other tape again' left) again' on back (held_after_length slots b.insts start ∙ only_holding_length slots (length table) live)
          (block_alike f slots (length table) lives live held b f.returns_no_undef tape m slotted long agrees (edge b e) (right.blocks at b e))

  -- with one jump forward for each block
  whole_alike : (again again' : Go) → GoesAlike f slots (length table) lives again again' → GoesAlike f slots (length table) lives (forward f tape again (length f.blocks)) (forward other tape again' (length other.blocks))
  whole_alike again again' back at held m slotted long agrees edge =
      ap (λ (n : ℕ). forward other tape again' n at (record m { registers = slotted })) (length-map f.blocks (block_in slots)) ∙ forward_alike again again' back (length f.blocks) at held m slotted long agrees edge

  pub turns_alike : (turns : ℕ) → GoesAlike f slots (length table) lives (run_turns f tape turns) (run_turns other tape turns)
  unfolding run_turns
  turns_alike zero at held m slotted long agrees edge = whole_alike (λ at m. ended Beyond m) (λ at m. ended Beyond m) (λ at held m slotted long agrees edge. refl) at held m slotted long agrees edge
  turns_alike (suc turns) at held m slotted long agrees edge = whole_alike (run_turns f tape turns) (run_turns other tape turns) (turns_alike turns) at held m slotted long agrees edge
