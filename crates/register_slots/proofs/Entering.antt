-- A block that is entered along a right edge: its phis, and how it is left.
use Rattle.register_slots.proofs.Common.{◌≡◌, ℕ, List, [], ◌∷◌, length, map, Bool, Option, Some, refl, sym, ap, subst, ◌∙◌, slice_set, AllByRecursion, length-set, Phi, Block, Function, Value, Machine, assigned, typed_value, phi_value, with_phis, entered, exit_insts, exit_of, slot_of, inst_in, phi_in, terminator_in, block_in, IsHeld, holding, only_holding, HasSlot, held_after, IsRightPhi, IsRightEdge, IsRightBlock}
use Rattle.register_slots.proofs.Held.{holding_length, only_holding_length, only_among}
use Rattle.register_slots.proofs.Registers.{Agrees, agrees_assigned, agrees_fewer}
use Rattle.register_slots.proofs.Reading.{entry_read}
use Rattle.register_slots.proofs.Acting.{IsSlotted}
use Rattle.register_slots.proofs.Leaving.{LeavesAlike, insts_alike}

-- ---- phis

phi_alike : (slots : List ℕ) (names : ℕ) (held : List (Option ℕ)) (before : Machine) (first : List Value) → Agrees slots names held before.registers first → (phi : Phi) → IsRightPhi slots names held before.block phi
    → phi_value (record before { registers = first }) (phi_in slots phi) ≡ phi_value before phi
phi_alike slots names held before first agrees phi right = ap (typed_value phi.of_type) (entry_read slots names held before.registers first agrees before.block phi.entries right.0)

-- all phis read the machine before them
phis_alike : (slots : List ℕ) (names : ℕ) (held : List (Option ℕ)) (before : Machine) (first : List Value) → Agrees slots names held before.registers first → (phis : List Phi) → AllByRecursion (IsRightPhi slots names held before.block) phis
    → (now : List (Option ℕ)) (m : Machine) (slotted : List Value) → length now ≡ length held → Agrees slots names now m.registers slotted
    → IsSlotted slots names (holding slots (map (λ (phi : Phi). phi.into) phis) now) (with_phis before phis m) (with_phis (record before { registers = first }) (map (phi_in slots) phis) (record m { registers = slotted }))
phis_alike slots names held before first agrees [] right now m slotted long agrees' = record { slotted = slotted; is = refl; agrees = agrees' }
phis_alike slots names held before first agrees (phi ∷ phis) right now m slotted long agrees' =
    let v = phi_value before phi in
    let other = record before { registers = first } in
    let there = record m { registers = slotted } in
    let next = slice_set now (slot_of slots phi.into) (Some phi.into) in
    let slot : HasSlot slots names (length now) phi.into = subst (λ (n : ℕ). HasSlot slots names n phi.into) (sym long) right.0.1 in
    let rest = phis_alike slots names held before first agrees phis right.1 next (assigned m phi.into v) (slice_set slotted (slot_of slots phi.into) v) (length-set now (slot_of slots phi.into) (Some phi.into) ∙ long)
    (agrees_assigned slots names now m.registers slotted phi.into v slot agrees') in
    record {
      slotted = rest.slotted;
      is = ap (λ (x : Value). with_phis other (map (phi_in slots) phis) (assigned there (slot_of slots phi.into) x)) (phi_alike slots names held before first agrees phi right.0) ∙ rest.is;
      agrees = rest.agrees;
    }

-- ---- a block

-- after the phis the names that are live there are held
entered_alike : (slots : List ℕ) (names count : ℕ) (held : List (Option ℕ)) (b : Block) (live : List ℕ) (m : Machine) (slotted : List Value) → length held ≡ count → Agrees slots names held m.registers slotted → IsRightEdge slots names held m.block b live
    → IsSlotted slots names (only_holding slots count live) (entered b m) (entered (block_in slots b) (record m { registers = slotted }))
entered_alike slots names count held b live m slotted long agrees edge =
    let assigns = map (λ (phi : Phi). phi.into) b.phis in
    let after = phis_alike slots names held m slotted agrees b.phis edge.phis held m slotted refl agrees in
    record {
      slotted = after.slotted;
      is = ap (λ (n : Machine). record n { block = b.label }) after.is;
      agrees = agrees_fewer slots names (holding slots assigns held) (only_holding slots count live) (with_phis m b.phis m).registers after.slotted
          (only_holding_length slots count live ∙ sym (holding_length slots assigns held ∙ long))
          (λ n h. only_among (IsHeld slots (holding slots assigns held)) slots count live n edge.live h) after.agrees;
    }

pub block_alike : (f : Function) (slots : List ℕ) (count : ℕ) (lives : List (List ℕ)) (live : List ℕ) (held : List (Option ℕ)) (b : Block) (no_undef : Bool) (tape : List ℕ) (m : Machine) (slotted : List Value)
    → length held ≡ count → Agrees slots (length f.names) held m.registers slotted → IsRightEdge slots (length f.names) held m.block b live → IsRightBlock f slots count lives live b
    → LeavesAlike f slots lives (held_after slots b.insts (only_holding slots count live)) b.label (exit_of no_undef (Some b) tape m) (exit_of no_undef (Some (block_in slots b)) tape (record m { registers = slotted }))
block_alike f slots count lives live held b no_undef tape m slotted long agrees edge right =
    let start = only_holding slots count live in
    let there = entered_alike slots (length f.names) count held b live m slotted long agrees edge in
    subst (λ (n : Machine). LeavesAlike f slots lives (held_after slots b.insts start) b.label (exit_insts no_undef b.insts b.terminator tape (entered b m)) (exit_insts no_undef (map (inst_in slots) b.insts) (terminator_in slots b.terminator) tape n))
    (sym there.is) (insts_alike f slots lives b.label no_undef b.insts b.terminator tape start (entered b m) there.slotted there.agrees refl right.insts right.end.operands right.end.jumps)
