-- Parameters get the arguments in their slots, so an allocation keeps runs.
use Rattle.register_slots.proofs.Common.{◌≡◌, ℕ, List, [], ◌∷◌, length, map, replicate, Bool, true, false, ◌&&◌, ◌||◌, Option, refl, sym, ap, subst, ◌∙◌, AllByRecursion, Name, Parameter, Function, Value, Poison, is_poison, argument_value, with_args, first_machine, breaks_noundef, slice_set, slot_of, parameter_in, function_in, IsHeld, only_holding, HasSlot, parameter_names, IsAllocation}
use Rattle.points.specs.declared.point.Bounds.{Bounds}
use Rattle.points.specs.declared.point.Input.{Input}
use Rattle.points.proofs.Runs.{run_entered_by, run_of_is}
use Rattle.register_slots.specs.Laws.{AllocationsKeepRuns}
use Rattle.register_slots.proofs.Held.{only_holding_length}
use Rattle.register_slots.proofs.Registers.{Agrees, agrees_kept, agrees_at_first}
use Rattle.register_slots.proofs.Running.{turns_alike}

abbrev names_of : List Parameter → List ℕ
names_of parameters = map (λ (p : Parameter). p.name) parameters

-- each parameter's slot holds it; a parameter without an argument stays poison
args_agree : (slots : List ℕ) (names : ℕ) (held : List (Option ℕ)) (parameters : List Parameter) (args registers slotted : List Value) → AllByRecursion (HasSlot slots names (length held)) (names_of parameters)
    → AllByRecursion (IsHeld slots held) (names_of parameters) → Agrees slots names held registers slotted
    → Agrees slots names held (with_args parameters args registers) (with_args (map (parameter_in slots) parameters) args slotted)
args_agree slots names held [] args registers slotted have holds agrees = agrees
args_agree slots names held (p ∷ parameters) [] registers slotted have holds agrees = agrees
args_agree slots names held (p ∷ parameters) (v ∷ args) registers slotted have holds agrees =
    args_agree slots names held parameters args (slice_set registers p.name (argument_value p v)) (slice_set slotted (slot_of slots p.name) (argument_value p v)) have.1 holds.1
    (agrees_kept slots names held registers slotted p.name (argument_value p v) have.0 holds.0 agrees)

breaks_alike : (slots : List ℕ) (parameters : List Parameter) (args : List Value) → breaks_noundef (map (parameter_in slots) parameters) args ≡ breaks_noundef parameters args
breaks_alike slots [] args = refl
breaks_alike slots (p ∷ parameters) [] = refl
breaks_alike slots (p ∷ parameters) (v ∷ args) = ap (λ (b : Bool). (p.no_undef && is_poison (argument_value p v)) || b) (breaks_alike slots parameters args)

module _ (f : Function) (slots : List ℕ) (table : List Name) (lives : List (List ℕ)) (right : IsAllocation f slots (length table) lives) (input : Input) where
  abbrev held_at_first : List (Option ℕ)
  held_at_first = only_holding slots (length table) (parameter_names f)

  first_agrees : Agrees slots (length f.names) held_at_first (first_machine f input).registers (first_machine (function_in slots table f) input).registers
  first_agrees =
      let long = only_holding_length slots (length table) (parameter_names f) in
      let have = subst (λ (n : ℕ). AllByRecursion (HasSlot slots (length f.names) n) (parameter_names f)) (sym long) right.parameters in
      args_agree slots (length f.names) held_at_first f.parameters input.args (replicate (length f.names) Poison) (replicate (length table) Poison) have right.apart
      (agrees_at_first slots (length f.names) held_at_first (length table) long)

  entered_alike : (bounds : Bounds) (tape : List ℕ) (broken : Bool)
      → run_entered_by broken (function_in slots table f) bounds tape (first_machine (function_in slots table f) input) ≡ run_entered_by broken f bounds tape (first_machine f input)
  entered_alike bounds tape true = refl
  entered_alike bounds tape false =
      turns_alike f slots table lives right tape bounds.turns 0 held_at_first (first_machine f input) (first_machine (function_in slots table f) input).registers
      (only_holding_length slots (length table) (parameter_names f)) first_agrees right.entry

pub allocations_keep_runs : AllocationsKeepRuns
allocations_keep_runs f slots table lives right bounds input tape =
    let other = function_in slots table f in
    run_of_is other bounds input tape ∙ (ap (λ (b : Bool). run_entered_by b other bounds tape (first_machine other input)) (breaks_alike slots f.parameters input.args)
    ∙ (entered_alike f slots table lives right input bounds tape (breaks_noundef f.parameters input.args) ∙ sym (run_of_is f bounds input tape)))
