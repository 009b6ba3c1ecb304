-- What holds of each site of a made function: types are bytes, and values come before their uses.
use Rattle.read_back.proofs.Common.{◌≡◌, ◌⊎◌, ℕ, zero, suc, ◌+◌, ◌<◌, ◌≤◌, inl, inr, true, List, [], ◌∷◌, ◌++◌, length, take, Some, None, refl, sym, ap, subst, arith, AllByRecursion, Contains, flat_map, cases_lt, length-take-le, Contains-append_left, Contains-append_right, Int, Inst, Return, Part, Site, Defines, Uses, Enters, Written, Step, inst_sites, inst_steps, header_sites, parameter_sites, terminator_sites, results_of, eight, value_name, value, byte_parameter}
use Rattle.ir_tree.specs.declared.sites.Part.TheVariants as part
use Rattle.read_back.proofs.MadeInsts.{AreMade, made-take}
use Rattle.read_back.proofs.MadeSites.{HoldsIn, holds-append}

-- ---- what is assigned

abbrev pub IsBehind : List Inst → ℕ → Type 0
IsBehind insts name = Contains (0 ∷ 1 ∷ []) name ⊎ Contains (flat_map results_of insts) name

results : (i : ℕ) (insts : List Inst) → AreMade i insts → (v : ℕ) → i + 2 ≤ v
    → v < i + 2 + length insts → Contains (flat_map results_of insts) (value_name v)
results i [] h v low high = absurd (omega (arith, low, high))
results i (inst ∷ insts) h v low high =
    let own : results_of inst ≡ value_name (i + 2) ∷ [] = ap results_of h.0.is in
    elim (cases_lt (i + 2) v) [
      | inl less ↦ Contains-append_right (results_of inst) (flat_map results_of insts)
          (value_name v) (results (i + 1) insts h.1 v (omega (arith, less)) (omega (arith, high)))
      | inr most ↦ let e : i + 2 ≡ v = omega (arith, low, most) in
          let here : Contains (value_name (i + 2) ∷ []) (value_name (i + 2)) =
          (0, omega arith, refl) in
          Contains-append_left (results_of inst) (flat_map results_of insts) (value_name v)
          (subst (λ (xs : List ℕ). Contains xs (value_name v)) (sym own)
          (subst (λ (n : ℕ). Contains (value_name (i + 2) ∷ []) (value_name n)) e here))
    ]

-- parameters and results
pub behind-all : (insts : List Inst) → AreMade 0 insts → (v : ℕ) → v < length insts + 2
    → IsBehind insts (value_name v)
behind-all insts h zero low = inl (0, omega arith, refl)
behind-all insts h (suc zero) low = inl (1, omega arith, refl)
behind-all insts h (suc (suc v)) low =
    inr (results 0 insts h (suc (suc v)) (omega arith) (omega (arith, low)))

behind_some : (insts : List Inst) → AreMade 0 insts → (i v : ℕ) → i ≤ length insts → v < i + 2
    → IsBehind (take i insts) (value_name v)
behind_some insts h i v few low =
    let e = length-take-le i insts few in
    behind-all (take i insts) (made-take i 0 insts h) v (omega (arith, low, e))

-- the name is assigned where this part begins
abbrev pub IsAssigned : List Inst → Part → ℕ → Type 0
IsAssigned insts (part.Inst block place) name = IsBehind (take place insts) name
IsAssigned insts (part.End block) name = IsBehind insts name
IsAssigned insts _ name = ⊥

-- ---- each site

-- a value that is used in this part
pub record IsValue (insts : List Inst) (p : Part) (name : ℕ) : Type 0 where
  pub value : ℕ
  pub below : value < length insts + 2
  pub is : name ≡ value_name value
  pub assigned : IsAssigned insts p name

abbrev pub IsSound : List Inst → Part → Site → Type 0
IsSound insts p (Defines None name) = Unit {0}
IsSound insts p (Defines (Some type) name) = type ≡ Int eight
IsSound insts p (Uses type name) = (type ≡ Int eight) × IsValue insts p name
IsSound insts p (Enters name) = ⊥
IsSound insts p (Written fits) = fits ≡ true

sound_insts : (all : List Inst) → AreMade 0 all → (i : ℕ) (insts : List Inst) → AreMade i insts
    → i + length insts ≤ length all → HoldsIn (IsSound all) (inst_steps 0 i insts)
sound_insts all whole i [] h few = tt
sound_insts all whole i (inst ∷ insts) h few =
    let used : (v : ℕ) → v < i + 2 → IsValue all (part.Inst 0 i) (value_name v) =
    λ v low. record {
      value = v;
      below = omega (arith, low, few);
      is = refl;
      assigned = behind_some all whole i v (omega (arith, few)) low;
    } in
    let left = used h.0.left h.0.left_before in
    let right = used h.0.right h.0.right_before in
    let own : AllByRecursion (IsSound all (part.Inst 0 i)) (inst_sites inst) =
    subst (λ (j : Inst). AllByRecursion (IsSound all (part.Inst 0 i)) (inst_sites j)) (sym h.0.is)
    (refl, (refl, ((refl, left), ((refl, right), tt)))) in
    (own, sound_insts all whole (i + 1) insts h.1 (omega (arith, few)))

abbrev pub last_step : List Inst → Step
last_step insts = (
  part.End 0,
  terminator_sites (Some (Int eight))
      (Return (Some (record { of_type = Int eight; operand = value (length insts + 1) }))),
)

abbrev pub made_steps : List Inst → List Step
made_steps insts =
    (part.Header, header_sites) ∷ (part.Parameter, parameter_sites (byte_parameter 0)) ∷
    (part.Parameter, parameter_sites (byte_parameter 1)) ∷ (part.Label 0, Defines None 2 ∷ [])
    ∷ ((inst_steps 0 0 insts ++ last_step insts ∷ []) ++ [])

pub all-sound : (insts : List Inst) → AreMade 0 insts → HoldsIn (IsSound insts) (made_steps insts)
all-sound insts h =
    let last : IsValue insts (part.End 0) (value_name (length insts + 1)) =
    record {
      value = length insts + 1;
      below = omega arith;
      is = refl;
      assigned = behind-all insts h (length insts + 1) (omega arith);
    } in
    let end : HoldsIn (IsSound insts) (last_step insts ∷ []) = ((refl, ((refl, last), tt)), tt) in
    let steps : List Step = inst_steps 0 0 insts in
    let lines = sound_insts insts h 0 insts h (omega arith) in
    let own = holds-append (IsSound insts) steps (last_step insts ∷ []) lines end in
    let all = holds-append (IsSound insts) (steps ++ last_step insts ∷ []) [] own tt in
    ((refl, (refl, tt)), ((refl, (refl, tt)), ((refl, (refl, tt)), ((tt, tt), all))))
