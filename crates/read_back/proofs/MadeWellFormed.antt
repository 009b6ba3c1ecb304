-- A made function is well formed: each name comes before its uses, and all values are bytes.
use Rattle.read_back.proofs.Common.{◌≡◌, ℕ, zero, suc, ◌+◌, ◌<◌, ◌≤◌, inl, inr, true, false, List, [], ◌∷◌, ◌++◌, length, take, Some, None, refl, sym, ap, ◌∙◌, subst, append-nil, append_assoc, arith, Contains, slice_get, cases_lt, ltb-true, Name, IrType, Int, Local, Inst, Block, Phi, Part, Site, Defines, Uses, Enters, Written, Step, steps, sites, parts, sites_in, inst_sites, inst_steps, is_same_type, assigned_with, DefinesAgain, UsesUnknown, ClashesType, HasWrongEdge, IsMissed, IsMissedAt, UsesUnassigned, IsWellFormed, UsesUndef, leaf_count, eight, value_name, same_Some}
use Rattle.std.proofs.lemmas.Grind.{flat_map-append}
use Rattle.ir_tree.specs.declared.sites.Part.TheVariants as part
use Rattle.read_back.proofs.MadeNames.{value-big}
use Rattle.read_back.proofs.MadeInsts.{AreMade}
use Rattle.read_back.proofs.MadeLeaves.{no_leaves}
use Rattle.read_back.proofs.MadeWritten.{plain_block, plain_function}
use Rattle.read_back.proofs.MadeSites.{Found, site-found, Rises, rising-once}
use Rattle.read_back.proofs.MadeAssigned.{IsBehind, IsAssigned, IsSound, last_step, made_steps, all-sound}

-- ---- the sites in order

abbrev front_sites : List Site
front_sites = Written true ∷ Written true ∷ Written true ∷ Defines
    (Some (Int eight)) 0 ∷ Written true ∷ Defines (Some (Int eight)) 1 ∷ Defines None 2 ∷ []

abbrev last_sites : List Inst → List Site
last_sites insts = Written true ∷ Uses (Int eight) (value_name (length insts + 1)) ∷ []

abbrev made_sites : List Inst → List Site
made_sites insts = front_sites ++ (sites_in (inst_steps 0 0 insts) ++ last_sites insts)

sites_are : (insts : List Inst) → sites_in (made_steps insts) ≡ made_sites insts
sites_are insts =
    ap (λ (ss : List Step). front_sites ++ sites_in ss)
    (append-nil (inst_steps 0 0 insts ++ last_step insts ∷ []))
    ∙ ap (λ (ss : List Site). front_sites ++ ss)
    (flat_map-append (λ (step : Step). step.1) (inst_steps 0 0 insts) (last_step insts ∷ []))

function_sites : (n : Name) (insts : List Inst) → sites (plain_function n insts) ≡ made_sites insts
unfolding steps
function_sites n insts = sites_are insts

-- ---- names

insts_rise : (i : ℕ) (insts : List Inst) (rest : List Site) → AreMade i insts
    → ((low : ℕ) → Rises low rest) → Rises (i + 3) (sites_in (inst_steps 0 i insts) ++ rest)
insts_rise i [] rest h last = last (i + 3)
insts_rise i (inst ∷ insts) rest h last =
    let others : List Site = sites_in (inst_steps 0 (i + 1) insts) ++ rest in
    let big = value-big (i + 2) (omega arith) in
    let next : i + 1 + 3 ≡ value_name (i + 2) + 1 = omega (arith, big) in
    let own : Rises (i + 3) (inst_sites inst ++ others) =
    subst (λ (ss : List Site). Rises (i + 3) (ss ++ others)) (ap inst_sites (sym h.0.is)) (
      omega (arith, big),
      subst (λ (low : ℕ). Rises low others) next (insts_rise (i + 1) insts rest h.1 last),
    ) in
    let split = append_assoc (inst_sites inst) (sites_in (inst_steps 0 (i + 1) insts)) rest in
    subst (Rises (i + 3)) (sym split) own

all_rise : (insts : List Inst) → AreMade 0 insts → Rises 0 (made_sites insts)
all_rise insts h =
    let others = insts_rise 0 insts (last_sites insts) h (λ low. tt) in
    (omega arith, (omega arith, (omega arith, others)))

abbrev IsDefined : List Site → ℕ → Type 0
IsDefined all name = (m : ℕ) × (slice_get all m ≡ Some (Defines (Some (Int eight)) name))

insts_defined : (i : ℕ) (insts : List Inst) (rest : List Site) → AreMade i insts → (v : ℕ)
    → i + 2 ≤ v → v < i + 2 + length insts
    → IsDefined (sites_in (inst_steps 0 i insts) ++ rest) (value_name v)
insts_defined i [] rest h v low high = absurd (omega (arith, low, high))
insts_defined i (inst ∷ insts) rest h v low high =
    let others : List Site = sites_in (inst_steps 0 (i + 1) insts) ++ rest in
    let own : IsDefined (inst_sites inst ++ others) (value_name v) =
    subst (λ (ss : List Site). IsDefined (ss ++ others) (value_name v)) (ap inst_sites (sym h.0.is))
    (elim (cases_lt (i + 2) v) [
      | inl less ↦
          let up : i + 1 + 2 ≤ v = omega (arith, less) in
          let r = insts_defined (i + 1) insts rest h.1 v up (omega (arith, high)) in
          (suc (suc (suc (suc r.0))), r.1)
      | inr most ↦
          let e : i + 2 ≡ v = omega (arith, low, most) in
          (zero, ap (λ (k : ℕ). Some (Defines (Some (Int eight)) (value_name k))) e)
    ]) in
    subst (λ (ss : List Site). IsDefined ss (value_name v))
    (sym (append_assoc (inst_sites inst) (sites_in (inst_steps 0 (i + 1) insts)) rest)) own

all_defined : (insts : List Inst) → AreMade 0 insts → (v : ℕ) → v < length insts + 2
    → IsDefined (made_sites insts) (value_name v)
all_defined insts h zero low = (3, refl)
all_defined insts h (suc zero) low = (5, refl)
all_defined insts h (suc (suc v)) low =
    let r = insts_defined 0 insts (last_sites insts) h (suc (suc v)) (omega arith)
    (omega (arith, low)) in
    (suc (suc (suc (suc (suc (suc (suc r.0)))))), r.1)

-- ---- the tests

found : (n : Name) (insts : List Inst) → AreMade 0 insts → (k : ℕ) (s : Site)
    → slice_get (sites (plain_function n insts)) k ≡ Some s
    → Found (IsSound insts) (parts (plain_function n insts)) k s
unfolding steps
found n insts h k s e = site-found (IsSound insts) (made_steps insts) (all-sound insts h) k s e

once : (n : Name) (insts : List Inst) → AreMade 0 insts → (k : ℕ)
    → DefinesAgain (sites (plain_function n insts)) k → ⊥
once n insts h k d = rising-once 0 (sites (plain_function n insts))
    (subst (Rises 0) (sym (function_sites n insts))
    (all_rise insts h)) k d.earlier d.before d.type d.other d.name d.here d.there

known : (n : Name) (insts : List Inst) → AreMade 0 insts → (k : ℕ)
    → UsesUnknown (sites (plain_function n insts)) k → ⊥
known n insts h k (inl u) =
    let f = found n insts h k (Uses u.type u.name) u.here in
    let v = f.holds.1 in
    let has : IsDefined (sites (plain_function n insts)) (value_name v.value) =
    subst (λ (ss : List Site). IsDefined ss (value_name v.value)) (sym (function_sites n insts))
    (all_defined insts h v.value v.below) in
    u.unknown (
      has.0,
      Int eight,
      has.1 ∙ ap (λ (m : ℕ). Some (Defines (Some (Int eight)) m))
          (sym v.is),
    )
known n insts h k (inr e) = let f = found n insts h k (Enters e.name) e.here in f.holds

same_bytes : (a b : IrType) → a ≡ Int eight → b ≡ Int eight → is_same_type a b ≡ true
same_bytes a b e f = rw (e, f) refl

typed : (n : Name) (insts : List Inst) → AreMade 0 insts → (k : ℕ)
    → ClashesType (sites (plain_function n insts)) k → ⊥
typed n insts h k (inl w) =
    let f = found n insts h k (Written false) w in
    let bad = f.holds in
    absurd cc
typed n insts h k (inr u) =
    let f = found n insts h k (Uses u.type u.name) u.here in
    let g = found n insts h u.defined (Defines (Some u.other) u.name) u.there in
    let e = same_bytes u.other u.type g.holds f.holds.0 in
    let d = u.differs in
    absurd cc

only_block : (x y : Block) (k : ℕ) → slice_get (x ∷ []) k ≡ Some y → x ≡ y
only_block x y zero e = same_Some x y e
only_block x y (suc k) e = absurd (cc e)

no_phi : (insts : List Inst) (b : Block) (k place : ℕ) (phi : Phi)
    → slice_get (plain_block insts ∷ []) k ≡ Some b → slice_get b.phis place ≡ Some phi → ⊥
no_phi insts b k place phi e f =
    let same : b.phis ≡ [] = ap (λ (x : Block). x.phis)
    (sym (only_block (plain_block insts) b k e)) in
    let g : slice_get [] place ≡ Some phi = ap (λ (xs : List Phi). slice_get xs place) (sym same)
    ∙ f in
    absurd (cc g)

edged : (n : Name) (insts : List Inst) → AreMade 0 insts → (k : ℕ)
    → HasWrongEdge (plain_function n insts) k → ⊥
edged n insts h k (inl u) = no_phi insts u.holder u.block u.place u.phi u.holds u.stands
edged n insts h k (inr j) = let f = found n insts h k (Enters j.name) j.here in f.holds

missed : (n : Name) (insts : List Inst) (block : ℕ) (b : Block) (ran : List Inst) (name : ℕ)
    → IsBehind ran name → IsMissed (plain_function n insts) block b ran name → ⊥
missed n insts block b ran name (inl parameter) m = m.outside parameter
missed n insts block b ran name (inr result) m =
    let same = only_block (plain_block insts) b block m.stands in
    m.within (subst (λ (x : Block). Contains (assigned_with x ran) name) same result)

never : (n : Name) (insts : List Inst) (p : Part) (k name : ℕ) → IsAssigned insts p name
    → IsMissedAt (plain_function n insts) p k name → ⊥
never n insts part.Header k name a m = m
never n insts part.Parameter k name a m = m
never n insts (part.Label block) k name a m = m
never n insts (part.Phi block place) k name a m = a
never n insts (part.Inst block place) k name a m =
    let same = only_block (plain_block insts) m.0 block m.1.stands in
    missed n insts block m.0 (take place m.0.insts) name
    (subst (λ (x : Block). IsBehind (take place x.insts) name) same a) m.1
never n insts (part.End block) k name a m =
    let same = only_block (plain_block insts) m.0 block m.1.stands in
    missed n insts block m.0 m.0.insts name (subst
    (λ (x : Block). IsBehind x.insts name) same a) m.1

assigned : (n : Name) (insts : List Inst) → AreMade 0 insts → (k : ℕ)
    → UsesUnassigned (plain_function n insts) k → ⊥
assigned n insts h k u =
    let f = found n insts h k (Uses u.type u.name) u.here in
    let same = same_Some f.part u.part (sym f.stands ∙ u.stands) in
    never n insts u.part k u.name (subst (λ (p : Part).
    IsAssigned insts p u.name) same f.holds.1.assigned) u.missed

undef : (n : Name) (insts : List Inst) → AreMade 0 insts → (k : ℕ)
    → UsesUndef (plain_function n insts) k → ⊥
undef n insts h k (inl u) =
    let none = no_leaves n insts h u.name in
    let some = ltb-true 0 (leaf_count (plain_function n insts) (Local u.name)) u.carried in
    omega (arith, none, some)
undef n insts h k (inr m) =
    let none = no_leaves n insts h m.name in
    let many = m.many in omega (arith, none, many)

pub made-well_formed : (n : Name) (insts : List Inst) → AreMade 0 insts
    → IsWellFormed (plain_function n insts)
made-well_formed n insts h = record {
  names = (once n insts h, known n insts h);
  types = typed n insts h;
  edges = edged n insts h;
  assigned = assigned n insts h;
  undef = undef n insts h;
}
