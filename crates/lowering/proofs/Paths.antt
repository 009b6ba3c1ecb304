-- Which names the paths to a place of a function miss.
use Rattle.lowering.proofs.PathCommon.{◌≡◌, ◌⊎◌, inl, inr, ℕ, zero, suc, ◌<◌, List, [], ◌∷◌, length, get_or, map, take, slice_get, Contains, Some, refl, sym, ap, subst, ◌∙◌, arith, cases_eq, flat_map, AllByRecursion, Contains-append_left, Contains-append_right, Contains-append_cases, none-some, same_Some, Inst, Phi, Block, Parameter, Function, results_of, successors, assigns, assigned_with, Assigns, IsPathTo, IsAssignedIn, DefinesIn, sites, parts, Passes, IsMissed, NameTwice, Part, made_of, one_site, defined_at, behind}
use Rattle.ir_tree.specs.declared.sites.Part.TheVariants as part

-- ---- lists

pub slice_take : {X : Type 0} (xs : List X) (n k : ℕ) (x : X) → slice_get (take n xs) k ≡ Some x → (k < n) × (slice_get xs k ≡ Some x)
slice_take xs zero k x e = absurd (none-some x e)
slice_take [] (suc n) k x e = absurd (none-some x e)
slice_take (y ∷ xs) (suc n) zero x e = (omega arith, e)
slice_take (y ∷ xs) (suc n) (suc k) x e = let w = slice_take xs n k x e in (omega (arith, w.0), w.1)

pub take_slice : {X : Type 0} (xs : List X) (n k : ℕ) (x : X) → k < n → slice_get xs k ≡ Some x → slice_get (take n xs) k ≡ Some x
take_slice xs zero k x below e = absurd (omega (arith, below))
take_slice [] (suc n) k x below e = absurd (none-some x e)
take_slice (y ∷ xs) (suc n) zero x below e = e
take_slice (y ∷ xs) (suc n) (suc k) x below e = take_slice xs n k x (omega (arith, below)) e

pub first_of : {X : Type 0} (x : X) (xs : List X) → Contains (x ∷ xs) x
first_of x xs = (0, omega arith, refl)

pub only : (y x : ℕ) → Contains (y ∷ []) x → y ≡ x
only y x found = at found.0 found.1 found.2
  where
    at : (k : ℕ) → k < 1 → get_or (y ∷ []) k x ≡ x → y ≡ x
    at zero below e = e
    at (suc k) below e = absurd (omega (arith, below))

pub none_in : {X : Type 0} (x : X) → Contains [] x → ⊥
none_in x found = omega (arith, found.1)

pub all_in : {X : Type 0} (P : X → Type 0) (xs : List X) (x : X) → AllByRecursion P xs → Contains xs x → P x
all_in {X} P xs x all found = at xs all found.0 found.1 found.2
  where
    at : (ys : List X) → AllByRecursion P ys → (k : ℕ) → k < length ys → get_or ys k x ≡ x → P x
    at [] all' k below e = absurd (omega (arith, below))
    at (y ∷ ys) all' zero below e = subst P e all'.0
    at (y ∷ ys) all' (suc k) below e = at ys all'.1 k (omega (arith, below)) e

-- what a row of a table has is what its item has
row_of : {X Y : Type 0} (g : X → List Y) (xs : List X) (k : ℕ) (y : Y) → Contains (get_or (map g xs) k []) y → (x : X) × (slice_get xs k ≡ Some x) × Contains (g x) y
row_of g [] k y found = absurd (none_in y found)
row_of g (x ∷ xs) zero y found = (x, refl, found)
row_of g (x ∷ xs) (suc k) y found = row_of g xs k y found

pub row_is : {X Y : Type 0} (g : X → List Y) (xs : List X) (k : ℕ) (x : X) → slice_get xs k ≡ Some x → get_or (map g xs) k [] ≡ g x
row_is g [] k x e = absurd (none-some x e)
row_is g (y ∷ xs) zero x e = ap g (same_Some y x e)
row_is g (y ∷ xs) (suc k) x e = row_is g xs k x e

pub contains_map : (g : ℕ → ℕ) (xs : List ℕ) (x : ℕ) → Contains xs x → Contains (map g xs) (g x)
contains_map g xs x found = at xs found.0 found.1 found.2
  where
    at : (ys : List ℕ) (k : ℕ) → k < length ys → get_or ys k x ≡ x → Contains (map g ys) (g x)
    at [] k below e = absurd (omega (arith, below))
    at (y ∷ ys) zero below e = (0, omega arith, ap g e)
    at (y ∷ ys) (suc k) below e = behind (g y) (map g ys) (g x) (at ys k (omega (arith, below)) e)

-- ---- what a block assigns

-- what a list of instructions assigns is a result of one of them
pub assigned_of : (insts : List Inst) (name : ℕ) → Contains (flat_map results_of insts) name → (j : ℕ) × (i : Inst) × (slice_get insts j ≡ Some i) × Contains (results_of i) name
assigned_of [] name found = absurd (omega (arith, found.1))
assigned_of (i ∷ insts) name found = choose (Contains-append_cases (results_of i) (flat_map results_of insts) name found) (λ there. assigned_of insts name there)
  where
    choose : Contains (results_of i) name ⊎ Contains (flat_map results_of insts) name → (Contains (flat_map results_of insts) name → (j : ℕ) × (other : Inst) × (slice_get insts j ≡ Some other) × Contains (results_of other) name)
        → (j : ℕ) × (other : Inst) × (slice_get (i ∷ insts) j ≡ Some other) × Contains (results_of other) name
    choose (inl here) later = (0, i, refl, here)
    choose (inr there) later = let w = later there in (suc w.0, w.1, w.2, w.3)

pub assigns_of : (insts : List Inst) (j : ℕ) (i : Inst) (name : ℕ) → slice_get insts j ≡ Some i → Contains (results_of i) name → Contains (flat_map results_of insts) name
assigns_of [] j i name its found = absurd (none-some i its)
assigns_of (first ∷ insts) zero i name its found = Contains-append_left (results_of first) (flat_map results_of insts) name (subst (λ (x : Inst). Contains (results_of x) name) (sym (same_Some first i its)) found)
assigns_of (first ∷ insts) (suc j) i name its found = Contains-append_right (results_of first) (flat_map results_of insts) name (assigns_of insts j i name its found)

-- the part is a phi of the block, or one of its first instructions
abbrev pub IsWithin : ℕ → ℕ → Part → Type 0
IsWithin k ran part.Header = ⊥
IsWithin k ran part.Parameter = ⊥
IsWithin k ran (part.Label n) = ⊥
IsWithin k ran (part.Phi n j) = n ≡ k
IsWithin k ran (part.Inst n j) = (n ≡ k) × (j < ran)
IsWithin k ran (part.End n) = ⊥

abbrev pub IntoOf : Block → List ℕ
IntoOf b = map (λ (phi : Phi). phi.into) b.phis

-- what is assigned by the phis and the first instructions of a block is defined there
pub defined_within : (f : Function) (k ran name : ℕ) (b : Block) → slice_get f.blocks k ≡ Some b → Contains (assigned_with b (take ran b.insts)) name → (p : Part) × DefinesIn f p name × IsWithin k ran p
defined_within f k ran name b stands found = either (Contains-append_cases (IntoOf b) (flat_map results_of (take ran b.insts)) name found)
  where
    either : Contains (IntoOf b) name ⊎ Contains (flat_map results_of (take ran b.insts)) name → (p : Part) × DefinesIn f p name × IsWithin k ran p
    either (inl of_phi) = let w = made_of (λ (phi : Phi). phi.into) b.phis of_phi.0 name of_phi.1 of_phi.2 in (part.Phi k of_phi.0, (b, stands, w.0, w.1, w.2), refl)
    either (inr of_inst) =
        let w = assigned_of (take ran b.insts) name of_inst in
        let t = slice_take b.insts ran w.0 w.1 w.2 in
        (part.Inst k w.0, (b, stands, w.1, t.1, w.3), (refl, t.0))

-- a result of an instruction is assigned after it
pub assigned_inst : (b : Block) (ran j : ℕ) (i : Inst) (name : ℕ) → j < ran → slice_get b.insts j ≡ Some i → Contains (results_of i) name → Contains (assigned_with b (take ran b.insts)) name
assigned_inst b ran j i name below its found = Contains-append_right (IntoOf b) (flat_map results_of (take ran b.insts)) name (assigns_of (take ran b.insts) j i name (take_slice b.insts ran j i below its) found)

pub take_whole : {X : Type 0} (xs : List X) → take (length xs) xs ≡ xs
take_whole [] = refl
take_whole (x ∷ xs) = ap (λ (ys : List _). x ∷ ys) (take_whole xs)

-- ---- parts

pub one_part : (f : Function) (p q : Part) (name : ℕ) → Passes NameTwice f → DefinesIn f p name → DefinesIn f q name → p ≡ q
one_part f p q name once a b =
    let v = defined_at f p name a in
    let w = defined_at f q name b in
    let same : v.0 ≡ w.0 = one_site (sites f) once v.0 w.0 v.1 w.1 name v.2 w.2 in
    same_Some p q (sym v.3 ∙ (ap (λ (n : ℕ). slice_get (parts f) n) same ∙ w.3))

-- a block that assigns a name defines it
pub defined_by_block : (f : Function) (k name : ℕ) → Assigns (assigns f) k name → (p : Part) × (ran : ℕ) × DefinesIn f p name × IsWithin k ran p
defined_by_block f k name found =
    let w = row_of (λ (b : Block). assigned_with b b.insts) f.blocks k name found in
    let those : Contains (assigned_with w.0 (take (length w.0.insts) w.0.insts)) name = subst (λ (insts : List Inst). Contains (assigned_with w.0 insts) name) (sym (take_whole w.0.insts)) w.2 in
    let d = defined_within f k (length w.0.insts) name w.0 w.1 those in
    (d.0, length w.0.insts, d.1, d.2)

pub block_assigns : (f : Function) (k name : ℕ) (b : Block) → slice_get f.blocks k ≡ Some b → Contains (assigned_with b b.insts) name → Assigns (assigns f) k name
block_assigns f k name b stands found = subst (λ (row : List ℕ). Contains row name) (sym (row_is (λ (c : Block). assigned_with c c.insts) f.blocks k b stands)) found

one_block : (k n ran ran' : ℕ) (p : Part) → IsWithin k ran p → IsWithin n ran' p → k ≡ n
one_block k n ran ran' part.Header a b = absurd a
one_block k n ran ran' part.Parameter a b = absurd a
one_block k n ran ran' (part.Label j) a b = absurd a
one_block k n ran ran' (part.Phi m j) a b = sym a ∙ b
one_block k n ran ran' (part.Inst m j) a b = sym a.0 ∙ b.0
one_block k n ran ran' (part.End m) a b = absurd a

-- ---- paths

-- a path to the block leaves nothing that assigns the name, and neither is it one of these
pub record Misses (f : Function) (k : ℕ) (ran : List ℕ) (name : ℕ) : Type 0 where
  pub left : List ℕ
  pub path : IsPathTo (successors f) k left
  pub outside : Contains (map (λ (p : Parameter). p.name) f.parameters) name → ⊥
  pub before : IsAssignedIn (assigns f) left name → ⊥
  pub within : Contains ran name → ⊥

pub is_missed : (f : Function) (k : ℕ) (b : Block) (ran : List Inst) (name : ℕ) → slice_get f.blocks k ≡ Some b → Misses f k (assigned_with b ran) name → IsMissed f k b ran name
is_missed f k b ran name stands m = record { stands = stands; left = m.left; path = m.path; outside = m.outside; before = m.before; within = m.within }

-- some path leads to the block
abbrev pub IsReached : Function → ℕ → Type 0
IsReached f k = (left : List ℕ) × IsPathTo (successors f) k left

abbrev FirstVisit : Function → ℕ → Type 0
FirstVisit f k = (left : List ℕ) × IsPathTo (successors f) k left × (Contains left k → ⊥)

-- a path that leaves the block has a part that leads to it and doesn't leave it
cut : (f : Function) (k at : ℕ) (left : List ℕ) → IsPathTo (successors f) at left → FirstVisit f k ⊎ (Contains left k → ⊥)
cut f k at [] path = inr (λ found. none_in k found)
cut f k at (last ∷ before) path = choose (cut f k last before path.1) (cases_eq last k)
  where
    choose : FirstVisit f k ⊎ (Contains before k → ⊥) → (last ≡ k) ⊎ (last ≡ k → ⊥) → FirstVisit f k ⊎ (Contains (last ∷ before) k → ⊥)
    choose (inl visit) _ = inl visit
    choose (inr none) (inl same) = inl (before, subst (λ (n : ℕ). IsPathTo (successors f) n before) same path.1, none)
    choose (inr none) (inr other) = inr (λ found. either (Contains-append_cases (last ∷ []) before k found))
      where
        either : Contains (last ∷ []) k ⊎ Contains before k → ⊥
        either (inl here) = other (only last k here)
        either (inr there) = none there

first_visit : (f : Function) (k : ℕ) → IsReached f k → FirstVisit f k
first_visit f k reached = choose (cut f k k reached.0 reached.1)
  where
    choose : FirstVisit f k ⊎ (Contains reached.0 k → ⊥) → FirstVisit f k
    choose (inl visit) = visit
    choose (inr none) = (reached.0, reached.1, none)

-- what is assigned in a list of blocks is assigned by one of them
assigner : (f : Function) (left : List ℕ) (name : ℕ) → IsAssignedIn (assigns f) left name → (k : ℕ) × Contains left k × Assigns (assigns f) k name
assigner f [] name found = absurd found
assigner f (last ∷ before) name (inl here) = (last, first_of last before, here)
assigner f (last ∷ before) name (inr there) = let w = assigner f before name there in (w.0, behind last before w.0 w.1, w.2)

-- a name that is defined in a block is missed when the block is first entered
pub missed_before : (f : Function) (k ran name : ℕ) (p : Part) → Passes NameTwice f → IsReached f k → DefinesIn f p name → IsWithin k ran p → Misses f k [] name
missed_before f k ran name p once reached defines inside =
    let visit = first_visit f k reached in
    record {
      left = visit.0;
      path = visit.1;
      outside = λ found. subst (IsWithin k ran) (one_part f p part.Parameter name once defines found) inside;
      before = λ found.
          let w = assigner f visit.0 name found in
          let d = defined_by_block f w.0 name w.2 in
          let there : IsWithin w.0 d.1 p = subst (IsWithin w.0 d.1) (one_part f d.0 p name once d.2 defines) d.3 in
          visit.2 (subst (λ (n : ℕ). Contains visit.0 n) (sym (one_block k w.0 ran d.1 p inside there)) w.1);
      within = λ found. none_in name found;
    }

-- a result of an instruction is missed before it, where its block is first entered
pub missed_at : (f : Function) (k j name : ℕ) (b : Block) (i : Inst) → Passes NameTwice f → IsReached f k → slice_get f.blocks k ≡ Some b → slice_get b.insts j ≡ Some i → Contains (results_of i) name
    → Misses f k (assigned_with b (take j b.insts)) name
missed_at f k j name b i once reached stands its found =
    let before = missed_before f k (suc j) name (part.Inst k j) once reached (b, stands, i, its, found) (refl, omega arith) in
    record {
      left = before.left;
      path = before.path;
      outside = before.outside;
      before = before.before;
      within = λ assigned.
          let d = defined_within f k j name b stands assigned in
          let there : IsWithin k j (part.Inst k j) = subst (IsWithin k j) (one_part f d.0 (part.Inst k j) name once d.1 (b, stands, i, its, found)) d.2 in
          omega (arith, there.1);
    }
