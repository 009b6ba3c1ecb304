-- Names and their columns.
use Rattle.definite_assignment.proofs.Common.{ℕ, zero, suc, ◌+◌, ◌≡◌, ◌<◌, ◌≤◌, ◌⊎◌, inl, inr, Bool, true, false, List, [], ◌∷◌, ◌++◌, length, get_or, refl, ap, sym, subst, ◌∙◌, arith, IsTrue, ◌↔◌, All, Contains, get_or-map, length-map, get_or_past, All-contains, All-map, Contains-get_or, cases_lt, Assigns, IsAssignedBefore, IsAssignedIn, IsUnassignedBefore, AreRoomy, by_columns, column_of, has, has_name}
use Rattle.std.specs.Prelude.{map}

-- ---- numbering

-- the first i names have columns below count, and no other has that of one that is assigned
pub record AreColumns (marks : List Bool) (columns : List ℕ) (i count : ℕ) : Type 0 where
  pub long : length columns ≡ i
  pub some : 1 ≤ count
  pub few : count ≤ i + 1
  pub below : (m : ℕ) → m < i → column_of columns m < count
  pub first : (m : ℕ) → m < i → get_or marks m false ≡ true → 1 ≤ column_of columns m
  pub apart : (m n : ℕ) → m < i → n < i → get_or marks m false ≡ true → column_of columns m ≡ column_of columns n → m ≡ n

-- ---- names assigned, and their columns

contains-map : (f : ℕ → ℕ) (xs : List ℕ) (x : ℕ) → Contains xs x → Contains (map f xs) (f x)
contains-map f xs x (k, less, is) = (k, omega (arith, less, length-map xs f), get_or-map f xs k x (f x) less ∙ ap f is)

contains-unmap : (f : ℕ → ℕ) (xs : List ℕ) (y : ℕ) → Contains (map f xs) y → (x : ℕ) × Contains xs x × (f x ≡ y)
contains-unmap f xs y (k, less, is) =
    let less' : k < length xs = omega (arith, less, length-map xs f) in
    (get_or xs k 0, Contains-get_or xs k 0 less', sym (get_or-map f xs k 0 y less') ∙ is)

renamed_at : (f : ℕ → ℕ) (lists : List (List ℕ)) (block : ℕ) → get_or (map (map f) lists) block [] ≡ map f (get_or lists block [])
renamed_at f [] block = refl
renamed_at f (xs ∷ lists) zero = refl
renamed_at f (xs ∷ lists) (suc block) = renamed_at f lists block

-- the same column is the same name, where it is assigned
abbrev pub AreApart : List ℕ → List (List ℕ) → ℕ → Type 0
AreApart columns assigns names = (block m n : ℕ) → n < names → Assigns assigns block m → column_of columns m ≡ column_of columns n → m ≡ n

module _ (columns : List ℕ) (assigns : List (List ℕ)) (names : ℕ) (apart : AreApart columns assigns names) where
  abbrev renamed : List (List ℕ)
  renamed = map (map (column_of columns)) assigns

  there : (left : List ℕ) (name : ℕ) → name < names → IsAssignedIn renamed left (column_of columns name) → IsAssignedIn assigns left name
  there [] name less a = a
  there (block ∷ left) name less (inr a) = inr (there left name less a)
  there (block ∷ left) name less (inl here) =
      let found = contains-unmap (column_of columns) (get_or assigns block []) (column_of columns name) (subst (λ (xs : List ℕ). Contains xs (column_of columns name)) (renamed_at (column_of columns) assigns block) here) in
      inl (subst (λ (n : ℕ). Contains (get_or assigns block []) n) (apart block found.0 name less found.1 found.2) found.1)

  back : (left : List ℕ) (name : ℕ) → IsAssignedIn assigns left name → IsAssignedIn renamed left (column_of columns name)
  back [] name a = a
  back (block ∷ left) name (inr a) = inr (back left name a)
  back (block ∷ left) name (inl here) = inl (subst (λ (xs : List ℕ). Contains xs (column_of columns name)) (sym (renamed_at (column_of columns) assigns block)) (contains-map (column_of columns) (get_or assigns block []) name here))

  pub before_there : (successors : List (List ℕ)) (block name : ℕ) → name < names → IsAssignedBefore successors renamed block (column_of columns name) → IsAssignedBefore successors assigns block name
  before_there successors block name less before left path = there left name less (before left path)

  pub before_back : (successors : List (List ℕ)) (block name : ℕ) → IsAssignedBefore successors assigns block name → IsAssignedBefore successors renamed block (column_of columns name)
  before_back successors block name before left path = back left name (before left path)

  pub unassigned_there : (successors : List (List ℕ)) (block name : ℕ) → IsUnassignedBefore successors renamed block (column_of columns name) → IsUnassignedBefore successors assigns block name
  unassigned_there successors block name (left, path, silent) = (left, path, λ a. silent (back left name a))

-- the columns of the names that a block assigns are columns
pub columns_within : (columns : List ℕ) (assigns : List (List ℕ)) (names count : ℕ) → length columns ≡ names → All (λ column. column < count) columns → All (All (λ name. name < names)) assigns → All (All (λ column. column < count)) (map (map (column_of columns)) assigns)
columns_within columns assigns names count long below within =
    All-map (All (λ column. column < count)) (map (column_of columns)) assigns (λ k d less. All-map (λ column. column < count) (column_of columns) (get_or assigns k d) (λ k' d' less'.
    let small : get_or (get_or assigns k d) k' d' < names = within k d less k' d' less' in
    below (get_or (get_or assigns k d) k' d') 0 (omega (arith, small, long))))

holds_of : (P : ℕ → Type 0) (lists : List (List ℕ)) (block m : ℕ) → All (All P) lists → Contains (get_or lists block []) m → P m
holds_of P lists block m all c = cases (cases_lt block (length lists))
  where
    cases : (block < length lists) ⊎ (length lists ≤ block) → P m
    cases (inl less) = All-contains P (get_or lists block []) m (all block [] less) c
    cases (inr past) = absurd (let none : get_or lists block [] ≡ [] = get_or_past lists block [] past in omega (arith, c.1, ap length none))

pub apart_from : (marks : List Bool) (columns : List ℕ) (assigns : List (List ℕ)) (names : ℕ) → length marks ≡ names
    → ((m n : ℕ) → n < length marks → get_or marks m false ≡ true → column_of columns m ≡ column_of columns n → m ≡ n)
    → All (All (λ name. get_or marks name false ≡ true)) assigns → AreApart columns assigns names
apart_from marks columns assigns names long apart marked block m n less here e = apart m n (omega (arith, less, long)) (holds_of (λ name. get_or marks name false ≡ true) assigns block m marked here) e

-- ---- the sets seen by columns

pub by_columns-has : (columns : List ℕ) (sets : List (List Bool)) (block name : ℕ) → block < length sets → name < length columns → has (by_columns columns sets) block name ≡ has sets block (column_of columns name)
by_columns-has columns sets block name less less' =
    ap (λ (set : List Bool). has_name set name) (get_or-map (λ set. map (has_name set) columns) sets block [] [] less)
    ∙ get_or-map (has_name (get_or sets block [])) columns name 0 false less'

pub length-by_columns : (columns : List ℕ) (sets : List (List Bool)) (block : ℕ) (d : List Bool) → block < length sets → length (get_or (by_columns columns sets) block d) ≡ length columns
length-by_columns columns sets block d less = ap length (get_or-map (λ set. map (has_name set) columns) sets block [] d less) ∙ length-map columns (has_name (get_or sets block []))

pub by_columns-roomy : (columns : List ℕ) (sets : List (List Bool)) (blocks names : ℕ) → length sets ≡ blocks → length columns ≡ names → AreRoomy (by_columns columns sets) blocks names
by_columns-roomy columns sets blocks names long wide = record {
  long = length-map sets (λ set. map (has_name set) columns) ∙ long;
  wide = λ block d less. let same : length (get_or (by_columns columns sets) block d) ≡ length columns = length-by_columns columns sets block d (omega (arith, less, length-map sets (λ set. map (has_name set) columns))) in omega (arith, same, wide);
}

pub exact_by_columns : (successors assigns : List (List ℕ)) (columns : List ℕ) (sets : List (List Bool)) (names block name : ℕ) → AreApart columns assigns names → length columns ≡ names → block < length sets → name < names
    → IsTrue (has sets block (column_of columns name)) ↔ IsAssignedBefore successors (map (map (column_of columns)) assigns) block (column_of columns name)
    → IsTrue (has (by_columns columns sets) block name) ↔ IsAssignedBefore successors assigns block name
exact_by_columns successors assigns columns sets names block name apart long below place exact =
    let same = by_columns-has columns sets block name below (omega (arith, place, long)) in
    (λ t. before_there columns assigns names apart successors block name place (exact.0 (sym same ∙ t)), λ before. same ∙ exact.1 (before_back columns assigns names apart successors block name before))

pub missed_by_columns : (successors assigns : List (List ℕ)) (columns : List ℕ) (sets : List (List Bool)) (names block name : ℕ) → AreApart columns assigns names → length columns ≡ names → block < length sets → name < names
    → (has sets block (column_of columns name) ≡ false → IsUnassignedBefore successors (map (map (column_of columns)) assigns) block (column_of columns name))
    → has (by_columns columns sets) block name ≡ false → IsUnassignedBefore successors assigns block name
missed_by_columns successors assigns columns sets names block name apart long below place missed lacks =
    let same = by_columns-has columns sets block name below (omega (arith, place, long)) in
    unassigned_there columns assigns names apart successors block name (missed (sym same ∙ lacks))
