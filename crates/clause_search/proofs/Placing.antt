-- What the positions and marks of a trail say.
use Rattle.clause_search.proofs.Common.{ℕ, zero, suc, ◌≡◌, ◌<◌, ◌≤◌, ◌+◌, ◌-◌, ◌++◌, ◌↔◌, ◌⊎◌, inl, inr, Bool, IsTrue, List, [], ◌∷◌, Option, Some, None, IsSome, take, slice_get, get_or, length, arith, sym, ap, subst, refl, ◌∙◌, cases_eq, false≢true, take-map, length-map, slice_get_within, slice_get_read, slice_get-map, get_or_from_slice_get, Lit, Entry, Mark, IsAssigned, Stands, IsUnassigned, literal_eq, IsDecisionAt, IsLastBelow, entries_of, ArePlaced, AreLast, IsPlaceOf}
use Rattle.clause_search.proofs.Getting.{get-early, get-late, get-last, get-kept, get-taken, get-take, length-push}
use Rattle.clause_search.proofs.Assigned.{last-decision, last-implied}
use Rattle.clause_search.proofs.Seeing.{literal_eq-true, literal_eq-refl}

-- what is true before a position is so at one
pub stands-at : (trail : List Entry) (n : ℕ) (l : Lit) → Stands (take n trail) l → (i : ℕ) × (e : Entry) × (i < n) × (slice_get trail i ≡ Some e) × (e.literal ≡ l)
stands-at [] zero l s = absurd s
stands-at [] (suc n) l s = absurd s
stands-at (x ∷ xs) zero l s = absurd s
stands-at (x ∷ xs) (suc n) l (inl is) = (0, x, omega arith, refl, is)
stands-at (x ∷ xs) (suc n) l (inr s) = next (stands-at xs n l s)
  where
    next : ((i : ℕ) × (e : Entry) × (i < n) × (slice_get xs i ≡ Some e) × (e.literal ≡ l))
        → (i : ℕ) × (e : Entry) × (i < suc n) × (slice_get (x ∷ xs) i ≡ Some e) × (e.literal ≡ l)
    next (i, e, lt, at, is) = (suc i, e, omega arith, at, is)

pub stands-somewhere : (trail : List Entry) (l : Lit) → Stands trail l → (i : ℕ) × (e : Entry) × (slice_get trail i ≡ Some e) × (e.literal ≡ l)
stands-somewhere [] l s = absurd s
stands-somewhere (x ∷ xs) l (inl is) = (0, x, refl, is)
stands-somewhere (x ∷ xs) l (inr s) = next (stands-somewhere xs l s)
  where
    next : ((i : ℕ) × (e : Entry) × (slice_get xs i ≡ Some e) × (e.literal ≡ l)) → (i : ℕ) × (e : Entry) × (slice_get (x ∷ xs) i ≡ Some e) × (e.literal ≡ l)
    next (i, e, at, is) = (suc i, e, at, is)

-- and what is at a position is true
pub at-stands : (trail : List Entry) (n i : ℕ) (e : Entry) → i < n → slice_get trail i ≡ Some e → Stands (take n trail) e.literal
at-stands [] n i e lt at = cc
at-stands (x ∷ xs) zero i e lt at = absurd (omega arith)
at-stands (x ∷ xs) (suc n) zero e lt at = let same : x ≡ e = cc in inl (ap (λ (z : Entry). z.literal) same)
at-stands (x ∷ xs) (suc n) (suc i) e lt at = inr (at-stands xs n i e (omega arith) at)

pub somewhere-stands : (trail : List Entry) (i : ℕ) (e : Entry) → slice_get trail i ≡ Some e → Stands trail e.literal
somewhere-stands [] i e at = cc
somewhere-stands (x ∷ xs) zero e at = let same : x ≡ e = cc in inl (ap (λ (z : Entry). z.literal) same)
somewhere-stands (x ∷ xs) (suc i) e at = inr (somewhere-stands xs i e at)

-- a mark is its entry's
pub mark-entry : (marks : List Mark) (i : ℕ) (m : Mark) → slice_get marks i ≡ Some m → slice_get (entries_of marks) i ≡ Some m.entry
mark-entry marks i m at = slice_get-map (λ (z : Mark). z.entry) marks i ∙ rw at refl

module _ (marks : List Mark) (places : List ℕ) (placed : ArePlaced (entries_of marks) places) (variable : ℕ) where
  -- where the variable's position shows no literal, there is none
  place-none : ((i : ℕ) (e : Entry) → slice_get places variable ≡ Some i → slice_get (entries_of marks) i ≡ Some e → e.literal.variable ≡ variable → ⊥)
      → IsPlaceOf (entries_of marks) variable None
  place-none other l s v = go (stands-somewhere (entries_of marks) l s)
    where
      go : ((i : ℕ) × (e : Entry) × (slice_get (entries_of marks) i ≡ Some e) × (e.literal ≡ l)) → ⊥
      go (i, e, at, is) =
          let same : e.literal.variable ≡ variable = ap (λ (z : Lit). z.variable) is ∙ v in
          other i e (subst (λ (k : ℕ). slice_get places k ≡ Some i) same (placed i e at)) at same

  pub place-past : length places ≤ variable → IsPlaceOf (entries_of marks) variable None
  place-past past = place-none (λ i e told at v. let lt = slice_get_within places variable i told in omega (arith, lt, past))

  pub place-unmarked : (place : ℕ) → slice_get places variable ≡ Some place → length marks ≤ place → IsPlaceOf (entries_of marks) variable None
  place-unmarked place is past = place-none (λ i e told at v.
      let same : i ≡ place = cc in
      let lt = slice_get_within (entries_of marks) i e at in
      omega (arith, lt, past, same, length-map marks (λ (z : Mark). z.entry)))

  pub place-other : (place : ℕ) (m : Mark) → slice_get places variable ≡ Some place → slice_get marks place ≡ Some m
      → (m.entry.literal.variable ≡ variable → ⊥) → IsPlaceOf (entries_of marks) variable None
  place-other place m is here other = place-none (λ i e told at v.
      let same : i ≡ place = cc in
      let there = mark-entry marks place m here in
      let moved : slice_get (entries_of marks) place ≡ Some e = subst (λ (k : ℕ). slice_get (entries_of marks) k ≡ Some e) same at in
      let alike : m.entry ≡ e = cc in
      other (ap (λ (z : Entry). z.literal.variable) alike ∙ v))

  pub place-marked : (place : ℕ) (m : Mark) → slice_get marks place ≡ Some m → m.entry.literal.variable ≡ variable
      → IsPlaceOf (entries_of marks) variable (Some place)
  place-marked place m here is =
      let at = mark-entry marks place m here in (
        (m.entry, at, is),
        λ i d there v.
            let one = subst (λ (k : ℕ). slice_get places k ≡ Some place) is (placed place m.entry at) in
            let two = subst (λ (k : ℕ). slice_get places k ≡ Some i) v (placed i d there) in
            let same : Some i ≡ Some place = sym two ∙ one in
            cc,
      )

-- the last decision before a position is that up to the one before it
pub last-at : (marks : List Mark) (place : ℕ) (m : Mark) → AreLast marks → (place ≡ 0 → ⊥) → place ≤ length (entries_of marks)
    → m ≡ get_or marks (place - 1) m → IsLastBelow (entries_of marks) m.last place
last-at marks place m last some within is =
    let count = length-map marks (λ (z : Mark). z.entry) in
    let lt : place - 1 < length marks = omega (arith, some, within, count) in
    let back : (place - 1) + 1 ≡ place = omega (arith, some) in
    subst (λ (k : ℕ). IsLastBelow (entries_of marks) m.last k) back (last (place - 1) m (slice_get_read marks (length marks) (place - 1) m refl lt is))

-- a literal whose variable is unassigned
pub stands-none : (trail : List Entry) (n : ℕ) (l : Lit) → IsUnassigned trail l.variable → Stands (take n trail) l → ⊥
stands-none trail n l free s = go (stands-at trail n l s)
  where
    go : ((i : ℕ) × (e : Entry) × (i < n) × (slice_get trail i ≡ Some e) × (e.literal ≡ l)) → ⊥
    go (i, e, lt, at, is) = free e.literal (somewhere-stands trail i e at) (ap (λ (z : Lit). z.variable) is)

module _ (trail : List Entry) (l : Lit) (place : ℕ) (there : IsPlaceOf trail l.variable (Some place)) (e : Entry) (at : slice_get trail place ≡ Some e) (n : ℕ) where
  at-place : Stands (take n trail) l → (place < n) × (e.literal ≡ l)
  at-place s = go (stands-at trail n l s)
    where
      go : ((i : ℕ) × (d : Entry) × (i < n) × (slice_get trail i ≡ Some d) × (d.literal ≡ l)) → (place < n) × (e.literal ≡ l)
      go (i, d, lt, here, is) =
          let same : i ≡ place = there.1 i d here (ap (λ (z : Lit). z.variable) is) in
          let moved : slice_get trail place ≡ Some d = subst (λ (k : ℕ). slice_get trail k ≡ Some d) same here in
          let alike : e ≡ d = cc in
          (subst (λ (k : ℕ). k < n) same lt, ap (λ (z : Entry). z.literal) alike ∙ is)

  -- it is true before n where its position is before n and has it
  pub stands-here : (b : Bool) → place < n → b ≡ literal_eq e.literal l → IsTrue b ↔ Stands (take n trail) l
  stands-here b lt is = (
    λ t. subst (λ (x : Lit). Stands (take n trail) x) (literal_eq-true e.literal l (sym is ∙ t)) (at-stands trail n place e lt at),
    λ s. is ∙ literal_eq-refl e.literal l (at-place s).1,
  )

-- and not where it isn't
pub stands-later : (trail : List Entry) (l : Lit) (place n : ℕ) → IsPlaceOf trail l.variable (Some place) → n ≤ place → Stands (take n trail) l → ⊥
stands-later trail l place n there le s = go there.0
  where
    go : ((e : Entry) × (slice_get trail place ≡ Some e) × (e.literal.variable ≡ l.variable)) → ⊥
    go (e, at, is) = let lt = (at-place trail l place there e at n s).0 in omega (arith, lt, le)

-- what trails that agree up to a position have as the last decision before it
last-like : (es ds : List Entry) (last : Option ℕ) (to : ℕ)
    → ((j : ℕ) (e : Entry) → j < to → slice_get ds j ≡ Some e → slice_get es j ≡ Some e)
    → ((j : ℕ) (e : Entry) → j < to → slice_get es j ≡ Some e → slice_get ds j ≡ Some e)
    → IsLastBelow es last to → IsLastBelow ds last to
last-like es ds None to f g h = λ i e low high at none. h i e low high (f i e high at) none
last-like es ds (Some p) to f g h = (h.0, go h.1, λ i e low high at none. h.2 i e low high (f i e high at) none)
  where
    go : IsDecisionAt es p → IsDecisionAt ds p
    go (e, at, none) = (e, g p e h.0 at, none)

pub placed-take : (marks : List Mark) (places : List ℕ) (n : ℕ) → ArePlaced (entries_of marks) places → ArePlaced (entries_of (take n marks)) places
placed-take marks places n placed i e at =
    placed i e (get-taken (entries_of marks) n i e (subst (λ (es : List Entry). slice_get es i ≡ Some e) (sym (take-map (λ (z : Mark). z.entry) n marks)) at)).1

pub last-take : (marks : List Mark) (n : ℕ) → AreLast marks → AreLast (take n marks)
last-take marks n last i m at =
    let there = get-taken marks n i m at in
    subst (λ (es : List Entry). IsLastBelow es m.last (i + 1)) (take-map (λ (z : Mark). z.entry) n marks)
    (last-like (entries_of marks) (take n (entries_of marks)) m.last (i + 1)
    (λ j e lt here. (get-taken (entries_of marks) n j e here).1)
    (λ j e lt here. get-take (entries_of marks) n j e (omega (arith, lt, there.0)) here)
    (last i m there.1))

-- a position set for a variable that isn't assigned
pub placed-put : (trail : List Entry) (old new : List ℕ) (variable : ℕ) → IsUnassigned trail variable
    → ((i n : ℕ) → (i ≡ variable → ⊥) → slice_get old i ≡ Some n → slice_get new i ≡ Some n) → ArePlaced trail old → ArePlaced trail new
placed-put trail old new variable free kept placed i e at =
    kept e.literal.variable i (λ v. free e.literal (somewhere-stands trail i e at) v) (placed i e at)

map-push : (marks : List Mark) (m : Mark) → entries_of (marks ++ m ∷ []) ≡ entries_of marks ++ m.entry ∷ []
map-push [] m = refl
map-push (x ∷ xs) m = ap (λ zs. x.entry ∷ zs) (map-push xs m)

pub placed-push : (marks : List Mark) (places : List ℕ) (m : Mark) → ArePlaced (entries_of marks) places
    → slice_get places m.entry.literal.variable ≡ Some (length marks) → ArePlaced (entries_of (marks ++ m ∷ [])) places
placed-push marks places m placed here i e at = elim (cases_eq i (length marks)) [
  | inl is ↦
      let same : m.entry ≡ e = get-late (entries_of marks) m.entry e i (is ∙ sym (length-map marks (λ (z : Mark). z.entry))) at' in
      subst (λ (k : ℕ). slice_get places e.literal.variable ≡ Some k) (sym is)
      (subst (λ (z : Entry). slice_get places z.literal.variable ≡ Some (length marks)) same here)
  | inr ne ↦ placed i e (get-early (entries_of marks) m.entry e i (omega (arith, ne, short, length-push (entries_of marks) m.entry, length-map marks (λ (z : Mark). z.entry))) at')
]
  where
    at' : slice_get (entries_of marks ++ m.entry ∷ []) i ≡ Some e
    at' = subst (λ (es : List Entry). slice_get es i ≡ Some e) (map-push marks m) at

    short : i < length (entries_of marks ++ m.entry ∷ [])
    short = slice_get_within (entries_of marks ++ m.entry ∷ []) i e at'

-- one more entry's last decision is itself, or that of those before
module _ (marks : List Mark) (m : Mark) where
  abbrev more : List Entry
  more = entries_of marks ++ m.entry ∷ []

  count : length (entries_of marks) ≡ length marks
  count = length-map marks (λ (z : Mark). z.entry)

  here : slice_get more (length marks) ≡ Some m.entry
  here = subst (λ (k : ℕ). slice_get more k ≡ Some m.entry) count (get-last (entries_of marks) m.entry)

  earlier : (last : Option ℕ) (to : ℕ) → to ≤ length marks → IsLastBelow (entries_of marks) last to → IsLastBelow more last to
  earlier last to le h = last-like (entries_of marks) more last to
      (λ j e lt at. get-early (entries_of marks) m.entry e j (omega (arith, count, lt, le)) at)
      (λ j e lt at. get-kept (entries_of marks) m.entry e j at) h

  newest : ((m.entry.reason ≡ 0) × (m.last ≡ Some (length marks))) ⊎ ((m.entry.reason ≡ 0 → ⊥) × IsLastBelow (entries_of marks) m.last (length marks))
      → IsLastBelow more m.last (length marks + 1)
  newest (inl h) =
      let is = get_or_from_slice_get more (length marks) m.entry m.entry here in
      subst (λ (o : Option ℕ). IsLastBelow more o (length marks + 1)) (sym h.1) (last-decision more (length marks) m.entry (slice_get_within more (length marks) m.entry here) (ap (λ (z : Entry). z.reason) is ∙ h.0))
  newest (inr h) =
      let is = get_or_from_slice_get more (length marks) m.entry m.entry here in
      last-implied more m.last (length marks) m.entry (λ z. h.0 (sym (ap (λ (z : Entry). z.reason) is) ∙ z)) (earlier m.last (length marks) (omega arith) h.1)

  pub last-push : AreLast marks
      → ((m.entry.reason ≡ 0) × (m.last ≡ Some (length marks))) ⊎ ((m.entry.reason ≡ 0 → ⊥) × IsLastBelow (entries_of marks) m.last (length marks))
      → AreLast (marks ++ m ∷ [])
  last-push last how i d at = subst (λ (es : List Entry). IsLastBelow es d.last (i + 1)) (sym (map-push marks m)) (elim (cases_eq i (length marks)) [
    | inl is ↦
        let same : m ≡ d = get-late marks m d i is at in
        subst (λ (z : Mark). IsLastBelow more z.last (i + 1)) same (subst (λ (k : ℕ). IsLastBelow more m.last (k + 1)) (sym is) (newest how))
    | inr ne ↦
        let lt : i < length marks = omega (arith, ne, slice_get_within (marks ++ m ∷ []) i d at, length-push marks m) in
        earlier d.last (i + 1) (omega (arith, lt)) (last i d (get-early marks m d i lt at))
  ])

-- a variable is assigned where it has a position
pub assigned-some : (trail : List Entry) (variable : ℕ) (place : Option ℕ) → IsPlaceOf trail variable place → IsSome place ↔ IsAssigned trail variable
assigned-some trail variable None free = (λ t. absurd (false≢true t), λ a. absurd (free a.0 a.1 a.2))
assigned-some trail variable (Some place) there = (λ t. go there.0, λ a. refl)
  where
    go : ((e : Entry) × (slice_get trail place ≡ Some e) × (e.literal.variable ≡ variable)) → IsAssigned trail variable
    go (e, at, is) = (e.literal, somewhere-stands trail place e at, is)
