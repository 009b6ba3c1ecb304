-- What is in a list after a change.
use Rattle.watch_solver.proofs.Common.{ℕ, zero, suc, ◌≡◌, ◌<◌, ◌≤◌, ◌+◌, ◌-◌, ◌++◌, ◌⊎◌, inl, inr, List, [], ◌∷◌, Some, None, slice_get, get_or, take, length, arith, sym, ap, subst, refl, ◌∙◌, get_or-set_same, get_or-set_other, set, length-set, swap_remove, cases_eq, slice_get_within, slice_get-get_or, get_or_from_slice_get, Lit, get-last, get-kept, get-take, get-taken, Watch, index_of, HasFrom, list_of, with_list}
use Rattle.watch_solver.proofs.Codes.{index-injective}

module _ {X : Type 0} where
  pub get-set_same : (xs : List X) (i : ℕ) (x : X) → i < length xs → slice_get (set xs i x) i ≡ Some x
  get-set_same [] i x lt = absurd (omega arith)
  get-set_same (y ∷ ys) zero x lt = refl
  get-set_same (y ∷ ys) (suc i) x lt = get-set_same ys i x (omega arith)

  pub get-set_other : (xs : List X) (i j : ℕ) (x : X) → (j ≡ i → ⊥) → slice_get (set xs i x) j ≡ slice_get xs j
  get-set_other [] i j x ne = refl
  get-set_other (y ∷ ys) zero zero x ne = absurd (ne refl)
  get-set_other (y ∷ ys) zero (suc j) x ne = refl
  get-set_other (y ∷ ys) (suc i) zero x ne = refl
  get-set_other (y ∷ ys) (suc i) (suc j) x ne = get-set_other ys i j x (λ e. ne (ap suc e))

  -- what a list with another item has
  pub get-set : (xs : List X) (i j : ℕ) (x y : X) → i < length xs → slice_get (set xs i x) j ≡ Some y → ((j ≡ i) × (x ≡ y)) ⊎ ((j ≡ i → ⊥) × (slice_get xs j ≡ Some y))
  get-set xs i j x y lt at = elim (cases_eq j i) [
    | inl e ↦ inl (e, let here : slice_get (set xs i x) i ≡ Some y = subst (λ (k : ℕ). slice_get (set xs i x) k ≡ Some y) e at in let same = get-set_same xs i x lt in cc)
    | inr ne ↦ inr (ne, sym (get-set_other xs i j x ne) ∙ at)
  ]

  -- an item of the list without the one at an index was there before
  pub get-removed : (xs : List X) (i : ℕ) (d : X) → i < length xs → (j : ℕ) (x : X) → slice_get (swap_remove xs i d) j ≡ Some x → (k : ℕ) × (slice_get xs k ≡ Some x)
  get-removed xs i d lt j x at =
      let more = get-taken (set xs i (get_or xs (length xs - 1) d)) (length xs - 1) j x at in
      elim (get-set xs i j (get_or xs (length xs - 1) d) x lt more.1) [
        | inl h ↦ (length xs - 1, slice_get-get_or xs (length xs - 1) d (omega (arith, lt)) ∙ ap Some h.1)
        | inr h ↦ (j, h.1)
      ]

  -- and each other item is still there, those from the index on not before it
  pub removed-get : (xs : List X) (i : ℕ) (d : X) → i < length xs → (j : ℕ) (x : X) → (j ≡ i → ⊥) → slice_get xs j ≡ Some x
      → (k : ℕ) × (slice_get (swap_remove xs i d) k ≡ Some x) × ((k ≡ j) ⊎ (k ≡ i))
  removed-get xs i d lt j x ne at =
      let within = slice_get_within xs j x at in
      elim (cases_eq j (length xs - 1)) [
        | inl e ↦
            let last : get_or xs (length xs - 1) d ≡ x = get_or_from_slice_get xs (length xs - 1) x d (subst (λ (k : ℕ). slice_get xs k ≡ Some x) e at) in
            (i, get-take (set xs i (get_or xs (length xs - 1) d)) (length xs - 1) i x (omega (arith, lt, within, e, ne)) (get-set_same xs i (get_or xs (length xs - 1) d) lt ∙ ap Some last), inr refl)
        | inr other ↦
            (j, get-take (set xs i (get_or xs (length xs - 1) d)) (length xs - 1) j x (omega (arith, within, other)) (get-set_other xs i j (get_or xs (length xs - 1) d) ne ∙ at), inl refl)
      ]

  pub length-removed : (xs : List X) (i : ℕ) (d : X) → i < length xs → length (swap_remove xs i d) + 1 ≡ length xs
  length-removed xs i d lt = omega (arith, length-front (length xs - 1) (set xs i (get_or xs (length xs - 1) d)) (omega (arith, length-set xs i (get_or xs (length xs - 1) d))), length-set xs i (get_or xs (length xs - 1) d))
    where
      length-front : (n : ℕ) (ys : List X) → n ≤ length ys → length (take n ys) ≡ n
      length-front zero [] h = refl
      length-front zero (y ∷ ys) h = refl
      length-front (suc n) [] h = absurd (omega arith)
      length-front (suc n) (y ∷ ys) h = omega (arith, length-front n ys (omega arith))

-- the lists
pub list-same : (lists : List (List Watch)) (l : Lit) (watches : List Watch) → index_of l < length lists → list_of (with_list lists l watches) l ≡ watches
list-same lists l watches lt = get_or-set_same lists (index_of l) watches [] lt

pub list-other : (lists : List (List Watch)) (l m : Lit) (watches : List Watch) → (m ≡ l → ⊥) → list_of (with_list lists l watches) m ≡ list_of lists m
list-other lists l m watches ne = get_or-set_other lists (index_of l) (index_of m) watches [] (λ e. ne (index-injective m l e))

pub length-lists : (lists : List (List Watch)) (l : Lit) (watches : List Watch) → length (with_list lists l watches) ≡ length lists
length-lists lists l watches = length-set lists (index_of l) watches

-- a literal with a watch has a list
pub list-room : (lists : List (List Watch)) (l : Lit) (i : ℕ) (w : Watch) → slice_get (list_of lists l) i ≡ Some w → index_of l < length lists
list-room lists l i w at = go lists (index_of l) at
  where
    go : (ls : List (List Watch)) (k : ℕ) → slice_get (get_or ls k []) i ≡ Some w → k < length ls
    go [] zero e = cc
    go [] (suc k) e = cc
    go (x ∷ xs) zero e = omega arith
    go (x ∷ xs) (suc k) e = omega (arith, go xs k e)

-- watches of a clause
pub has-push : (watches : List Watch) (w : Watch) (place n : ℕ) → HasFrom watches place n → HasFrom (watches ++ w ∷ []) place n
has-push watches w place n h = record { index = h.index; watch = h.watch; late = h.late; at = get-kept watches w h.watch h.index h.at; same = h.same }

pub has-last : (watches : List Watch) (w : Watch) → HasFrom (watches ++ w ∷ []) 0 w.clause
has-last watches w = record { index = length watches; watch = w; late = omega arith; at = get-last watches w; same = refl }

pub has-set : (watches : List Watch) (place n : ℕ) (i : ℕ) (old w : Watch) → slice_get watches i ≡ Some old → w.clause ≡ old.clause → HasFrom watches place n
    → HasFrom (set watches i w) place n
has-set watches place n i old w at same h = elim (cases_eq h.index i) [
  | inl e ↦ record {
    index = h.index;
    watch = w;
    late = h.late;
    at = subst (λ (k : ℕ). slice_get (set watches i w) k ≡ Some w) (sym e) (get-set_same watches i w (slice_get_within watches i old at));
    same =
        let here : slice_get watches i ≡ Some h.watch = subst (λ (k : ℕ). slice_get watches k ≡ Some h.watch) e h.at in
        let alike : old ≡ h.watch = cc in
        same ∙ (ap (λ (x : Watch). x.clause) alike ∙ h.same);
  }
  | inr ne ↦ record { index = h.index; watch = h.watch; late = h.late; at = get-set_other watches i h.index w ne ∙ h.at; same = h.same }
]

-- another clause's watch outlives a removal
pub has-removed : (watches : List Watch) (i : ℕ) (w d : Watch) → slice_get watches i ≡ Some w → (place n : ℕ) → place ≤ i → (w.clause ≡ n → ⊥)
    → HasFrom watches place n → HasFrom (swap_remove watches i d) place n
has-removed watches i w d at place n le ne h = go (removed-get watches i d (slice_get_within watches i w at) h.index h.watch apart h.at)
  where
    apart : h.index ≡ i → ⊥
    apart e =
        let here : slice_get watches i ≡ Some h.watch = subst (λ (k : ℕ). slice_get watches k ≡ Some h.watch) e h.at in
        let alike : w ≡ h.watch = cc in
        ne (ap (λ (x : Watch). x.clause) alike ∙ h.same)

    go : ((k : ℕ) × (slice_get (swap_remove watches i d) k ≡ Some h.watch) × ((k ≡ h.index) ⊎ (k ≡ i))) → HasFrom (swap_remove watches i d) place n
    go (k, there, where_to) = record {
      index = k;
      watch = h.watch;
      late = elim where_to [ inl e ↦ omega (arith, e, h.late) | inr e ↦ omega (arith, e, le) ];
      at = there;
      same = h.same;
    }

-- one of the watches from an index on is that at the index, or comes later
pub has-rest : (watches : List Watch) (place n : ℕ) (w : Watch) → slice_get watches place ≡ Some w → HasFrom watches place n → (w.clause ≡ n) ⊎ HasFrom watches (place + 1) n
has-rest watches place n w at h = elim (cases_eq h.index place) [
  | inl e ↦ inl (
      let here : slice_get watches place ≡ Some h.watch = subst (λ (k : ℕ). slice_get watches k ≡ Some h.watch) e h.at in
      let alike : w ≡ h.watch = cc in
      ap (λ (x : Watch). x.clause) alike ∙ h.same)
  | inr ne ↦ inr (record { index = h.index; watch = h.watch; late = omega (arith, ne, h.late); at = h.at; same = h.same })
]

pub has-none : (watches : List Watch) (place n : ℕ) → slice_get watches place ≡ None → HasFrom watches place n → ⊥
has-none watches place n none h = go watches place h.index h.late none h.at
  where
    go : (ws : List Watch) (i j : ℕ) → i ≤ j → slice_get ws i ≡ None → slice_get ws j ≡ Some h.watch → ⊥
    go [] i j le e f = cc
    go (x ∷ xs) zero j le e f = cc
    go (x ∷ xs) (suc i) zero le e f = absurd (omega arith)
    go (x ∷ xs) (suc i) (suc j) le e f = go xs i j (omega arith) e f
