-- Which names slots hold after names are assigned.
use Rattle.register_slots.proofs.Common.{◌≡◌, ℕ, zero, suc, ◌<◌, List, [], ◌∷◌, length, replicate, Option, Some, None, ◌⊎◌, inl, inr, refl, sym, ap, subst, ◌∙◌, arith, slice_get, slice_set, AllByRecursion, cases_eq, length-set, length-replicate, get_or-replicate, slice_get_within, slice_get-get_or, slot_of, IsHeld, holding, only_holding}

-- ---- a list that is set at an index

pub get_set_same : {X : Type 0} (xs : List X) (i : ℕ) (x : X) → i < length xs → slice_get (slice_set xs i x) i ≡ Some x
get_set_same [] i x below = absurd (omega (arith, below))
get_set_same (y ∷ xs) zero x below = refl
get_set_same (y ∷ xs) (suc i) x below = get_set_same xs i x (omega (arith, below))

pub get_set_other : {X : Type 0} (xs : List X) (i j : ℕ) (x : X) → (j ≡ i → ⊥) → slice_get (slice_set xs i x) j ≡ slice_get xs j
get_set_other [] i j x apart = refl
get_set_other (y ∷ xs) zero zero x apart = absurd (apart refl)
get_set_other (y ∷ xs) zero (suc j) x apart = refl
get_set_other (y ∷ xs) (suc i) zero x apart = refl
get_set_other (y ∷ xs) (suc i) (suc j) x apart = get_set_other xs i j x (λ e. apart (ap suc e))

pub name_is : (m n : ℕ) → Some (Some m) ≡ Some (Some n) → m ≡ n
name_is m n e = cc

-- ---- what slots hold

pub holding_length : (slots names : List ℕ) (held : List (Option ℕ)) → length (holding slots names held) ≡ length held
holding_length slots [] held = refl
holding_length slots (n ∷ names) held = holding_length slots names (slice_set held (slot_of slots n) (Some n)) ∙ length-set held (slot_of slots n) (Some n)

pub only_holding_length : (slots : List ℕ) (count : ℕ) (names : List ℕ) → length (only_holding slots count names) ≡ count
only_holding_length slots count names = holding_length slots names (replicate count None) ∙ length-replicate count None

-- a name that is held is one of these, or was held before
held_among : (P : ℕ → Type 0) (slots names : List ℕ) (held : List (Option ℕ)) (n : ℕ) → AllByRecursion P names → (IsHeld slots held n → P n) → IsHeld slots (holding slots names held) n → P n
held_among P slots [] held n all before holds = before holds
held_among P slots (x ∷ names) held n all before holds = held_among P slots names (slice_set held (slot_of slots x) (Some x)) n all.1 (λ h. by h (cases_eq (slot_of slots n) (slot_of slots x))) holds
  where
    by : IsHeld slots (slice_set held (slot_of slots x) (Some x)) n → (slot_of slots n ≡ slot_of slots x) ⊎ (slot_of slots n ≡ slot_of slots x → ⊥) → P n
    by h (inr apart) = before (sym (get_set_other held (slot_of slots x) (slot_of slots n) (Some x) apart) ∙ h)
    by h (inl e) =
        let within = slice_get_within (slice_set held (slot_of slots x) (Some x)) (slot_of slots n) (Some n) h in
        let long = length-set held (slot_of slots x) (Some x) in
        let new = get_set_same held (slot_of slots x) (Some x) (omega (arith, within, long, e)) in
        let there = ap (λ (s : ℕ). slice_get (slice_set held (slot_of slots x) (Some x)) s) e in
        subst P (name_is x n (sym new ∙ (sym there ∙ h))) all.0

none_held : (slots : List ℕ) (count n : ℕ) → IsHeld slots (replicate count None) n → ⊥
none_held slots count n holds =
    let within = slice_get_within (replicate count None) (slot_of slots n) (Some n) holds in
    let long = length-replicate {A = Option ℕ} count None in
    let none = slice_get-get_or (replicate count None) (slot_of slots n) None within ∙ ap Some (get_or-replicate count (slot_of slots n) None None (omega (arith, within, long))) in
    wrong n (sym none ∙ holds)
  where
    wrong : (k : ℕ) → Some None ≡ Some (Some k) → ⊥
    wrong k e = cc

-- slots that hold only these names hold no other one
pub only_among : (P : ℕ → Type 0) (slots : List ℕ) (count : ℕ) (names : List ℕ) (n : ℕ) → AllByRecursion P names → IsHeld slots (only_holding slots count names) n → P n
only_among P slots count names n all holds = held_among P slots names (replicate count None) n all (λ h. absurd (none_held slots count n h)) holds
