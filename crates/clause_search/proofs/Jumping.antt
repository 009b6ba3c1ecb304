-- The position up to which the other literals of a clause are false.
use Rattle.clause_search.proofs.Common.{ℕ, ◌≡◌, ◌<◌, ◌≤◌, ◌+◌, ◌⊎◌, inl, inr, List, ◌∷◌, Some, refl, get_or, drop, take, slice_get, length, add-one, arith, sym, ap, subst, ◌∙◌, drop-cons, Has, Lit, opposite_of, Entry, Stands, IsFalse, FalseBut, IsPlaceOf}
use Rattle.clause_search.proofs.Placing.{stands-at, at-stands, stands-somewhere}
use Rattle.clause_search.proofs.Walking.{stands-whole}

pub but-whole : (trail : List Entry) (n : ℕ) (c : List Lit) (k : Lit) → FalseBut (take n trail) c k → FalseBut trail c k
but-whole trail n c k but l h = elim (but l h) [ inl e ↦ inl e | inr s ↦ inr (stands-whole trail n (opposite_of l) s) ]

module _ (trail : List Entry) (c : List Lit) (k : Lit) where
  -- the literals of c that aren't among the rest are false up to the position, and one of them up to no earlier one
  abbrev pub IsPast : List Lit → ℕ → Type 0
  IsPast rest past =
      ((m : Lit) → Has rest m → Has c m)
      × ((n : ℕ) → past ≤ n → (m : Lit) → Has c m → ((m ≡ k) ⊎ IsFalse (take n trail) m) ⊎ Has rest m)
      × ((n : ℕ) → FalseBut (take n trail) c k → past ≤ n)

  past-skip : (x : Lit) (rest : List Lit) (past : ℕ) → x ≡ k → IsPast (x ∷ rest) past → IsPast rest past
  past-skip x rest past same is = (
    (λ m h. is.0 m (inr h)),
    (λ n le m h. elim (is.1 n le m h) [
      | inl g ↦ inl g
      | inr g ↦ elim g [ inl e ↦ inl (inl (sym e ∙ same)) | inr r ↦ inr r ]
    ]),
    is.2,
  )

  past-more : (x : Lit) (rest : List Lit) (past past' p : ℕ) → FalseBut trail c k → (x ≡ k → ⊥) → IsPlaceOf trail x.variable (Some p) → past ≤ past' → p < past'
      → ((n : ℕ) → past ≤ n → p < n → past' ≤ n) → IsPast (x ∷ rest) past → IsPast rest past'
  past-more x rest past past' p all other there more lt least is = (
    (λ m h. is.0 m (inr h)),
    (λ n le m h. elim (is.1 n (omega (arith, more, le)) m h) [
      | inl g ↦ inl g
      | inr g ↦ elim g [ inl e ↦ inl (inr (subst (λ (y : Lit). IsFalse (take n trail) y) e (here n le))) | inr r ↦ inr r ]
    ]),
    (λ n but. least n (is.2 n but) (before n but)),
  )
    where
      here : (n : ℕ) → past' ≤ n → IsFalse (take n trail) x
      here n le = elim (all x (is.0 x (inl refl))) [
        | inl e ↦ absurd (other e)
        | inr s ↦ go (stands-somewhere trail (opposite_of x) s)
      ]
        where
          go : ((i : ℕ) × (e : Entry) × (slice_get trail i ≡ Some e) × (e.literal ≡ opposite_of x)) → IsFalse (take n trail) x
          go (i, e, at, eq) =
              let same : i ≡ p = there.1 i e at (ap (λ (z : Lit). z.variable) eq) in
              subst (λ (y : Lit). Stands (take n trail) y) eq (at-stands trail n i e (omega (arith, same, lt, le)) at)

      before : (n : ℕ) → FalseBut (take n trail) c k → p < n
      before n but = elim (but x (is.0 x (inl refl))) [
        | inl e ↦ absurd (other e)
        | inr s ↦ go (stands-at trail n (opposite_of x) s)
      ]
        where
          go : ((i : ℕ) × (e : Entry) × (i < n) × (slice_get trail i ≡ Some e) × (e.literal ≡ opposite_of x)) → p < n
          go (i, e, low, at, eq) = let same : i ≡ p = there.1 i e at (ap (λ (z : Lit). z.variable) eq) in omega (arith, same, low)

  -- the same by indices
  past-at : (ls : List Lit) (i : ℕ) (d : Lit) (past : ℕ) → i < length ls → IsPast (drop i ls) past → IsPast (get_or ls i d ∷ drop (i + 1) ls) past
  past-at ls i d past lt is =
      let e : drop i ls ≡ get_or ls i d ∷ drop (i + 1) ls = drop-cons ls i d lt ∙ ap (λ n. get_or ls i d ∷ drop n ls) (sym (add-one i)) in
      subst (λ (zs : List Lit). IsPast zs past) e is

  pub past-skip-at : (ls : List Lit) (i : ℕ) (d : Lit) (past : ℕ) → i < length ls → get_or ls i d ≡ k → IsPast (drop i ls) past → IsPast (drop (i + 1) ls) past
  past-skip-at ls i d past lt same is = past-skip (get_or ls i d) (drop (i + 1) ls) past same (past-at ls i d past lt is)

  pub past-more-at : (ls : List Lit) (i : ℕ) (d : Lit) (past past' p : ℕ) → i < length ls → FalseBut trail c k → (get_or ls i d ≡ k → ⊥)
      → IsPlaceOf trail (get_or ls i d).variable (Some p) → past ≤ past' → p < past' → ((n : ℕ) → past ≤ n → p < n → past' ≤ n)
      → IsPast (drop i ls) past → IsPast (drop (i + 1) ls) past'
  past-more-at ls i d past past' p lt all other there more above least is =
      past-more (get_or ls i d) (drop (i + 1) ls) past past' p all other there more above least (past-at ls i d past lt is)
