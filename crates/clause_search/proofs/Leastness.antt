-- A trail that decides the least variable as 0 gives the least model.
use Rattle.clause_search.proofs.Common.{append_assoc, ℕ, ◌≡◌, ◌<◌, ◌⊎◌, ◌++◌, inl, inr, Bool, true, false, not, cond, List, [], ◌∷◌, sym, subst, refl, ◌∙◌, false≢true, cases_order, Has, Lit, opposite_of, lit_true, clause_true, Holds, holds_from, Entry, Stands, IsAssigned, FalseBut, IsDecision, IsGrounded, IsTrail}

-- every literal on the trail is true
abbrev pub AllTrue : (ℕ → Bool) → List Entry → Type 0
AllTrue v trail = (l : Lit) → Stands trail l → lit_true v l ≡ true

pub stands-split : (a b : List Entry) (l : Lit) → Stands (a ++ b) l → Stands a l ⊎ Stands b l
stands-split [] b l h = inr h
stands-split (e ∷ es) b l (inl h) = inl (inl h)
stands-split (e ∷ es) b l (inr h) = elim (stands-split es b l h) [ inl g ↦ inl (inr g) | inr g ↦ inr g ]

pub stands-left : (a b : List Entry) (l : Lit) → Stands a l → Stands (a ++ b) l
stands-left [] b l h = absurd h
stands-left (e ∷ es) b l (inl h) = inl h
stands-left (e ∷ es) b l (inr h) = inr (stands-left es b l h)

pub stands-right : (a b : List Entry) (l : Lit) → Stands b l → Stands (a ++ b) l
stands-right [] b l h = h
stands-right (e ∷ es) b l h = inr (stands-right es b l h)

pub lit_true-opposite : (v : ℕ → Bool) (l : Lit) → lit_true v (opposite_of l) ≡ true → lit_true v l ≡ true → ⊥
lit_true-opposite v l h g = go l.positive (v l.variable) h g
  where
    go : (p b : Bool) → cond (not p) b (not b) ≡ true → cond p b (not b) ≡ true → ⊥
    go true true h g = false≢true h
    go true false h g = false≢true g
    go false true h g = false≢true g
    go false false h g = false≢true h

-- a true clause whose literals but k are false has k true
unit-true : (v : ℕ → Bool) (trail : List Entry) (k : Lit) → AllTrue v trail → (c : List Lit) → FalseBut trail c k → Holds v c → lit_true v k ≡ true
unit-true v trail k all [] false_but h = absurd h
unit-true v trail k all (l ∷ ls) false_but (inr h) = unit-true v trail k all ls (λ m g. false_but m (inr g)) h
unit-true v trail k all (l ∷ ls) false_but (inl h) =
    elim (false_but l (inl refl)) [
      | inl e ↦ subst (λ (m : Lit). lit_true v m ≡ true) e h
      | inr f ↦ absurd (lit_true-opposite v l (all (opposite_of l) f) h)
    ]

module _ (variables : ℕ) (clauses : List (List Lit)) (v w : ℕ → Bool) (i : ℕ)
    (true_all : (c : List Lit) → Has clauses c → clause_true v c ≡ true)
    (zero : v i ≡ false) (one : w i ≡ true) (same : (j : ℕ) → 0 < j → j < i → v j ≡ w j) (counted : 0 < i) where
  -- a literal of i that is true under both says two things
  clash : (l : Lit) → l.variable ≡ i → lit_true v l ≡ true → lit_true w l ≡ true → ⊥
  clash l e h g = go l.positive (rw e at h) (rw e at g)
    where
      go : (p : Bool) → cond p (v i) (not (v i)) ≡ true → cond p (w i) (not (w i)) ≡ true → ⊥
      go true h g = false≢true (sym zero ∙ h)
      go false h g = let k = rw one at g in false≢true k

  -- each literal on the trail is true where v is a model below w, up to i
  pub below-true : (before es : List Entry) → IsTrail variables clauses before es → AllTrue w (before ++ es) → AllTrue v before → AllTrue v (before ++ es)
  below-true before [] h tw tv l s = elim (stands-split before [] l s) [ inl g ↦ tv l g | inr g ↦ absurd g ]
  below-true before (e ∷ es) h tw tv l s =
      below-true (before ++ e ∷ []) es h.1 (λ m t. tw m (regroup m t)) (grown (here h.0)) l (regroup' l s)
    where
      regroup : (m : Lit) → Stands ((before ++ e ∷ []) ++ es) m → Stands (before ++ e ∷ es) m
      regroup m t = let f = append_assoc before (e ∷ []) es in subst (λ (x : List Entry). Stands x m) f t

      regroup' : (m : Lit) → Stands (before ++ e ∷ es) m → Stands ((before ++ e ∷ []) ++ es) m
      regroup' m t = let f = append_assoc before (e ∷ []) es in subst (λ (x : List Entry). Stands x m) (sym f) t

      stands : Stands (before ++ e ∷ es) e.literal
      stands = stands-right before (e ∷ es) e.literal (inl refl)

      decided : IsDecision clauses before e → 0 < e.literal.variable → lit_true v e.literal ≡ true
      decided d counts =
          elim (cases_order e.literal.variable i) [
            | inl at ↦ absurd (let k = rw (d.zero, at, one) at (tw e.literal stands) in false≢true k)
            | inr other ↦ elim other [
              | inl below ↦ rw (d.zero, same e.literal.variable counts below) (let k = rw d.zero at (tw e.literal stands) in k)
              | inr above ↦ absurd (earlier (d.least i counted above))
            ]
          ]
        where
          earlier : IsAssigned before i → ⊥
          earlier (m, at, is) = clash m is (tv m at) (tw m (stands-left before (e ∷ es) m at))

      here : IsGrounded variables clauses before e → lit_true v e.literal ≡ true
      here g = elim g.why [
        | inl d ↦ decided d g.positive
        | inr m ↦ unit-true v before e.literal tv m.clause m.others (holds_from v m.clause (true_all m.clause m.among))
      ]

      grown : lit_true v e.literal ≡ true → AllTrue v (before ++ e ∷ [])
      grown t m s = elim (stands-split before (e ∷ []) m s) [
        | inl g ↦ tv m g
        | inr g ↦ elim g [ inl k ↦ subst (λ (x : Lit). lit_true v x ≡ true) k t | inr k ↦ absurd k ]
      ]

  -- so i isn't assigned
  pub unassigned : (trail : List Entry) → IsTrail variables clauses [] trail → AllTrue w trail → IsAssigned trail i → ⊥
  unassigned trail h tw (l, at, is) = clash l is (below-true [] trail h tw (λ m g. absurd g) l at) (tw l at)
