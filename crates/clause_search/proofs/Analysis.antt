-- What a conflict gives: a clause that no earlier one is part of, and that is unit further down.
use Rattle.clause_search.proofs.Common.{append_assoc, ℕ, zero, suc, ◌≡◌, ◌-◌, ◌⊎◌, ◌++◌, inl, inr, Bool, true, false, not, List, [], ◌∷◌, Some, slice_get, eqb, sym, ap, subst, refl, ◌∙◌, cases_Bool, false≢true, Has, Lit, IsClause, opposite_of, joined, clashes, clause_numbered, one_clash, gone_joined, from_joined, right_joined, opposite-opposite, Entry, Stands, IsFalse, IsUnassigned, AllFalse, FalseBut, IsSettled, IsGrounded, IsTrail, IsConsistent, IsUnready}
use Rattle.clause_search.proofs.Leastness.{stands-split, stands-left}

turned : (l m : Lit) → opposite_of l ≡ m → l ≡ opposite_of m
turned l m e = sym (opposite-opposite l) ∙ ap opposite_of e

same_variable : (l m : Lit) → l ≡ m → l.variable ≡ m.variable
same_variable l m e = ap (λ (x : Lit). x.variable) e

-- what is true on a trail with one more entry
pub stands-push : (before : List Entry) (e : Entry) (l : Lit) → Stands (before ++ e ∷ []) l → Stands before l ⊎ (e.literal ≡ l)
stands-push before e l h = elim (stands-split before (e ∷ []) l h) [ inl g ↦ inl g | inr g ↦ elim g [ inl k ↦ inr k | inr k ↦ absurd k ] ]

pub consistent-push : (before : List Entry) (e : Entry) → IsConsistent before → IsUnassigned before e.literal.variable → IsConsistent (before ++ e ∷ [])
consistent-push before e con fresh l h g = go (stands-push before e l h) (stands-push before e (opposite_of l) g)
  where
    apart : (x : Lit) → x ≡ opposite_of x → ⊥
    apart x e = go' x.positive (ap (λ (y : Lit). y.positive) e)
      where
        go' : (b : Bool) → b ≡ not b → ⊥
        go' true t = false≢true (sym t)
        go' false t = false≢true t

    go : Stands before l ⊎ (e.literal ≡ l) → Stands before (opposite_of l) ⊎ (e.literal ≡ opposite_of l) → ⊥
    go (inl a) (inl b) = con l a b
    go (inl a) (inr b) = fresh l a (sym (same_variable e.literal (opposite_of l) b))
    go (inr a) (inl b) = fresh (opposite_of l) b (sym (same_variable e.literal l a))
    go (inr a) (inr b) = apart l (sym a ∙ b)

pub consistent-trail : (n : ℕ) (clauses : List (List Lit)) (before es : List Entry) → IsTrail n clauses before es → IsConsistent before → IsConsistent (before ++ es)
consistent-trail n clauses before [] h con = λ l a b. con l (back l a) (back (opposite_of l) b)
  where
    back : (m : Lit) → Stands (before ++ []) m → Stands before m
    back m s = elim (stands-split before [] m s) [ inl g ↦ g | inr g ↦ absurd g ]
consistent-trail n clauses before (e ∷ es) h con =
    let f = append_assoc before (e ∷ []) es in
    subst (λ (x : List Entry). IsConsistent x) f (consistent-trail n clauses (before ++ e ∷ []) es h.1 (consistent-push before e con h.0.fresh))

-- a clause that is false without the last entry's literal
pub skipped : (before : List Entry) (e : Entry) (c : List Lit) → AllFalse (before ++ e ∷ []) c → (Has c (opposite_of e.literal) → ⊥) → AllFalse before c
skipped before e c all absent l h =
    elim (stands-push before e (opposite_of l) (all l h)) [
      | inl g ↦ g
      | inr g ↦ absurd (absent (subst (λ (x : Lit). Has c x) (turned l e.literal (sym g)) h))
    ]

module _ (before : List Entry) (e : Entry) (c d : List Lit) (con : IsConsistent before) (fresh : IsUnassigned before e.literal.variable)
    (all : AllFalse (before ++ e ∷ []) c) (has : Has c (opposite_of e.literal)) (head : Has d e.literal) (others : FalseBut before d e.literal)
    (p : IsClause c) (q : IsClause d) where
  back : Has d (opposite_of (opposite_of e.literal))
  back = subst (λ (x : Lit). Has d x) (sym (opposite-opposite e.literal)) head

  only : (l : Lit) → Has c l → Has d (opposite_of l) → l ≡ opposite_of e.literal
  only l h g = go (stands-push before e (opposite_of l) (all l h)) (others (opposite_of l) g)
    where
      go : Stands before (opposite_of l) ⊎ (e.literal ≡ opposite_of l) → (opposite_of l ≡ e.literal) ⊎ IsFalse before (opposite_of l) → l ≡ opposite_of e.literal
      go a (inl b) = turned l e.literal b
      go (inr a) b = turned l e.literal (sym a)
      go (inl a) (inr b) = absurd (con (opposite_of l) a b)

  -- a false clause and the reason of the last entry resolve
  pub resolves : clashes c d ≡ 1
  resolves = one_clash 0 (opposite_of e.literal) c d p q has back only

  -- and the resolvent is false without that entry
  pub resolvent-false : AllFalse before (joined c d)
  resolvent-false l h = elim (from_joined c d l h) [
    | inl a ↦ elim (stands-push before e (opposite_of l) (all l a)) [
      | inl g ↦ g
      | inr g ↦ absurd (gone_joined 0 (opposite_of e.literal) l c d p q has back h (sym (same_variable e.literal (opposite_of l) g)))
    ]
    | inr a ↦ elim (others l a) [
      | inl g ↦ absurd (gone_joined 0 (opposite_of e.literal) l c d p q has back h (same_variable l e.literal g))
      | inr g ↦ g
    ]
  ]

  -- but not below a decision at which the reason was settled
  pub resolvent-above : (clauses : List (List Lit)) (low : List Entry) → ((l : Lit) → Stands low l → Stands before l) → IsSettled clauses low → Has clauses d
      → AllFalse low (joined c d) → ⊥
  resolvent-above clauses low part settled among false_low =
      fresh e.literal (part e.literal (settled d among e.literal but)) refl
    where
      absent : (l : Lit) → IsFalse before l → Has c (opposite_of l) → ⊥
      absent l f h = elim (stands-push before e (opposite_of (opposite_of l)) (all (opposite_of l) h)) [
        | inl g ↦ con (opposite_of l) f g
        | inr g ↦ fresh (opposite_of l) f (sym (same_variable e.literal (opposite_of (opposite_of l)) g))
      ]

      but : FalseBut low d e.literal
      but l h = elim (others l h) [
        | inl g ↦ inl g
        | inr g ↦ inr (false_low l (right_joined c d l (absent l g) h))
      ]

-- a clause that was settled isn't false
pub settled-above : (clauses : List (List Lit)) (low : List Entry) (c : List Lit) → IsConsistent low → IsSettled clauses low → Has clauses c → AllFalse low c → ⊥
settled-above clauses low c con settled among all =
    let k : Lit = record { variable = 0; positive = true } in
    con k (settled c among k (λ l h. inr (all l h))) (settled c among (opposite_of k) (λ l h. inr (all l h)))

-- at the decision itself the clause has its opposite literal
pub ends : (low : List Entry) (e : Entry) (c : List Lit) → AllFalse (low ++ e ∷ []) c → FalseBut low c (opposite_of e.literal)
ends low e c all l h = elim (stands-push low e (opposite_of l) (all l h)) [ inl g ↦ inr g | inr g ↦ inl (turned l e.literal (sym g)) ]

-- what is unit at a decision contains no clause that was settled there
pub new_clause : (clauses : List (List Lit)) (low : List Entry) (c d : List Lit) (k : Lit) → IsSettled clauses low → IsUnassigned low k.variable → FalseBut low c k
    → Has clauses d → ((l : Lit) → Has d l → Has c l) → ⊥
new_clause clauses low c d k settled fresh but among part = fresh k (settled d among k (λ l h. but l (part l h))) refl

among-split : (cs ds : List (List Lit)) (c : List Lit) → Has (cs ++ ds) c → Has cs c ⊎ Has ds c
among-split [] ds c h = inr h
among-split (d ∷ cs) ds c (inl h) = inl (inl h)
among-split (d ∷ cs) ds c (inr h) = elim (among-split cs ds c h) [ inl g ↦ inl (inr g) | inr g ↦ inr g ]

among-left : (cs ds : List (List Lit)) (c : List Lit) → Has cs c → Has (cs ++ ds) c
among-left [] ds c h = absurd h
among-left (d ∷ cs) ds c (inl h) = inl h
among-left (d ∷ cs) ds c (inr h) = inr (among-left cs ds c h)

-- the learned clause is settled at a decision where it isn't unit yet
settled-more : (clauses : List (List Lit)) (before : List Entry) (c : List Lit) (k : Lit) → IsSettled clauses before → Has c k → IsUnassigned before k.variable
    → (FalseBut before c k → ⊥) → IsSettled (clauses ++ c ∷ []) before
settled-more clauses before c k settled has fresh unready d among j but = go (among-split clauses (c ∷ []) d among)
  where
    same : c ≡ d → Stands before j
    same e = elim (but k (subst (λ (x : List Lit). Has x k) e has)) [
      | inr f ↦ absurd (fresh (opposite_of k) f refl)
      | inl f ↦ absurd (unready (λ l h. elim (but l (subst (λ (x : List Lit). Has x l) e h)) [ inl g ↦ inl (g ∙ sym f) | inr g ↦ inr g ]))
    ]

    go : Has clauses d ⊎ Has (c ∷ []) d → Stands before j
    go (inl h) = settled d h j but
    go (inr h) = elim h [ inl e ↦ same e | inr e ↦ absurd e ]

get-left : (cs ds : List (List Lit)) (i : ℕ) (c : List Lit) → slice_get cs i ≡ Some c → slice_get (cs ++ ds) i ≡ Some c
get-left [] ds i c e = cc
get-left (d ∷ cs) ds zero c e = e
get-left (d ∷ cs) ds (suc i) c e = get-left cs ds i c e

numbered-left : (cs ds : List (List Lit)) (n : ℕ) (c : List Lit) → clause_numbered cs n ≡ Some c → clause_numbered (cs ++ ds) n ≡ Some c
numbered-left cs ds n c e = elim (cases_Bool (eqb n 0)) [
  | inl h ↦ let f = rw h at e in cc
  | inr h ↦ rw h (get-left cs ds (n - 1) c (rw h at e))
]

-- a trail stays one where a clause comes that is unit at none of its decisions
pub trail-more : (n : ℕ) (clauses : List (List Lit)) (c : List Lit) (k : Lit) → Has c k → (before es : List Entry) → IsTrail n clauses before es
    → IsUnassigned (before ++ es) k.variable → IsUnready c k before es → IsTrail n (clauses ++ c ∷ []) before es
trail-more n clauses c k has before [] h fresh unready = tt
trail-more n clauses c k has before (e ∷ es) h fresh unready =
    (grounded h.0, trail-more n clauses c k has (before ++ e ∷ []) es h.1 fresh' unready.1)
  where
    fresh' : IsUnassigned ((before ++ e ∷ []) ++ es) k.variable
    fresh' l s = let f = append_assoc before (e ∷ []) es in fresh l (subst (λ (x : List Entry). Stands x l) f s)

    grounded : IsGrounded n clauses before e → IsGrounded n (clauses ++ c ∷ []) before e
    grounded g = record {
      positive = g.positive;
      within = g.within;
      fresh = g.fresh;
      why = elim g.why [
        | inl d ↦ inl (record {
          reason = d.reason;
          zero = d.zero;
          least = d.least;
          settled = settled-more clauses before c k d.settled has (λ l s. fresh l (stands-left before (e ∷ es) l s)) (unready.0 d.reason);
        })
        | inr m ↦ inr (record {
          clause = m.clause;
          reason = numbered-left clauses (c ∷ []) e.reason m.clause m.reason;
          among = among-left clauses (c ∷ []) m.clause m.among;
          has = m.has;
          others = m.others;
        })
      ];
    }

-- one more entry
pub trail-push : (n : ℕ) (clauses : List (List Lit)) (before es : List Entry) (e : Entry) → IsTrail n clauses before es → IsGrounded n clauses (before ++ es) e
    → IsTrail n clauses before (es ++ e ∷ [])
trail-push n clauses before [] e h g = (subst (λ (x : List Entry). IsGrounded n clauses x e) (nil before) g, tt)
  where
    nil : (xs : List Entry) → xs ++ [] ≡ xs
    nil [] = refl
    nil (x ∷ xs) = ap (λ zs. x ∷ zs) (nil xs)
trail-push n clauses before (d ∷ es) e h g =
    let f = append_assoc before (d ∷ []) es in
    (h.0, trail-push n clauses (before ++ d ∷ []) es e h.1 (subst (λ (x : List Entry). IsGrounded n clauses x e) (sym f) g))

-- and fewer
pub trail-front : (n : ℕ) (clauses : List (List Lit)) (before es more : List Entry) → IsTrail n clauses before (es ++ more) → IsTrail n clauses before es
trail-front n clauses before [] more h = tt
trail-front n clauses before (e ∷ es) more h = (h.0, trail-front n clauses (before ++ e ∷ []) es more h.1)

-- what is known of an entry in the middle
pub trail-at : (n : ℕ) (clauses : List (List Lit)) (before es : List Entry) (e : Entry) (more : List Entry) → IsTrail n clauses before (es ++ e ∷ more) → IsGrounded n clauses (before ++ es) e
trail-at n clauses before [] e more h = subst (λ (x : List Entry). IsGrounded n clauses x e) (sym (nil before)) h.0
  where
    nil : (xs : List Entry) → xs ++ [] ≡ xs
    nil [] = refl
    nil (x ∷ xs) = ap (λ zs. x ∷ zs) (nil xs)
trail-at n clauses before (d ∷ es) e more h =
    let f = append_assoc before (d ∷ []) es in
    subst (λ (x : List Entry). IsGrounded n clauses x e) f (trail-at n clauses (before ++ d ∷ []) es e more h.1)
