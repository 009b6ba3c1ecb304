-- The clauses of a gate are true exactly where its variable has its value.
use Rattle.gates.proofs.Common.{All, ℕ, zero, suc, ◌≡◌, ◌<◌, ◌≤◌, ◌++◌, ◌↔◌, ◌⊎◌, inl, inr, Bool, true, false, not, ◌&&◌, ◌||◌, cond, List, [], ◌∷◌, arith, ap, sym, refl, ◌∙◌, Result, Ok, Err, OnOk, Lit, AreWithin, clause_true, clauses_true, lit_true, opposite_of}
use Rattle.std.specs.List.{list_any}

pub OnOk-then : {T E : Type 0} (r : Result T E) (P Q : Type 0) → OnOk r P → (P → Q) → OnOk r Q
OnOk-then (Ok v) P Q h f = f h
OnOk-then (Err e) P Q h f = tt

or-false : (x : Bool) → (x || false) ≡ x
or-false true = refl
or-false false = refl

or-swap : (x y z : Bool) → (x || (y || z)) ≡ (y || (x || z))
or-swap true true z = refl
or-swap true false z = refl
or-swap false y z = refl

-- three literals in any order
pub any-three : (f : Lit → Bool) (a b c low high : Lit) (xs : List Lit)
    → ((low ≡ a) × (high ≡ b)) ⊎ ((low ≡ b) × (high ≡ a))
    → (xs ≡ c ∷ low ∷ high ∷ []) ⊎ ((xs ≡ low ∷ c ∷ high ∷ []) ⊎ (xs ≡ low ∷ high ∷ c ∷ []))
    → list_any f xs ≡ (f a || (f b || f c))
any-three f a b c low high xs order places = go order places
  where
    abc : (p q r : Bool) → (p || (q || (r || false))) ≡ (p || (q || r))
    abc p q r = ap (λ t. p || (q || t)) (or-false r)

    acb : (p q r : Bool) → (p || (r || (q || false))) ≡ (p || (q || r))
    acb p q r = ap (λ t. p || t) (or-swap r q false) ∙ abc p q r

    cab : (p q r : Bool) → (r || (p || (q || false))) ≡ (p || (q || r))
    cab p q r = or-swap r p (q || false) ∙ acb p q r

    bac : (p q r : Bool) → (q || (p || (r || false))) ≡ (p || (q || r))
    bac p q r = or-swap q p (r || false) ∙ abc p q r

    bca : (p q r : Bool) → (q || (r || (p || false))) ≡ (p || (q || r))
    bca p q r = ap (λ t. q || t) (or-swap r p false) ∙ bac p q r

    cba : (p q r : Bool) → (r || (q || (p || false))) ≡ (p || (q || r))
    cba p q r = or-swap r q (p || false) ∙ bca p q r

    go : ((low ≡ a) × (high ≡ b)) ⊎ ((low ≡ b) × (high ≡ a))
        → (xs ≡ c ∷ low ∷ high ∷ []) ⊎ ((xs ≡ low ∷ c ∷ high ∷ []) ⊎ (xs ≡ low ∷ high ∷ c ∷ []))
        → list_any f xs ≡ (f a || (f b || f c))
    go (inl o) (inl e) = ap (list_any f) e ∙ (ap (λ x. f c || (f x || (f high || false))) o.0 ∙ (ap (λ x. f c || (f a || (f x || false))) o.1 ∙ cab (f a) (f b) (f c)))
    go (inl o) (inr (inl e)) = ap (list_any f) e ∙ (ap (λ x. f x || (f c || (f high || false))) o.0 ∙ (ap (λ x. f a || (f c || (f x || false))) o.1 ∙ acb (f a) (f b) (f c)))
    go (inl o) (inr (inr e)) = ap (list_any f) e ∙ (ap (λ x. f x || (f high || (f c || false))) o.0 ∙ (ap (λ x. f a || (f x || (f c || false))) o.1 ∙ abc (f a) (f b) (f c)))
    go (inr o) (inl e) = ap (list_any f) e ∙ (ap (λ x. f c || (f x || (f high || false))) o.0 ∙ (ap (λ x. f c || (f b || (f x || false))) o.1 ∙ cba (f a) (f b) (f c)))
    go (inr o) (inr (inl e)) = ap (list_any f) e ∙ (ap (λ x. f x || (f c || (f high || false))) o.0 ∙ (ap (λ x. f b || (f c || (f x || false))) o.1 ∙ bca (f a) (f b) (f c)))
    go (inr o) (inr (inr e)) = ap (list_any f) e ∙ (ap (λ x. f x || (f high || (f c || false))) o.0 ∙ (ap (λ x. f b || (f x || (f c || false))) o.1 ∙ bac (f a) (f b) (f c)))

and-true-right : (a : Bool) → (a && true) ≡ a
and-true-right true = refl
and-true-right false = refl

and-assoc : (a b c : Bool) → ((a && b) && c) ≡ (a && (b && c))
and-assoc true b c = refl
and-assoc false b c = refl

pub clauses-push : (v : ℕ → Bool) (cs : List (List Lit)) (c : List Lit) → clauses_true v (cs ++ c ∷ []) ≡ (clauses_true v cs && clause_true v c)
clauses-push v [] c = and-true-right (clause_true v c)
clauses-push v (x ∷ xs) c = ap (λ b. clause_true v x && b) (clauses-push v xs c) ∙ sym (and-assoc (clause_true v x) (clauses_true v xs) (clause_true v c))

pub within-push : (n : ℕ) (cs : List (List Lit)) (c : List Lit) → AreWithin n cs → All (λ l. (0 < l.variable) × (l.variable ≤ n)) c → AreWithin n (cs ++ c ∷ [])
within-push n [] c h here zero d lt = here
within-push n [] c h here (suc k) d lt = absurd (omega arith)
within-push n (x ∷ xs) c h here zero d lt = h 0 x (omega arith)
within-push n (x ∷ xs) c h here (suc k) d lt = within-push n xs c (λ i e l. h (suc i) e (omega arith)) here k d (omega arith)

lit-opposite : (v : ℕ → Bool) (l : Lit) → lit_true v (opposite_of l) ≡ not (lit_true v l)
lit-opposite v l = go l.positive (v l.variable)
  where
    go : (p b : Bool) → cond (not p) b (not b) ≡ not (cond p b (not b))
    go true b = refl
    go false true = refl
    go false false = refl

and-iff : (k o a b : Bool) → ((((k && (not o || a)) && (not o || b)) && (o || (not a || not b))) ≡ true) ↔ ((k ≡ true) × (o ≡ (a && b)))
and-iff true true true true = (λ _. (refl, refl), λ _. refl)
and-iff true true true false = (λ e. cc, λ h. let x = h.1 in cc)
and-iff true true false b = (λ e. cc, λ h. let x = h.1 in cc)
and-iff true false true true = (λ e. cc, λ h. let x = h.1 in cc)
and-iff true false true false = (λ _. (refl, refl), λ _. refl)
and-iff true false false b = (λ _. (refl, refl), λ _. refl)
and-iff false o a b = (λ e. cc, λ h. let x = h.0 in cc)

-- the three clauses of an and gate
pub and-says : (v : ℕ → Bool) (cs items : List (List Lit)) (own a b : Lit) (first second third : List Lit)
    → clause_true v first ≡ (lit_true v (opposite_of own) || lit_true v a)
    → clause_true v second ≡ (lit_true v (opposite_of own) || lit_true v b)
    → clause_true v third ≡ (lit_true v own || (lit_true v (opposite_of a) || lit_true v (opposite_of b)))
    → items ≡ ((cs ++ first ∷ []) ++ second ∷ []) ++ third ∷ []
    → (clauses_true v items ≡ true) ↔ ((clauses_true v cs ≡ true) × (lit_true v own ≡ (lit_true v a && lit_true v b)))
and-says v cs items own a b first second third e1 e2 e3 is =
    let o = lit_true v own in
    let x = lit_true v a in
    let y = lit_true v b in
    let k = clauses_true v cs in
    let f1 : clause_true v first ≡ (not o || x) = e1 ∙ ap (λ t. t || x) (lit-opposite v own) in
    let f2 : clause_true v second ≡ (not o || y) = e2 ∙ ap (λ t. t || y) (lit-opposite v own) in
    let f3 : clause_true v third ≡ (o || (not x || not y)) =
    e3 ∙ (ap (λ t. o || (t || lit_true v (opposite_of b))) (lit-opposite v a) ∙ ap (λ t. o || (not x || t)) (lit-opposite v b)) in
    let all : clauses_true v items ≡ (((k && (not o || x)) && (not o || y)) && (o || (not x || not y))) =
    ap (clauses_true v) is ∙ (clauses-push v ((cs ++ first ∷ []) ++ second ∷ []) third
    ∙ (ap (λ t. t && clause_true v third) (clauses-push v (cs ++ first ∷ []) second ∙ ap (λ t. t && clause_true v second) (clauses-push v cs first))
    ∙ (ap (λ t. ((k && t) && clause_true v second) && clause_true v third) f1
    ∙ (ap (λ t. ((k && (not o || x)) && t) && clause_true v third) f2 ∙ ap (λ t. ((k && (not o || x)) && (not o || y)) && t) f3)))) in
    let iff = and-iff k o x y in
    (λ h. iff.0 (sym all ∙ h), λ h. all ∙ iff.1 h)

choose-iff : (k o c a b : Bool)
    → (((((k && (not c || (not a || o))) && (not c || (a || not o))) && (c || (not b || o))) && (c || (b || not o))) ≡ true) ↔ ((k ≡ true) × (o ≡ cond c a b))
choose-iff true true true true b = (λ _. (refl, refl), λ _. refl)
choose-iff true true true false b = (λ e. cc, λ h. let x = h.1 in cc)
choose-iff true true false a true = (λ _. (refl, refl), λ _. refl)
choose-iff true true false a false = (λ e. cc, λ h. let x = h.1 in cc)
choose-iff true false true true b = (λ e. cc, λ h. let x = h.1 in cc)
choose-iff true false true false b = (λ _. (refl, refl), λ _. refl)
choose-iff true false false a true = (λ e. cc, λ h. let x = h.1 in cc)
choose-iff true false false a false = (λ _. (refl, refl), λ _. refl)
choose-iff false o c a b = (λ e. cc, λ h. let x = h.0 in cc)

-- the four clauses of a choice
pub choose-says : (v : ℕ → Bool) (cs items : List (List Lit)) (own c a b : Lit) (first second third fourth : List Lit)
    → clause_true v first ≡ (lit_true v (opposite_of c) || (lit_true v (opposite_of a) || lit_true v own))
    → clause_true v second ≡ (lit_true v (opposite_of c) || (lit_true v a || lit_true v (opposite_of own)))
    → clause_true v third ≡ (lit_true v c || (lit_true v (opposite_of b) || lit_true v own))
    → clause_true v fourth ≡ (lit_true v c || (lit_true v b || lit_true v (opposite_of own)))
    → items ≡ (((cs ++ first ∷ []) ++ second ∷ []) ++ third ∷ []) ++ fourth ∷ []
    → (clauses_true v items ≡ true) ↔ ((clauses_true v cs ≡ true) × (lit_true v own ≡ cond (lit_true v c) (lit_true v a) (lit_true v b)))
choose-says v cs items own c a b first second third fourth e1 e2 e3 e4 is =
    let o = lit_true v own in
    let x = lit_true v c in
    let y = lit_true v a in
    let z = lit_true v b in
    let k = clauses_true v cs in
    let f1 : clause_true v first ≡ (not x || (not y || o)) = e1 ∙ (ap (λ t. t || (lit_true v (opposite_of a) || o)) (lit-opposite v c) ∙ ap (λ t. not x || (t || o)) (lit-opposite v a)) in
    let f2 : clause_true v second ≡ (not x || (y || not o)) = e2 ∙ (ap (λ t. t || (y || lit_true v (opposite_of own))) (lit-opposite v c) ∙ ap (λ t. not x || (y || t)) (lit-opposite v own)) in
    let f3 : clause_true v third ≡ (x || (not z || o)) = e3 ∙ ap (λ t. x || (t || o)) (lit-opposite v b) in
    let f4 : clause_true v fourth ≡ (x || (z || not o)) = e4 ∙ ap (λ t. x || (z || t)) (lit-opposite v own) in
    let all : clauses_true v items ≡ ((((k && (not x || (not y || o))) && (not x || (y || not o))) && (x || (not z || o))) && (x || (z || not o))) =
    ap (clauses_true v) is ∙ (clauses-push v (((cs ++ first ∷ []) ++ second ∷ []) ++ third ∷ []) fourth
    ∙ (ap (λ t. t && clause_true v fourth) (clauses-push v ((cs ++ first ∷ []) ++ second ∷ []) third)
    ∙ (ap (λ t. (t && clause_true v third) && clause_true v fourth) (clauses-push v (cs ++ first ∷ []) second)
    ∙ (ap (λ t. ((t && clause_true v second) && clause_true v third) && clause_true v fourth) (clauses-push v cs first)
    ∙ (ap (λ t. (((k && t) && clause_true v second) && clause_true v third) && clause_true v fourth) f1
    ∙ (ap (λ t. (((k && (not x || (not y || o))) && t) && clause_true v third) && clause_true v fourth) f2
    ∙ (ap (λ t. (((k && (not x || (not y || o))) && (not x || (y || not o))) && t) && clause_true v fourth) f3
    ∙ ap (λ t. (((k && (not x || (not y || o))) && (not x || (y || not o))) && (x || (not z || o))) && t) f4))))))) in
    let iff = choose-iff k o x y z in
    (λ h. iff.0 (sym all ∙ h), λ h. all ∙ iff.1 h)
