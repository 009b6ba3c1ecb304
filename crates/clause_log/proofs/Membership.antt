-- Which literals the join of two clauses has, and where exactly one variable clashes.
use Rattle.clause_log.proofs.Common.{ℕ, ◌≡◌, ◌<◌, ◌+◌, ◌⊎◌, inl, inr, Bool, true, false, not, cond, List, [], ◌∷◌, ltb, arith, sym, ap, refl, ◌∙◌, ltb-true, ltb-false, cases_Bool, false≢true, true≢false, Lit, RisesFrom, opposite_of, Has, joined, joined_at, clashes, clashes_at, same_sign}

pub same_lit : (a b : Lit) → a.variable ≡ b.variable → a.positive ≡ b.positive → a ≡ b
same_lit a b v s =
    let F : ℕ → Lit = λ x. record { variable = x; positive = a.positive } in
    let G : Bool → Lit = λ x. record { variable = b.variable; positive = x } in
    ap F v ∙ ap G s

same_sign-same : (p q : Bool) → cond p q (cond q false true) ≡ true → p ≡ q
same_sign-same true true s = refl
same_sign-same true false s = absurd (false≢true s)
same_sign-same false true s = absurd (false≢true s)
same_sign-same false false s = refl

same_sign-other : (p q : Bool) → cond p q (cond q false true) ≡ false → q ≡ not p
same_sign-other true true s = absurd (true≢false s)
same_sign-other true false s = refl
same_sign-other false true s = refl
same_sign-other false false s = absurd (true≢false s)

not-not : (b : Bool) → not (not b) ≡ b
not-not true = refl
not-not false = refl

pub opposite-opposite : (l : Lit) → opposite_of (opposite_of l) ≡ l
opposite-opposite l = same_lit (opposite_of (opposite_of l)) l refl (not-not l.positive)

-- one variable: one literal or the opposite one
pub like : (x y : Lit) → x.variable ≡ y.variable → same_sign x y ≡ true → x ≡ y
like x y v s = same_lit x y v (same_sign-same x.positive y.positive s)

pub unlike : (x y : Lit) → x.variable ≡ y.variable → same_sign x y ≡ false → y ≡ opposite_of x
unlike x y v s = same_lit y (opposite_of x) (sym v) (same_sign-other x.positive y.positive s)

pub rises-has : (n : ℕ) (ls : List Lit) (l : Lit) → RisesFrom n ls → Has ls l → n < l.variable
rises-has n [] l r h = absurd h
rises-has n (x ∷ xs) l r (inl e) = let v : x.variable ≡ l.variable = ap (λ (k : Lit). k.variable) e in omega (arith, r.0, v)
rises-has n (x ∷ xs) l r (inr h) = omega (arith, r.0, rises-has x.variable xs l r.1 h)

-- the join has no other literals than the two clauses
from_at : (x : Lit) (xs : List Lit) (l : Lit) → ((zs : List Lit) → Has (joined xs zs) l → Has xs l ⊎ Has zs l)
    → (ys : List Lit) → Has (joined_at x (joined xs) ys) l → Has (x ∷ xs) l ⊎ Has ys l
from_at x xs l more [] (inl e) = inl (inl e)
from_at x xs l more [] (inr h) = elim (more [] h) [ inl g ↦ inl (inr g) | inr g ↦ absurd g ]
from_at x xs l more (y ∷ ys) h =
    elim (cases_Bool (ltb x.variable y.variable)) [
      | inl e ↦ let h' : (x ≡ l) ⊎ Has (joined xs (y ∷ ys)) l = rw e at h in
          elim h' [ inl g ↦ inl (inl g) | inr g ↦ elim (more (y ∷ ys) g) [ inl k ↦ inl (inr k) | inr k ↦ inr k ] ]
      | inr e ↦ elim (cases_Bool (ltb y.variable x.variable)) [
        | inl f ↦ let h' : (y ≡ l) ⊎ Has (joined_at x (joined xs) ys) l = rw f at (rw e at h) in
            elim h' [ inl g ↦ inr (inl g) | inr g ↦ elim (from_at x xs l more ys g) [ inl k ↦ inl k | inr k ↦ inr (inr k) ] ]
        | inr f ↦ elim (cases_Bool (same_sign x y)) [
          | inl s ↦ let h' : (x ≡ l) ⊎ Has (joined xs ys) l = rw s at (rw f at (rw e at h)) in
              elim h' [ inl g ↦ inl (inl g) | inr g ↦ elim (more ys g) [ inl k ↦ inl (inr k) | inr k ↦ inr (inr k) ] ]
          | inr s ↦ let h' : Has (joined xs ys) l = rw s at (rw f at (rw e at h)) in
              elim (more ys h') [ inl k ↦ inl (inr k) | inr k ↦ inr (inr k) ]
        ]
      ]
    ]

pub from_joined : (xs ys : List Lit) (l : Lit) → Has (joined xs ys) l → Has xs l ⊎ Has ys l
from_joined [] ys l h = inr h
from_joined (x ∷ xs) ys l h = from_at x xs l (λ zs g. from_joined xs zs l g) ys h

-- what doesn't clash stays
left_at : (x : Lit) (xs : List Lit) (l : Lit) → ((zs : List Lit) → Has xs l → (Has zs (opposite_of l) → ⊥) → Has (joined xs zs) l)
    → (ys : List Lit) → Has (x ∷ xs) l → (Has ys (opposite_of l) → ⊥) → Has (joined_at x (joined xs) ys) l
left_at x xs l more [] (inl e) absent = inl e
left_at x xs l more [] (inr h) absent = inr (more [] h absent)
left_at x xs l more (y ∷ ys) h absent =
    elim (cases_Bool (ltb x.variable y.variable)) [
      | inl e ↦ rw e (elim h [ inl g ↦ inl g | inr g ↦ inr (more (y ∷ ys) g absent) ])
      | inr e ↦ rw e (elim (cases_Bool (ltb y.variable x.variable)) [
        | inl f ↦ rw f (inr (left_at x xs l more ys h (λ g. absent (inr g))))
        | inr f ↦ rw f (
            let same : x.variable ≡ y.variable = omega (arith, ltb-false _ _ e, ltb-false _ _ f) in
            elim (cases_Bool (same_sign x y)) [
              | inl s ↦ rw s (elim h [ inl g ↦ inl g | inr g ↦ inr (more ys g (λ k. absent (inr k))) ])
              | inr s ↦ rw s (elim h [
                | inl g ↦ absurd (absent (inl (unlike x y same s ∙ ap opposite_of g)))
                | inr g ↦ more ys g (λ k. absent (inr k))
              ])
            ])
      ])
    ]

pub left_joined : (xs ys : List Lit) (l : Lit) → Has xs l → (Has ys (opposite_of l) → ⊥) → Has (joined xs ys) l
left_joined [] ys l h absent = absurd h
left_joined (x ∷ xs) ys l h absent = left_at x xs l (λ zs g k. left_joined xs zs l g k) ys h absent

right_at : (x : Lit) (xs : List Lit) (l : Lit) → ((zs : List Lit) → (Has xs (opposite_of l) → ⊥) → Has zs l → Has (joined xs zs) l)
    → (ys : List Lit) → (Has (x ∷ xs) (opposite_of l) → ⊥) → Has ys l → Has (joined_at x (joined xs) ys) l
right_at x xs l more [] absent h = absurd h
right_at x xs l more (y ∷ ys) absent h =
    elim (cases_Bool (ltb x.variable y.variable)) [
      | inl e ↦ rw e (inr (more (y ∷ ys) (λ k. absent (inr k)) h))
      | inr e ↦ rw e (elim (cases_Bool (ltb y.variable x.variable)) [
        | inl f ↦ rw f (elim h [ inl g ↦ inl g | inr g ↦ inr (right_at x xs l more ys absent g) ])
        | inr f ↦ rw f (
            let same : x.variable ≡ y.variable = omega (arith, ltb-false _ _ e, ltb-false _ _ f) in
            elim (cases_Bool (same_sign x y)) [
              | inl s ↦ rw s (elim h [ inl g ↦ inl (like x y same s ∙ g) | inr g ↦ inr (more ys (λ k. absent (inr k)) g) ])
              | inr s ↦ rw s (elim h [
                | inl g ↦ absurd (absent (inl (sym (ap opposite_of (unlike x y same s) ∙ opposite-opposite x) ∙ ap opposite_of g)))
                | inr g ↦ more ys (λ k. absent (inr k)) g
              ])
            ])
      ])
    ]

pub right_joined : (xs ys : List Lit) (l : Lit) → (Has xs (opposite_of l) → ⊥) → Has ys l → Has (joined xs ys) l
right_joined [] ys l absent h = h
right_joined (x ∷ xs) ys l absent h = right_at x xs l (λ zs k g. right_joined xs zs l k g) ys absent h

module _ (n : ℕ) (x y k : Lit) (xs ys : List Lit) (p : RisesFrom n (x ∷ xs)) (q : RisesFrom n (y ∷ ys))
    (h : Has (x ∷ xs) k) (g : Has (y ∷ ys) (opposite_of k)) where
  -- the clashing literal occurs further on in the first clause
  later_left : x.variable < y.variable → Has xs k
  later_left lt = elim h [ inr a ↦ a | inl e ↦ absurd (go e g) ]
    where
      go : x ≡ k → Has (y ∷ ys) (opposite_of k) → ⊥
      go e (inl f) = let a : x.variable ≡ k.variable = ap (λ (l : Lit). l.variable) e in let b : y.variable ≡ k.variable = ap (λ (l : Lit). l.variable) f in omega arith
      go e (inr f) = let a : x.variable ≡ k.variable = ap (λ (l : Lit). l.variable) e in let b = rises-has y.variable ys (opposite_of k) q.1 f in omega arith

  later_right : y.variable < x.variable → Has ys (opposite_of k)
  later_right lt = elim g [ inr a ↦ a | inl f ↦ absurd (go f h) ]
    where
      go : y ≡ opposite_of k → Has (x ∷ xs) k → ⊥
      go f (inl e) = let a : x.variable ≡ k.variable = ap (λ (l : Lit). l.variable) e in let b : y.variable ≡ k.variable = ap (λ (l : Lit). l.variable) f in omega arith
      go f (inr e) = let a = rises-has x.variable xs k p.1 e in let b : y.variable ≡ k.variable = ap (λ (l : Lit). l.variable) f in omega arith

  later_both : x.variable ≡ y.variable → (x ≡ k → ⊥) → Has xs k × Has ys (opposite_of k)
  later_both same other = elim h [ inl e ↦ absurd (other e) | inr a ↦ (a, right a) ]
    where
      right : Has xs k → Has ys (opposite_of k)
      right a = elim g [
        | inr b ↦ b
        | inl f ↦ let c = rises-has x.variable xs k p.1 a in let d : y.variable ≡ k.variable = ap (λ (l : Lit). l.variable) f in absurd (omega arith)
      ]

  not_like : x.variable ≡ y.variable → same_sign x y ≡ true → x ≡ k → ⊥
  not_like same s e = go g
    where
      apart : (b : Bool) → b ≡ not b → ⊥
      apart true t = true≢false t
      apart false t = false≢true t

      go : Has (y ∷ ys) (opposite_of k) → ⊥
      go (inl f) =
          let t : x.positive ≡ y.positive = ap (λ (l : Lit). l.positive) (like x y same s) in
          let a : x.positive ≡ k.positive = ap (λ (l : Lit). l.positive) e in
          let b : y.positive ≡ not k.positive = ap (λ (l : Lit). l.positive) f in
          apart k.positive (sym a ∙ (t ∙ b))
      go (inr f) = let a : x.variable ≡ k.variable = ap (λ (l : Lit). l.variable) e in let b = rises-has y.variable ys (opposite_of k) q.1 f in omega arith

-- where nothing clashes the count is 0
none_at : (x : Lit) (xs : List Lit) → ((zs : List Lit) → ((l : Lit) → Has xs l → Has zs (opposite_of l) → ⊥) → clashes xs zs ≡ 0)
    → (ys : List Lit) → ((l : Lit) → Has (x ∷ xs) l → Has ys (opposite_of l) → ⊥) → clashes_at x (clashes xs) ys ≡ 0
none_at x xs more [] apart = more [] (λ l a b. b)
none_at x xs more (y ∷ ys) apart =
    elim (cases_Bool (ltb x.variable y.variable)) [
      | inl e ↦ rw e (more (y ∷ ys) (λ l a b. apart l (inr a) b))
      | inr e ↦ rw e (elim (cases_Bool (ltb y.variable x.variable)) [
        | inl f ↦ rw f (none_at x xs more ys (λ l a b. apart l a (inr b)))
        | inr f ↦ rw f (
            let same : x.variable ≡ y.variable = omega (arith, ltb-false _ _ e, ltb-false _ _ f) in
            elim (cases_Bool (same_sign x y)) [
              | inl s ↦ rw s (more ys (λ l a b. apart l (inr a) (inr b)))
              | inr s ↦ absurd (apart x (inl refl) (inl (unlike x y same s)))
            ])
      ])
    ]

pub none_clash : (xs ys : List Lit) → ((l : Lit) → Has xs l → Has ys (opposite_of l) → ⊥) → clashes xs ys ≡ 0
none_clash [] ys apart = refl
none_clash (x ∷ xs) ys apart = none_at x xs (λ zs h. none_clash xs zs h) ys apart

-- where exactly one literal clashes the count is 1
one_at : (n : ℕ) (x k : Lit) (xs : List Lit) → RisesFrom n (x ∷ xs)
    → ((m : ℕ) (zs : List Lit) → RisesFrom m xs → RisesFrom m zs → Has xs k → Has zs (opposite_of k)
    → ((l : Lit) → Has xs l → Has zs (opposite_of l) → l ≡ k) → clashes xs zs ≡ 1)
    → (ys : List Lit) → RisesFrom n ys → Has (x ∷ xs) k → Has ys (opposite_of k)
    → ((l : Lit) → Has (x ∷ xs) l → Has ys (opposite_of l) → l ≡ k) → clashes_at x (clashes xs) ys ≡ 1
one_at n x k xs p more [] q h g only = absurd g
one_at n x k xs p more (y ∷ ys) q h g only =
    elim (cases_Bool (ltb x.variable y.variable)) [
      | inl e ↦ rw e (more x.variable (y ∷ ys) p.1 (ltb-true _ _ e, q.1) (later_left n x y k xs ys p q h g (ltb-true _ _ e)) g (λ l a b. only l (inr a) b))
      | inr e ↦ rw e (elim (cases_Bool (ltb y.variable x.variable)) [
        | inl f ↦ rw f (one_at n x k xs p more ys (rises-lower n y ys q) h (later_right n x y k xs ys p q h g (ltb-true _ _ f)) (λ l a b. only l a (inr b)))
        | inr f ↦ rw f (
            let same : x.variable ≡ y.variable = omega (arith, ltb-false _ _ e, ltb-false _ _ f) in
            elim (cases_Bool (same_sign x y)) [
              | inl s ↦ rw s (
                  let both = later_both n x y k xs ys p q h g same (not_like n x y k xs ys p q h g same s) in
                  let rises : RisesFrom x.variable ys = rw same q.1 in
                  more x.variable ys p.1 rises both.0 both.1 (λ l a b. only l (inr a) (inr b)))
              | inr s ↦ rw s (
                  let is : x ≡ k = only x (inl refl) (inl (unlike x y same s)) in
                  let none : clashes xs ys ≡ 0 = none_clash xs ys (λ l a b.
                  let at : l.variable ≡ x.variable = ap (λ (m : Lit). m.variable) (only l (inr a) (inr b) ∙ sym is) in
                  let above = rises-has x.variable xs l p.1 a in omega arith) in
                  omega arith)
            ])
      ])
    ]
  where
    rises-lower : (n : ℕ) (y : Lit) (ys : List Lit) → RisesFrom n (y ∷ ys) → RisesFrom n ys
    rises-lower n y [] q = tt
    rises-lower n y (z ∷ zs) q = (omega (arith, q.0, q.1.0), q.1.1)

pub one_clash : (n : ℕ) (k : Lit) (xs ys : List Lit) → RisesFrom n xs → RisesFrom n ys → Has xs k → Has ys (opposite_of k)
    → ((l : Lit) → Has xs l → Has ys (opposite_of l) → l ≡ k) → clashes xs ys ≡ 1
one_clash n k [] ys p q h g only = absurd h
one_clash n k (x ∷ xs) ys p q h g only = one_at n x k xs p (λ m zs a b c d e. one_clash m k xs zs a b c d e) ys q h g only

-- a clashing variable does not occur in the join
gone_at : (n : ℕ) (x k l : Lit) (xs : List Lit) → RisesFrom n (x ∷ xs)
    → ((m : ℕ) (zs : List Lit) → RisesFrom m xs → RisesFrom m zs → Has xs k → Has zs (opposite_of k) → Has (joined xs zs) l → l.variable ≡ k.variable → ⊥)
    → (ys : List Lit) → RisesFrom n ys → Has (x ∷ xs) k → Has ys (opposite_of k) → Has (joined_at x (joined xs) ys) l → l.variable ≡ k.variable → ⊥
gone_at n x k l xs p more [] q h g j v = absurd g
gone_at n x k l xs p more (y ∷ ys) q h g j v =
    elim (cases_Bool (ltb x.variable y.variable)) [
      | inl e ↦
          let j' : (x ≡ l) ⊎ Has (joined xs (y ∷ ys)) l = rw e at j in
          let on = later_left n x y k xs ys p q h g (ltb-true _ _ e) in
          elim j' [
            | inl a ↦ let b : x.variable ≡ l.variable = ap (λ (m : Lit). m.variable) a in let above = rises-has x.variable xs k p.1 on in omega arith
            | inr a ↦ more x.variable (y ∷ ys) p.1 (ltb-true _ _ e, q.1) on g a v
          ]
      | inr e ↦ elim (cases_Bool (ltb y.variable x.variable)) [
        | inl f ↦
            let j' : (y ≡ l) ⊎ Has (joined_at x (joined xs) ys) l = rw f at (rw e at j) in
            let on = later_right n x y k xs ys p q h g (ltb-true _ _ f) in
            elim j' [
              | inl a ↦ let b : y.variable ≡ l.variable = ap (λ (m : Lit). m.variable) a in let above = rises-has y.variable ys (opposite_of k) q.1 on in omega arith
              | inr a ↦ gone_at n x k l xs p more ys (lower n y ys q) h on a v
            ]
        | inr f ↦
            let same : x.variable ≡ y.variable = omega (arith, ltb-false _ _ e, ltb-false _ _ f) in
            let rises : RisesFrom x.variable ys = rw same q.1 in
            elim (cases_Bool (same_sign x y)) [
              | inl s ↦
                  let j' : (x ≡ l) ⊎ Has (joined xs ys) l = rw s at (rw f at (rw e at j)) in
                  let both = later_both n x y k xs ys p q h g same (not_like n x y k xs ys p q h g same s) in
                  elim j' [
                    | inl a ↦ let b : x.variable ≡ l.variable = ap (λ (m : Lit). m.variable) a in let above = rises-has x.variable xs k p.1 both.0 in omega arith
                    | inr a ↦ more x.variable ys p.1 rises both.0 both.1 a v
                  ]
              | inr s ↦
                  let j' : Has (joined xs ys) l = rw s at (rw f at (rw e at j)) in
                  elim h [
                    | inl a ↦
                        let b : x.variable ≡ k.variable = ap (λ (m : Lit). m.variable) a in
                        elim (from_joined xs ys l j') [
                          | inl c ↦ let above = rises-has x.variable xs l p.1 c in omega arith
                          | inr c ↦ let above = rises-has y.variable ys l q.1 c in omega arith
                        ]
                    | inr a ↦
                        let above = rises-has x.variable xs k p.1 a in
                        elim g [
                          | inl c ↦ let d : y.variable ≡ k.variable = ap (λ (m : Lit). m.variable) c in omega arith
                          | inr c ↦ more x.variable ys p.1 rises a c j' v
                        ]
                  ]
            ]
      ]
    ]
  where
    lower : (n : ℕ) (y : Lit) (ys : List Lit) → RisesFrom n (y ∷ ys) → RisesFrom n ys
    lower n y [] q = tt
    lower n y (z ∷ zs) q = (omega (arith, q.0, q.1.0), q.1.1)

pub gone_joined : (n : ℕ) (k l : Lit) (xs ys : List Lit) → RisesFrom n xs → RisesFrom n ys → Has xs k → Has ys (opposite_of k)
    → Has (joined xs ys) l → l.variable ≡ k.variable → ⊥
gone_joined n k l [] ys p q h g j v = absurd h
gone_joined n k l (x ∷ xs) ys p q h g j v = gone_at n x k l xs p (λ m zs a b c d e f. gone_joined m k l xs zs a b c d e f) ys q h g j v

lower : (n : ℕ) (y : Lit) (ys : List Lit) → RisesFrom n (y ∷ ys) → RisesFrom n ys
lower n y [] q = tt
lower n y (z ∷ zs) q = (omega (arith, q.0, q.1.0), q.1.1)

-- where the count is 0 nothing clashes
zero_at : (n : ℕ) (x k : Lit) (xs : List Lit) → RisesFrom n (x ∷ xs)
    → ((m : ℕ) (zs : List Lit) → RisesFrom m xs → RisesFrom m zs → Has xs k → Has zs (opposite_of k) → clashes xs zs ≡ 0 → ⊥)
    → (ys : List Lit) → RisesFrom n ys → Has (x ∷ xs) k → Has ys (opposite_of k) → clashes_at x (clashes xs) ys ≡ 0 → ⊥
zero_at n x k xs p more [] q h g none = g
zero_at n x k xs p more (y ∷ ys) q h g none =
    elim (cases_Bool (ltb x.variable y.variable)) [
      | inl e ↦ more x.variable (y ∷ ys) p.1 (ltb-true _ _ e, q.1) (later_left n x y k xs ys p q h g (ltb-true _ _ e)) g (rw e at none)
      | inr e ↦ elim (cases_Bool (ltb y.variable x.variable)) [
        | inl f ↦ zero_at n x k xs p more ys (lower n y ys q) h (later_right n x y k xs ys p q h g (ltb-true _ _ f)) (rw f at (rw e at none))
        | inr f ↦
            let same : x.variable ≡ y.variable = omega (arith, ltb-false _ _ e, ltb-false _ _ f) in
            let rises : RisesFrom x.variable ys = rw same q.1 in
            elim (cases_Bool (same_sign x y)) [
              | inl s ↦
                  let both = later_both n x y k xs ys p q h g same (not_like n x y k xs ys p q h g same s) in
                  more x.variable ys p.1 rises both.0 both.1 (rw s at (rw f at (rw e at none)))
              | inr s ↦ let some : 1 + clashes xs ys ≡ 0 = rw s at (rw f at (rw e at none)) in omega arith
            ]
      ]
    ]

pub zero_clash : (n : ℕ) (k : Lit) (xs ys : List Lit) → RisesFrom n xs → RisesFrom n ys → Has xs k → Has ys (opposite_of k) → clashes xs ys ≡ 0 → ⊥
zero_clash n k [] ys p q h g none = h
zero_clash n k (x ∷ xs) ys p q h g none = zero_at n x k xs p (λ m zs a b c d e. zero_clash m k xs zs a b c d e) ys q h g none

-- where it is 1 exactly one literal clashes
only_at : (n : ℕ) (x k l : Lit) (xs : List Lit) → RisesFrom n (x ∷ xs)
    → ((m : ℕ) (zs : List Lit) → RisesFrom m xs → RisesFrom m zs → Has xs k → Has zs (opposite_of k) → Has xs l → Has zs (opposite_of l) → clashes xs zs ≡ 1 → l ≡ k)
    → (ys : List Lit) → RisesFrom n ys → Has (x ∷ xs) k → Has ys (opposite_of k) → Has (x ∷ xs) l → Has ys (opposite_of l) → clashes_at x (clashes xs) ys ≡ 1 → l ≡ k
only_at n x k l xs p more [] q h g i j one = absurd g
only_at n x k l xs p more (y ∷ ys) q h g i j one =
    elim (cases_Bool (ltb x.variable y.variable)) [
      | inl e ↦ more x.variable (y ∷ ys) p.1 (ltb-true _ _ e, q.1) (later_left n x y k xs ys p q h g (ltb-true _ _ e)) g
          (later_left n x y l xs ys p q i j (ltb-true _ _ e)) j (rw e at one)
      | inr e ↦ elim (cases_Bool (ltb y.variable x.variable)) [
        | inl f ↦ only_at n x k l xs p more ys (lower n y ys q) h (later_right n x y k xs ys p q h g (ltb-true _ _ f)) i
            (later_right n x y l xs ys p q i j (ltb-true _ _ f)) (rw f at (rw e at one))
        | inr f ↦
            let same : x.variable ≡ y.variable = omega (arith, ltb-false _ _ e, ltb-false _ _ f) in
            let rises : RisesFrom x.variable ys = rw same q.1 in
            elim (cases_Bool (same_sign x y)) [
              | inl s ↦
                  let a = later_both n x y k xs ys p q h g same (not_like n x y k xs ys p q h g same s) in
                  let b = later_both n x y l xs ys p q i j same (not_like n x y l xs ys p q i j same s) in
                  more x.variable ys p.1 rises a.0 a.1 b.0 b.1 (rw s at (rw f at (rw e at one)))
              | inr s ↦
                  let count : 1 + clashes xs ys ≡ 1 = rw s at (rw f at (rw e at one)) in
                  let none : clashes xs ys ≡ 0 = omega arith in
                  sym (here same rises none l i j) ∙ here same rises none k h g
            ]
      ]
    ]
  where
    here : x.variable ≡ y.variable → RisesFrom x.variable ys → clashes xs ys ≡ 0 → (m : Lit) → Has (x ∷ xs) m → Has (y ∷ ys) (opposite_of m) → x ≡ m
    here same rises none m a b = elim a [
      | inl c ↦ c
      | inr c ↦
          let above = rises-has x.variable xs m p.1 c in
          let both = later_both n x y m xs ys p q (inr c) b same (λ e. let v : x.variable ≡ m.variable = ap (λ (z : Lit). z.variable) e in omega arith) in
          absurd (zero_clash x.variable m xs ys p.1 rises both.0 both.1 none)
    ]

pub only_clash : (n : ℕ) (k l : Lit) (xs ys : List Lit) → RisesFrom n xs → RisesFrom n ys → Has xs k → Has ys (opposite_of k) → Has xs l → Has ys (opposite_of l)
    → clashes xs ys ≡ 1 → l ≡ k
only_clash n k l [] ys p q h g i j one = absurd h
only_clash n k l (x ∷ xs) ys p q h g i j one = only_at n x k l xs p (λ m zs a b c d e f r. only_clash m k l xs zs a b c d e f r) ys q h g i j one

-- where it isn't 0 some literal clashes
some_at : (x : Lit) (xs : List Lit) → ((zs : List Lit) → (clashes xs zs ≡ 0 → ⊥) → (k : Lit) × Has xs k × Has zs (opposite_of k))
    → (ys : List Lit) → (clashes_at x (clashes xs) ys ≡ 0 → ⊥) → (k : Lit) × Has (x ∷ xs) k × Has ys (opposite_of k)
some_at x xs more [] some = left [] (more [] some)
  where
    left : (zs : List Lit) → ((k : Lit) × Has xs k × Has zs (opposite_of k)) → (k : Lit) × Has (x ∷ xs) k × Has zs (opposite_of k)
    left zs (k, a, b) = (k, inr a, b)
some_at x xs more (y ∷ ys) some =
    elim (cases_Bool (ltb x.variable y.variable)) [
      | inl e ↦ left (y ∷ ys) (more (y ∷ ys) (rw e at some))
      | inr e ↦ elim (cases_Bool (ltb y.variable x.variable)) [
        | inl f ↦ right (some_at x xs more ys (rw f at (rw e at some)))
        | inr f ↦
            let same : x.variable ≡ y.variable = omega (arith, ltb-false _ _ e, ltb-false _ _ f) in
            elim (cases_Bool (same_sign x y)) [
              | inl s ↦ both (more ys (rw s at (rw f at (rw e at some))))
              | inr s ↦ (x, inl refl, inl (unlike x y same s))
            ]
      ]
    ]
  where
    left : (zs : List Lit) → ((k : Lit) × Has xs k × Has zs (opposite_of k)) → (k : Lit) × Has (x ∷ xs) k × Has zs (opposite_of k)
    left zs (k, a, b) = (k, inr a, b)

    right : ((k : Lit) × Has (x ∷ xs) k × Has ys (opposite_of k)) → (k : Lit) × Has (x ∷ xs) k × Has (y ∷ ys) (opposite_of k)
    right (k, a, b) = (k, a, inr b)

    both : ((k : Lit) × Has xs k × Has ys (opposite_of k)) → (k : Lit) × Has (x ∷ xs) k × Has (y ∷ ys) (opposite_of k)
    both (k, a, b) = (k, inr a, inr b)

pub some_clash : (xs ys : List Lit) → (clashes xs ys ≡ 0 → ⊥) → (k : Lit) × Has xs k × Has ys (opposite_of k)
some_clash [] ys some = absurd (some refl)
some_clash (x ∷ xs) ys some = some_at x xs (λ zs h. some_clash xs zs h) ys some

-- clauses of the same literals are the same
pub same_members : (n : ℕ) (xs ys : List Lit) → RisesFrom n xs → RisesFrom n ys → ((l : Lit) → Has xs l → Has ys l) → ((l : Lit) → Has ys l → Has xs l) → xs ≡ ys
same_members n [] [] p q f g = refl
same_members n [] (y ∷ ys) p q f g = absurd (g y (inl refl))
same_members n (x ∷ xs) [] p q f g = absurd (f x (inl refl))
same_members n (x ∷ xs) (y ∷ ys) p q f g =
    ap (λ z. z ∷ xs) first ∙ ap (λ zs. y ∷ zs) (same_members x.variable xs ys p.1 (rw v q.1) left right)
  where
    first : x ≡ y
    first = elim (f x (inl refl)) [
      | inl e ↦ sym e
      | inr a ↦ elim (g y (inl refl)) [
        | inl e ↦ e
        | inr b ↦ let c = rises-has y.variable ys x q.1 a in let d = rises-has x.variable xs y p.1 b in absurd (omega arith)
      ]
    ]

    v : x.variable ≡ y.variable
    v = ap (λ (z : Lit). z.variable) first

    left : (l : Lit) → Has xs l → Has ys l
    left l a = elim (f l (inr a)) [
      | inr b ↦ b
      | inl e ↦ let c = rises-has x.variable xs l p.1 a in let w : y.variable ≡ l.variable = ap (λ (z : Lit). z.variable) e in absurd (omega (arith, c, w, v))
    ]

    right : (l : Lit) → Has ys l → Has xs l
    right l a = elim (g l (inr a)) [
      | inr b ↦ b
      | inl e ↦ let c = rises-has y.variable ys l q.1 a in let w : x.variable ≡ l.variable = ap (λ (z : Lit). z.variable) e in absurd (omega (arith, c, w, v))
    ]
