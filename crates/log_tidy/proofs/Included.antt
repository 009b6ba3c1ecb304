-- A merge finds each literal of one clause in another where that one has them.
use Rattle.log_tidy.proofs.Common.{ℕ, ◌≡◌, inl, inr, Bool, true, false, cond, List, [], ◌∷◌, ltb, arith, sym, ap, subst, refl, ◌∙◌, IsTrue, ◌↔◌, ltb-true, ltb-false, cases_Bool, false≢true, Lit, IsClause, RisesFrom, Has, rises-has, ContainsClause, included, included_at}
use Rattle.clause_search.specs.Trail.{literal_eq}
use Rattle.clause_search.proofs.Seeing.{literal_eq-refl, literal_eq-true}

at-less : (x y : Lit) (rest : List Lit → Bool) (ys : List Lit) → ltb y.variable x.variable ≡ true → included_at x rest (y ∷ ys) ≡ included_at x rest ys
at-less x y rest ys e = ap (λ b. cond b (included_at x rest ys) (cond (literal_eq x y) (rest ys) false)) e

at-same : (x y : Lit) (rest : List Lit → Bool) (ys : List Lit) → ltb y.variable x.variable ≡ false → literal_eq x y ≡ true → included_at x rest (y ∷ ys) ≡ rest ys
at-same x y rest ys e g =
    ap (λ b. cond b (included_at x rest ys) (cond (literal_eq x y) (rest ys) false)) e ∙ ap (λ b. cond b (rest ys) false) g

at-other : (x y : Lit) (rest : List Lit → Bool) (ys : List Lit) → ltb y.variable x.variable ≡ false → literal_eq x y ≡ false → included_at x rest (y ∷ ys) ≡ false
at-other x y rest ys e g =
    ap (λ b. cond b (included_at x rest ys) (cond (literal_eq x y) (rest ys) false)) e ∙ ap (λ b. cond b (rest ys) false) g

from_at : (x : Lit) (xs : List Lit) → ((zs : List Lit) → included xs zs ≡ true → (l : Lit) → Has xs l → Has zs l)
    → (ys : List Lit) → included_at x (included xs) ys ≡ true → (l : Lit) → Has (x ∷ xs) l → Has ys l
from_at x xs more [] t l h = absurd (false≢true t)
from_at x xs more (y ∷ ys) t l h = elim (cases_Bool (ltb y.variable x.variable)) [
  | inl e ↦ inr (from_at x xs more ys (sym (at-less x y (included xs) ys e) ∙ t) l h)
  | inr e ↦ elim (cases_Bool (literal_eq x y)) [
    | inl g ↦ elim h [
      | inl same ↦ inl (sym (literal_eq-true x y g) ∙ same)
      | inr k ↦ inr (more ys (sym (at-same x y (included xs) ys e g) ∙ t) l k)
    ]
    | inr g ↦ absurd (false≢true (sym (at-other x y (included xs) ys e g) ∙ t))
  ]
]

pub included-contains : (xs ys : List Lit) → included xs ys ≡ true → ContainsClause ys xs
included-contains [] ys t l h = absurd h
included-contains (x ∷ xs) ys t l h = from_at x xs (λ zs s m g. included-contains xs zs s m g) ys t l h

to_at : (x : Lit) (xs : List Lit) → ((m : ℕ) (zs : List Lit) → RisesFrom m xs → RisesFrom m zs → ContainsClause zs xs → included xs zs ≡ true)
    → (n : ℕ) (ys : List Lit) → RisesFrom n (x ∷ xs) → RisesFrom n ys → ContainsClause ys (x ∷ xs) → included_at x (included xs) ys ≡ true
to_at x xs more n [] p q c = absurd (c x (inl refl))
to_at x xs more n (y ∷ ys) p q c = elim (cases_Bool (ltb y.variable x.variable)) [
  | inl e ↦
      let below = ltb-true y.variable x.variable e in
      at-less x y (included xs) ys e
      ∙ to_at x xs more y.variable ys (below, p.1) q.1
      (λ l h. elim (c l h) [
        | inl same ↦ absurd (omega (arith, below, ap (λ (k : Lit). k.variable) same, rises-has y.variable (x ∷ xs) l (below, p.1) h))
        | inr g ↦ g
      ])
  | inr e ↦ elim (c x (inl refl)) [
    | inl same ↦
        at-same x y (included xs) ys e (literal_eq-refl x y (sym same))
        ∙ more x.variable ys p.1 (subst (λ (k : Lit). RisesFrom k.variable ys) same q.1)
        (λ l h. elim (c l (inr h)) [
          | inl other ↦ absurd (omega (arith, ap (λ (k : Lit). k.variable) same, ap (λ (k : Lit). k.variable) other, rises-has x.variable xs l p.1 h))
          | inr g ↦ g
        ])
    | inr g ↦ absurd (omega (arith, ltb-false y.variable x.variable e, rises-has y.variable ys x q.1 g))
  ]
]

pub contains-included : (n : ℕ) (xs ys : List Lit) → RisesFrom n xs → RisesFrom n ys → ContainsClause ys xs → included xs ys ≡ true
contains-included n [] ys p q c = refl
contains-included n (x ∷ xs) ys p q c = to_at x xs (λ m zs a b d. contains-included m xs zs a b d) n ys p q c

pub includes-from : (whole part : List Lit) (b : Bool) → IsClause whole → IsClause part → b ≡ included part whole → IsTrue b ↔ ContainsClause whole part
includes-from whole part b p q is = (λ t. included-contains part whole (sym is ∙ t), λ c. is ∙ contains-included 0 part whole q p c)
