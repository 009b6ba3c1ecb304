-- What a look along a clause shows.
use Rattle.clause_search.proofs.Common.{ℕ, ◌≡◌, ◌<◌, ◌≤◌, ◌+◌, inl, inr, Bool, true, false, cond, List, [], ◌∷◌, Option, Some, None, nat_eq, get_or, drop, length, add-one, arith, sym, ap, subst, refl, ◌∙◌, drop-cons, list_any, cases_Bool, or_cases, or_left, or_right, and_parts, and_from, eqb-true, eq-eqb, false≢true, Has, Lit, RisesFrom, opposite_of, same_sign, like, unlike, opposite-opposite, Entry, Stands, IsFalse, IsUnassigned, IsConsistent, AllFalse, literal_eq, IsOpen, IsUnit, IsSeen}

sign-self : (p : Bool) → cond p p (cond p false true) ≡ true
sign-self true = refl
sign-self false = refl

pub literal_eq-true : (a b : Lit) → literal_eq a b ≡ true → a ≡ b
literal_eq-true a b h =
    let parts = and_parts (nat_eq a.variable b.variable) (same_sign a b) h in
    like a b (eqb-true a.variable b.variable parts.0) parts.1

pub literal_eq-refl : (a b : Lit) → a ≡ b → literal_eq a b ≡ true
literal_eq-refl a b e = subst (λ (x : Lit). literal_eq a x ≡ true) e
    (and_from (nat_eq a.variable a.variable) (same_sign a a) (eq-eqb a.variable a.variable refl) (sign-self a.positive))

-- where neither a literal nor its opposite is true the variable isn't assigned
pub unassigned-from : (trail : List Entry) (k : Lit) → (Stands trail k → ⊥) → (IsFalse trail k → ⊥) → IsUnassigned trail k.variable
unassigned-from trail k a b l s v = elim (cases_Bool (same_sign l k)) [
  | inl h ↦ a (subst (λ (x : Lit). Stands trail x) (like l k v h) s)
  | inr h ↦
      let e : k ≡ opposite_of l = unlike l k v h in
      let f : l ≡ opposite_of k = sym (opposite-opposite l) ∙ ap opposite_of (sym e) in
      b (subst (λ (x : Lit). Stands trail x) f s)
]

module _ (trail : List Entry) (c : List Lit) where
  pub IsSeen-start : RisesFrom 0 c → IsSeen trail c c None
  IsSeen-start r = ((λ l h. h), r, (λ l h. inr h))

  pub has-here : (x : Lit) (rest : List Lit) (o : Option Lit) → IsSeen trail c (x ∷ rest) o → Has c x
  has-here x rest None s = s.0 x (inl refl)
  has-here x rest (Some k) s = s.0 x (inl refl)

  -- a true literal settles the clause
  pub open-true : (x : Lit) → IsConsistent trail → Has c x → Stands trail x → IsOpen trail c
  open-true x con h s k but = elim (but x h) [ inl e ↦ subst (λ (l : Lit). Stands trail l) e s | inr f ↦ absurd (con x s f) ]

  -- so do two that aren't assigned
  pub open-two : (x k : Lit) (rest : List Lit) → IsSeen trail c (x ∷ rest) (Some k) → (IsFalse trail x → ⊥) → IsOpen trail c
  open-two x k rest s free j but =
      elim (but x (s.0 x (inl refl))) [
        | inr f ↦ absurd (free f)
        | inl e ↦ elim (but k s.3) [
          | inr f ↦ absurd (s.5 f)
          | inl g ↦
              let v : x.variable ≡ k.variable = ap (λ (l : Lit). l.variable) (e ∙ sym g) in
              absurd (omega (arith, s.1.0, v))
        ]
      ]

  lower : (n m : ℕ) (ls : List Lit) → n ≤ m → RisesFrom m ls → RisesFrom n ls
  lower n m [] h r = tt
  lower n m (l ∷ ls) h r = ((omega (arith, r.0)), r.1)

  -- a false literal
  pub seen-false : (x : Lit) (rest : List Lit) (o : Option Lit) → IsSeen trail c (x ∷ rest) o → IsFalse trail x → IsSeen trail c rest o
  seen-false x rest None s f = (
    (λ l h. s.0 l (inr h)),
    lower 0 x.variable rest (omega arith) s.1.1,
    (λ l h. elim (s.2 l h) [
      | inl g ↦ inl g
      | inr g ↦ elim g [ inl e ↦ inl (subst (λ (y : Lit). IsFalse trail y) e f) | inr k ↦ inr k ]
    ]),
  )
  seen-false x rest (Some k) s f = (
    (λ l h. s.0 l (inr h)),
    lower k.variable x.variable rest (omega (arith, s.1.0)) s.1.1,
    (λ l h. elim (s.2 l h) [
      | inl g ↦ inl g
      | inr g ↦ elim g [
        | inl j ↦ inr (inl j)
        | inr j ↦ elim j [ inl e ↦ inr (inl (subst (λ (y : Lit). IsFalse trail y) e f)) | inr k ↦ inr (inr k) ]
      ]
    ]),
    s.3,
    s.4,
    s.5,
  )

  -- the first literal that isn't assigned
  pub seen-free : (x : Lit) (rest : List Lit) → IsSeen trail c (x ∷ rest) None → (Stands trail x → ⊥) → (IsFalse trail x → ⊥) → IsSeen trail c rest (Some x)
  seen-free x rest s a b = (
    (λ l h. s.0 l (inr h)),
    s.1.1,
    (λ l h. elim (s.2 l h) [
      | inl g ↦ inr (inl g)
      | inr g ↦ elim g [ inl e ↦ inl (sym e) | inr k ↦ inr (inr k) ]
    ]),
    s.0 x (inl refl),
    a,
    b,
  )

  pub seen-unit : (k : Lit) → IsSeen trail c [] (Some k) → IsUnit trail c k
  seen-unit k s = record {
    has = s.3;
    others = λ l h. elim (s.2 l h) [ inl g ↦ inl g | inr g ↦ elim g [ inl j ↦ inr j | inr j ↦ absurd j ] ];
    free = unassigned-from trail k s.4 s.5;
  }

  pub seen-all : IsSeen trail c [] None → AllFalse trail c
  seen-all s = λ l h. elim (s.2 l h) [ inl g ↦ g | inr g ↦ absurd g ]

  -- the same by indices
  pub seen-at : (ls : List Lit) (i : ℕ) (d : Lit) (o : Option Lit) → i < length ls → IsSeen trail c (drop i ls) o → IsSeen trail c (get_or ls i d ∷ drop (i + 1) ls) o
  seen-at ls i d o lt s =
      let e : drop i ls ≡ get_or ls i d ∷ drop (i + 1) ls = drop-cons ls i d lt ∙ ap (λ k. get_or ls i d ∷ drop k ls) (sym (add-one i)) in
      subst (λ (zs : List Lit). IsSeen trail c zs o) e s

pub among-has : (ls : List Lit) (l : Lit) → list_any (λ k. literal_eq k l) ls ≡ true → Has ls l
among-has [] l h = absurd (false≢true h)
among-has (x ∷ xs) l h = elim (or_cases (literal_eq x l) (list_any (λ k. literal_eq k l) xs) h) [
  | inl a ↦ inl (literal_eq-true x l a)
  | inr a ↦ inr (among-has xs l a)
]

pub has-among : (ls : List Lit) (l : Lit) → Has ls l → list_any (λ k. literal_eq k l) ls ≡ true
has-among [] l h = absurd h
has-among (x ∷ xs) l (inl a) = or_left (literal_eq x l) (list_any (λ k. literal_eq k l) xs) (literal_eq-refl x l a)
has-among (x ∷ xs) l (inr a) = or_right (literal_eq x l) (list_any (λ k. literal_eq k l) xs) (has-among xs l a)
