-- What marks show of a clause that is joined to them.
use Rattle.clause_log.proofs.Common.{ℕ, ◌≡◌, ◌<◌, ◌⊎◌, inl, inr, Bool, true, false, not, cond, List, [], ◌∷◌, Option, Some, None, arith, sym, ap, subst, refl, ◌∙◌, cases_Bool, cases_eq, false≢true, true≢false, Lit, RisesFrom, IsClause, opposite_of, Has, joined, clashes, AreSigns}
use Rattle.clause_log.proofs.Membership.{same_lit, opposite-opposite, rises-has, from_joined, left_joined, right_joined, gone_joined, none_clash, one_clash, zero_clash, only_clash}
use Rattle.clause_log.proofs.Walking.{alike, met, clash, changed, walked, clashing, changed-same, changed-other}

-- no literal of them has the variable
abbrev pub Lacks : List Lit → ℕ → Type 0
Lacks ls v = (l : Lit) → Has ls l → l.variable ≡ v → ⊥

pub variable-cases : (ls : List Lit) (v : ℕ) → ((l : Lit) × Has ls l × (l.variable ≡ v)) ⊎ Lacks ls v
variable-cases [] v = inr (λ l h e. h)
variable-cases (x ∷ xs) v = elim (cases_eq x.variable v) [
  | inl e ↦ inl (x, inl refl, e)
  | inr other ↦ elim (variable-cases xs v) [
    | inl it ↦ inl (it.0, inr it.1, it.2)
    | inr lacks ↦ inr (λ l h e. elim h [ inl is ↦ other (ap (λ (m : Lit). m.variable) is ∙ e) | inr g ↦ lacks l g e ])
  ]
]

-- the variables that come later are others
pub later-lacks : (n : ℕ) (x : Lit) (xs : List Lit) → RisesFrom n (x ∷ xs) → Lacks xs x.variable
later-lacks n x xs r l h e = let above = rises-has x.variable xs l r.1 h in omega (arith, above, e)

-- a variable has one literal in a clause
one-literal : (n : ℕ) (ls : List Lit) (a b : Lit) → RisesFrom n ls → Has ls a → Has ls b → a.variable ≡ b.variable → a ≡ b
one-literal n [] a b r h g e = absurd h
one-literal n (x ∷ xs) a b r (inl h) (inl g) e = sym h ∙ g
one-literal n (x ∷ xs) a b r (inl h) (inr g) e = absurd (later-lacks n x xs r b g (sym e ∙ sym (ap (λ (m : Lit). m.variable) h)))
one-literal n (x ∷ xs) a b r (inr h) (inl g) e = absurd (later-lacks n x xs r a h (e ∙ sym (ap (λ (m : Lit). m.variable) g)))
one-literal n (x ∷ xs) a b r (inr h) (inr g) e = one-literal x.variable xs a b r.1 h g e

-- ---- one sign and another

alike-same : (p q : Bool) → alike p q ≡ true → p ≡ q
alike-same true true s = refl
alike-same true false s = absurd (false≢true s)
alike-same false true s = absurd (false≢true s)
alike-same false false s = refl

alike-other : (p q : Bool) → alike p q ≡ false → p ≡ not q
alike-other true true s = absurd (true≢false s)
alike-other true false s = refl
alike-other false true s = refl
alike-other false false s = absurd (true≢false s)

not-other : (p : Bool) → p ≡ not p → ⊥
not-other true e = true≢false e
not-other false e = false≢true e

some-same : (p q : Bool) → Some p ≡ Some q → p ≡ q
some-same p q e = cc

clash-none : (m : Option Bool) (s : Bool) → clash m s ≡ 0 → m ≡ Some (not s) → ⊥
clash-none None s z e = cc
clash-none (Some true) true z e = true≢false (some-same true false e)
clash-none (Some true) false z e = omega (arith, z)
clash-none (Some false) true z e = omega (arith, z)
clash-none (Some false) false z e = false≢true (some-same false true e)

clash-some : (m : Option Bool) (s : Bool) → (clash m s ≡ 0) ⊎ ((clash m s ≡ 1) × (m ≡ Some (not s)))
clash-some None s = inl refl
clash-some (Some true) true = inl refl
clash-some (Some true) false = inr (refl, refl)
clash-some (Some false) true = inr (refl, refl)
clash-some (Some false) false = inl refl

-- ---- the marks after a clause

walked-other : (signs : ℕ → Option Bool) (ys : List Lit) (v : ℕ) → Lacks ys v → walked signs ys v ≡ signs v
walked-other signs [] v lacks = refl
walked-other signs (y ∷ ys) v lacks =
    walked-other (changed signs y.variable (met (signs y.variable) y.positive)) ys v (λ l h e. lacks l (inr h) e)
    ∙ changed-other signs y.variable v _ (λ e. lacks y (inl refl) (sym e))

-- another variable's mark
aside : (n : ℕ) (signs : ℕ → Option Bool) (x y : Lit) (xs : List Lit) (m : Option Bool) → RisesFrom n (x ∷ xs) → Has xs y
    → changed signs x.variable m y.variable ≡ signs y.variable
aside n signs x y xs m r h = changed-other signs x.variable y.variable m (λ e. later-lacks n x xs r y h e)

walked-at : (n : ℕ) (signs : ℕ → Option Bool) (ys : List Lit) (y : Lit) → RisesFrom n ys → Has ys y
    → walked signs ys y.variable ≡ met (signs y.variable) y.positive
walked-at n signs [] y r h = absurd h
walked-at n signs (x ∷ xs) y r (inl e) =
    let m = met (signs x.variable) x.positive in
    subst (λ (z : Lit). walked signs (x ∷ xs) z.variable ≡ met (signs z.variable) z.positive) e
    (walked-other (changed signs x.variable m) xs x.variable (later-lacks n x xs r) ∙ changed-same signs x.variable m)
walked-at n signs (x ∷ xs) y r (inr h) =
    let m = met (signs x.variable) x.positive in
    walked-at x.variable (changed signs x.variable m) xs y r.1 h
    ∙ ap (λ k. met k y.positive) (aside n signs x y xs m r h)

-- ---- how many clash

clashing-none : (n : ℕ) (signs : ℕ → Option Bool) (ys : List Lit) → RisesFrom n ys → clashing signs ys ≡ 0
    → (y : Lit) → Has ys y → signs y.variable ≡ Some (not y.positive) → ⊥
clashing-none n signs [] r none y h e = h
clashing-none n signs (x ∷ xs) r none y (inl is) e =
    let here : clash (signs x.variable) x.positive ≡ 0 = omega (arith, none) in
    clash-none _ x.positive here (subst (λ (z : Lit). signs z.variable ≡ Some (not z.positive)) (sym is) e)
clashing-none n signs (x ∷ xs) r none y (inr h) e =
    let m = met (signs x.variable) x.positive in
    let rest : clashing (changed signs x.variable m) xs ≡ 0 = omega (arith, none) in
    clashing-none x.variable (changed signs x.variable m) xs r.1 rest y h (aside n signs x y xs m r h ∙ e)

-- one literal clashes, and no other
pub record Clashes (signs : ℕ → Option Bool) (ys : List Lit) : Type 0 where
  pub literal : Lit
  pub has : Has ys literal
  pub marked : signs literal.variable ≡ Some (not literal.positive)
  pub only : (y : Lit) → Has ys y → signs y.variable ≡ Some (not y.positive) → y ≡ literal

clashing-one : (n : ℕ) (signs : ℕ → Option Bool) (ys : List Lit) → RisesFrom n ys → clashing signs ys ≡ 1 → Clashes signs ys
clashing-one n signs [] r one = absurd (omega (arith, one))
clashing-one n signs (x ∷ xs) r one = elim (clash-some (signs x.variable) x.positive) [
  | inl none ↦ later (clashing-one x.variable next xs r.1 (omega (arith, one, none))) none
  | inr some ↦ record {
    literal = x;
    has = inl refl;
    marked = some.1;
    only = λ y h e. elim h [
      | inl is ↦ sym is
      | inr g ↦ absurd (clashing-none x.variable next xs r.1 (omega (arith, one, some.0)) y g (aside n signs x y xs m r g ∙ e))
    ];
  }
]
  where
    m : Option Bool
    m = met (signs x.variable) x.positive

    next : ℕ → Option Bool
    next = changed signs x.variable m

    later : Clashes next xs → clash (signs x.variable) x.positive ≡ 0 → Clashes signs (x ∷ xs)
    later k none = record {
      literal = k.literal;
      has = inr k.has;
      marked = sym (aside n signs x k.literal xs m r k.has) ∙ k.marked;
      only = λ y h e. elim h [
        | inl is ↦ absurd (clash-none _ x.positive none (subst (λ (z : Lit). signs z.variable ≡ Some (not z.positive)) (sym is) e))
        | inr g ↦ k.only y g (aside n signs x y xs m r g ∙ e)
      ];
    }

-- where some clash there is one that does
clashing-some : (n : ℕ) (signs : ℕ → Option Bool) (ys : List Lit) → RisesFrom n ys → 0 < clashing signs ys
    → (y : Lit) × Has ys y × (signs y.variable ≡ Some (not y.positive))
clashing-some n signs [] r some = absurd (omega (arith, some))
clashing-some n signs (x ∷ xs) r some = elim (clash-some (signs x.variable) x.positive) [
  | inl none ↦
      let m = met (signs x.variable) x.positive in
      let k = clashing-some x.variable (changed signs x.variable m) xs r.1 (omega (arith, some, none)) in
      (k.0, inr k.1, sym (aside n signs x k.0 xs m r k.1) ∙ k.2)
  | inr here ↦ (x, inl refl, here.1)
]

-- two literals clash
pub record ClashTwice (signs : ℕ → Option Bool) (ys : List Lit) : Type 0 where
  pub first : Lit
  pub second : Lit
  pub apart : first ≡ second → ⊥
  pub has_first : Has ys first
  pub has_second : Has ys second
  pub first_marked : signs first.variable ≡ Some (not first.positive)
  pub second_marked : signs second.variable ≡ Some (not second.positive)

clashing-two : (n : ℕ) (signs : ℕ → Option Bool) (ys : List Lit) → RisesFrom n ys → 1 < clashing signs ys → ClashTwice signs ys
clashing-two n signs [] r two = absurd (omega (arith, two))
clashing-two n signs (x ∷ xs) r two = elim (clash-some (signs x.variable) x.positive) [
  | inl none ↦ later (clashing-two x.variable next xs r.1 (omega (arith, two, none)))
  | inr here ↦ now here.1 (clashing-some x.variable next xs r.1 (omega (arith, two, here.0)))
]
  where
    m : Option Bool
    m = met (signs x.variable) x.positive

    next : ℕ → Option Bool
    next = changed signs x.variable m

    later : ClashTwice next xs → ClashTwice signs (x ∷ xs)
    later k = record {
      first = k.first;
      second = k.second;
      apart = k.apart;
      has_first = inr k.has_first;
      has_second = inr k.has_second;
      first_marked = sym (aside n signs x k.first xs m r k.has_first) ∙ k.first_marked;
      second_marked = sym (aside n signs x k.second xs m r k.has_second) ∙ k.second_marked;
    }

    now : signs x.variable ≡ Some (not x.positive) → (y : Lit) × Has xs y × (next y.variable ≡ Some (not y.positive)) → ClashTwice signs (x ∷ xs)
    now marked (y, has, e) = record {
      first = x;
      second = y;
      apart = λ same. later-lacks n x xs r y has (sym (ap (λ (z : Lit). z.variable) same));
      has_first = inl refl;
      has_second = inr has;
      first_marked = marked;
      second_marked = sym (aside n signs x y xs m r has) ∙ e;
    }

-- ---- a clause joined to the marks of another

module _ (signs : ℕ → Option Bool) (c ys : List Lit) (p : IsClause c) (q : IsClause ys) (marks : AreSigns signs c) where
  -- a literal that clashes is marked with the other sign
  opposed : (l : Lit) → Has c l → Has ys (opposite_of l) → signs l.variable ≡ Some (not (opposite_of l).positive)
  opposed l h g = (marks l).1 h ∙ ap (λ (m : Lit). Some m.positive) (sym (opposite-opposite l))

  joined-none : clashing signs ys ≡ 0 → clashes c ys ≡ 0
  joined-none none = none_clash c ys (λ l h g. clashing-none 0 signs ys q none (opposite_of l) g (opposed l h g))

  joined-one : clashing signs ys ≡ 1 → clashes c ys ≡ 1
  joined-one one = go (clashing-one 0 signs ys q one)
    where
      go : Clashes signs ys → clashes c ys ≡ 1
      go k =
          one_clash 0 (opposite_of k.literal) c ys p q ((marks (opposite_of k.literal)).0 k.marked)
          (subst (λ (z : Lit). Has ys z) (sym (opposite-opposite k.literal)) k.has)
          (λ l h g. sym (opposite-opposite l) ∙ ap opposite_of (k.only (opposite_of l) g (opposed l h g)))

  pub joined-several : 1 < clashing signs ys → 1 < clashes c ys
  joined-several two = go (clashing-two 0 signs ys q two)
    where
      turned : (y : Lit) → Has ys y → Has ys (opposite_of (opposite_of y))
      turned y h = subst (λ (z : Lit). Has ys z) (sym (opposite-opposite y)) h

      go : ClashTwice signs ys → 1 < clashes c ys
      go k =
          let left = (marks (opposite_of k.first)).0 k.first_marked in
          let right = (marks (opposite_of k.second)).0 k.second_marked in
          let some : clashes c ys ≡ 0 → ⊥ = zero_clash 0 (opposite_of k.first) c ys p q left (turned k.first k.has_first) in
          let more : clashes c ys ≡ 1 → ⊥ = λ (one : clashes c ys ≡ 1).
          k.apart (sym (opposite-opposite k.first) ∙ (ap opposite_of (sym (only_clash 0 (opposite_of k.first) (opposite_of k.second) c ys p q left
          (turned k.first k.has_first) right (turned k.second k.has_second) one)) ∙ opposite-opposite k.second)) in
          elim (cases_eq (clashes c ys) 0) [
            | inl e ↦ absurd (some e)
            | inr not_none ↦ elim (cases_eq (clashes c ys) 1) [ inl e ↦ absurd (more e) | inr not_one ↦ omega (arith, not_none, not_one) ]
          ]

  pub clashes-marked : (clashed : Bool) → cond clashed 1 0 ≡ clashing signs ys → clashes c ys ≡ cond clashed 1 0
  clashes-marked true e = joined-one (sym e)
  clashes-marked false e = joined-none (sym e)

  -- what is marked of a variable that occurs in the clause
  from-met : (l y : Lit) → Has ys y → y.variable ≡ l.variable → (m : Option Bool) → signs l.variable ≡ m → met m y.positive ≡ Some l.positive
      → Has (joined c ys) l
  from-met l y h e None is to =
      let same : y ≡ l = same_lit y l e (some-same y.positive l.positive to) in
      right_joined c ys l (λ g. let at = (marks (opposite_of l)).1 g in let no : None ≡ Some (not l.positive) = sym is ∙ at in cc)
      (subst (λ (z : Lit). Has ys z) same h)
  from-met l y h e (Some sign) is to = elim (cases_Bool (alike sign y.positive)) [
    | inl s ↦
        let to' : Some sign ≡ Some l.positive = rw s at to in
        let same : y ≡ l = same_lit y l e (sym (alike-same sign y.positive s) ∙ some-same sign l.positive to') in
        let stands = subst (λ (z : Lit). Has ys z) same h in
        left_joined c ys l ((marks l).0 (is ∙ to')) (λ g.
        not-other l.positive (ap (λ (z : Lit). z.positive) (one-literal 0 ys l (opposite_of l) q stands g refl)))
    | inr s ↦ let no : None ≡ Some l.positive = rw s at to in cc
  ]

  forth : (l : Lit) → walked signs ys l.variable ≡ Some l.positive → Has (joined c ys) l
  forth l e = elim (variable-cases ys l.variable) [
    | inr lacks ↦ left_joined c ys l ((marks l).0 (sym (walked-other signs ys l.variable lacks) ∙ e)) (λ g. lacks (opposite_of l) g refl)
    | inl it ↦ from-met l it.0 it.1 it.2 (signs l.variable) refl (
        subst (λ (v : ℕ). met (signs v) it.0.positive ≡ walked signs ys v) it.2 (sym (walked-at 0 signs ys it.0 q it.1)) ∙ e)
  ]

  -- what occurs in the join is marked
  back-left : (l : Lit) → Has (joined c ys) l → Has c l → walked signs ys l.variable ≡ Some l.positive
  back-left l j h = elim (variable-cases ys l.variable) [
    | inr lacks ↦ walked-other signs ys l.variable lacks ∙ (marks l).1 h
    | inl it ↦ subst (λ (v : ℕ). walked signs ys v ≡ Some l.positive) it.2 (
        walked-at 0 signs ys it.0 q it.1
        ∙ (ap (λ k. met k it.0.positive) (subst (λ (v : ℕ). signs v ≡ Some l.positive) (sym it.2) ((marks l).1 h)) ∙ meets it.0 it.1 it.2))
  ]
    where
      meets : (y : Lit) → Has ys y → y.variable ≡ l.variable → met (Some l.positive) y.positive ≡ Some l.positive
      meets y g e = elim (cases_Bool (alike l.positive y.positive)) [
        | inl s ↦ rw s refl
        | inr s ↦
            let turned : y ≡ opposite_of l = same_lit y (opposite_of l) e (flip l.positive y.positive (alike-other l.positive y.positive s)) in
            absurd (gone_joined 0 l l c ys p q h (subst (λ (z : Lit). Has ys z) turned g) j refl)
      ]
        where
          flip : (a b : Bool) → a ≡ not b → b ≡ not a
          flip true true s = s
          flip true false s = refl
          flip false true s = refl
          flip false false s = s

  back-right : (l : Lit) → Has (joined c ys) l → Has ys l → (m : Option Bool) → signs l.variable ≡ m → met m l.positive ≡ Some l.positive
  back-right l j h None is = refl
  back-right l j h (Some sign) is = elim (cases_Bool (alike sign l.positive)) [
    | inl s ↦ rw s (ap Some (alike-same sign l.positive s))
    | inr s ↦
        let other = (marks (opposite_of l)).0 (is ∙ ap Some (alike-other sign l.positive s)) in
        absurd (gone_joined 0 (opposite_of l) l c ys p q other (subst (λ (z : Lit). Has ys z) (sym (opposite-opposite l)) h) j refl)
  ]

  pub marks-joined : AreSigns (walked signs ys) (joined c ys)
  marks-joined l = (
    forth l,
    λ j. elim (from_joined c ys l j) [
      | inl h ↦ back-left l j h
      | inr h ↦ walked-at 0 signs ys l q h ∙ back-right l j h (signs l.variable) refl
    ],
  )
