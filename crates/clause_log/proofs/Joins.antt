-- The marks after a clause is joined to them are the literals of the join, and they are counted.
use Rattle.clause_log.proofs.Common.{ℕ, zero, suc, ◌≡◌, ◌<◌, ◌≤◌, ◌+◌, inl, inr, Bool, true, false, not, cond, ltb, List, [], ◌∷◌, Option, Some, None, length, get_or, set, drop, option_and_then, arith, sym, ap, subst, refl, ◌∙◌, cases_Bool, cases_eq, ltb-true, ltb-false, false≢true, true≢false, All, Lit, RisesFrom, IsClause, opposite_of, Mark, Marks, Places, Has, place_of, AreSigns, AreMarks, unmarked, sign_at, sign_of, joined, joined_at, clashes, same_sign}
use Rattle.std.proofs.Math.ListN.{drop_of_length-le}
use Rattle.std.specs.Option.{option_eq}
use mathlib.Core.Bool.{beq}
use Rattle.clause_log.proofs.Joining.{joined-nil, rises-joined}
use Rattle.clause_log.proofs.Membership.{like, rises-has, same_members}
use Rattle.clause_log.proofs.Walking.{met, clash, changed, after, walked, AllMarked, IsWalk, literal_at, walk-split, walk-more, changed-same, changed-other}
use Rattle.clause_log.proofs.Placed.{sign_of-set, sign_in-present, sign_in-none, none-at}
use Rattle.clause_log.proofs.Marked.{Lacks, later-lacks, clashes-marked, joined-several, marks-joined}

-- ---- the join with one literal

length-added_at : (x y : Lit) (xs : List Lit) → (x.variable ≡ y.variable → ⊥) → length (joined xs (y ∷ [])) ≡ suc (length xs)
    → length (joined_at x (joined xs) (y ∷ [])) ≡ suc (suc (length xs))
length-added_at x y xs other more = elim (cases_Bool (ltb x.variable y.variable)) [
  | inl e ↦ rw e (ap suc more)
  | inr e ↦ rw e (elim (cases_Bool (ltb y.variable x.variable)) [
    | inl f ↦ rw f (ap (λ (zs : List Lit). suc (suc (length zs))) (joined-nil xs))
    | inr f ↦ absurd (other (let same : x.variable ≡ y.variable = omega (arith, ltb-false _ _ e, ltb-false _ _ f) in same))
  ])
]

length-added : (xs : List Lit) (y : Lit) → Lacks xs y.variable → length (joined xs (y ∷ [])) ≡ suc (length xs)
length-added [] y lacks = refl
length-added (x ∷ xs) y lacks = length-added_at x y xs (lacks x (inl refl)) (length-added xs y (λ l h. lacks l (inr h)))

-- a literal with the opposite one in the clause
length-gone : (n : ℕ) (xs : List Lit) (y : Lit) → RisesFrom n xs → Has xs (opposite_of y) → suc (length (joined xs (y ∷ []))) ≡ length xs
length-gone n [] y r h = absurd h
length-gone n (x ∷ xs) y r h = elim (cases_Bool (ltb x.variable y.variable)) [
  | inl e ↦ rw e (ap suc (length-gone x.variable xs y r.1 (further (ltb-true _ _ e) h)))
  | inr e ↦ rw e (elim (cases_Bool (ltb y.variable x.variable)) [
    | inl f ↦ absurd (before (ltb-true _ _ f) h)
    | inr f ↦ rw f (elim (cases_Bool (same_sign x y)) [
      | inl s ↦ absurd (signs (let same : x.variable ≡ y.variable = omega (arith, ltb-false _ _ e, ltb-false _ _ f) in same) s h)
      | inr s ↦ rw s (ap (λ (zs : List Lit). suc (length zs)) (joined-nil xs))
    ])
  ])
]
  where
    further : x.variable < y.variable → Has (x ∷ xs) (opposite_of y) → Has xs (opposite_of y)
    further lt (inl is) = let v : x.variable ≡ y.variable = ap (λ (z : Lit). z.variable) is in absurd (omega (arith, lt, v))
    further lt (inr g) = g

    before : y.variable < x.variable → Has (x ∷ xs) (opposite_of y) → ⊥
    before lt (inl is) = let v : x.variable ≡ y.variable = ap (λ (z : Lit). z.variable) is in omega (arith, lt, v)
    before lt (inr g) = let above = rises-has x.variable xs (opposite_of y) r.1 g in omega (arith, lt, above)

    apart : (b : Bool) → b ≡ not b → ⊥
    apart true t = true≢false t
    apart false t = false≢true t

    signs : x.variable ≡ y.variable → same_sign x y ≡ true → Has (x ∷ xs) (opposite_of y) → ⊥
    signs same s (inl is) = apart y.positive (sym (ap (λ (z : Lit). z.positive) (like x y same s)) ∙ ap (λ (z : Lit). z.positive) is)
    signs same s (inr g) = let above = rises-has x.variable xs (opposite_of y) r.1 g in omega (arith, same, above)

-- ---- one literal comes

AreSigns-alike : (f g : ℕ → Option Bool) (c : List Lit) → ((v : ℕ) → g v ≡ f v) → AreSigns f c → AreSigns g c
AreSigns-alike f g c same signs l = (λ e. (signs l).0 (sym (same l.variable) ∙ e), λ h. same l.variable ∙ (signs l).1 h)

met-none : (m : Option Bool) (s : Bool) → m ≡ None → met m s ≡ Some s
met-none m s e = rw e refl

met-turned : (q : Bool) → met (Some (not q)) q ≡ None
met-turned true = refl
met-turned false = refl

met-same : (q : Bool) → met (Some q) q ≡ Some q
met-same true = refl
met-same false = refl

clash-turned : (q : Bool) → clash (Some (not q)) q ≡ 1
clash-turned true = refl
clash-turned false = refl

clash-same : (q : Bool) → clash (Some q) q ≡ 0
clash-same true = refl
clash-same false = refl

-- a literal of a variable that was not marked
pub step-new : (places : Places) (old new : Marks) (y : Lit) (place : ℕ) → place_of places y.variable ≡ Some place → place < length old.by_place.items
    → sign_at old.stamp old.by_place.items place ≡ None
    → new.by_place.items ≡ set old.by_place.items place (record { stamp = old.stamp; positive = y.positive }) → new.stamp ≡ old.stamp
    → (v : ℕ) → sign_of places new v ≡ after (sign_of places old) y v
step-new places old new y place at within none is stamp v =
    let here : sign_of places old y.variable ≡ None = ap (λ o. option_and_then (sign_at old.stamp old.by_place.items) o) at ∙ none in
    sign_of-set places old new y.variable place _ at within is stamp v
    ∙ ap (λ m. changed (sign_of places old) y.variable m v) (sign_in-present old.stamp y.positive ∙ sym (met-none _ y.positive here))

pub step-gone : (places : Places) (old new : Marks) (y : Lit) (place : ℕ) → place_of places y.variable ≡ Some place → place < length old.by_place.items
    → sign_at old.stamp old.by_place.items place ≡ Some (not y.positive) → 0 < old.stamp
    → new.by_place.items ≡ set old.by_place.items place unmarked → new.stamp ≡ old.stamp
    → (v : ℕ) → sign_of places new v ≡ after (sign_of places old) y v
step-gone places old new y place at within some begun is stamp v =
    let here : sign_of places old y.variable ≡ Some (not y.positive) = ap (λ o. option_and_then (sign_at old.stamp old.by_place.items) o) at ∙ some in
    sign_of-set places old new y.variable place unmarked at within is stamp v
    ∙ ap (λ m. changed (sign_of places old) y.variable m v) (sign_in-none old.stamp begun ∙ sym (ap (λ m. met m y.positive) here ∙ met-turned y.positive))

-- the marks that a literal of a new variable leaves are those of a clause
pub marks-new : (places : Places) (old new : Marks) (y : Lit) (c : List Lit) → 0 < y.variable → AreMarks places old c
    → sign_of places old y.variable ≡ None → ((v : ℕ) → sign_of places new v ≡ after (sign_of places old) y v) → new.count ≡ old.count + 1
    → AreMarks places new (joined c (y ∷ []))
marks-new places old new y c positive marks none step count = record {
  ordered = rises-joined 0 c (y ∷ []) marks.ordered (positive, tt);
  counted =
      let added = length-added c y (λ l h e. lacks l h e) in
      omega (arith, added, count, marks.counted);
  signs = AreSigns-alike (after (sign_of places old) y) (sign_of places new) (joined c (y ∷ [])) step
      (marks-joined (sign_of places old) c (y ∷ []) marks.ordered (positive, tt) marks.signs);
}
  where
    lacks : Lacks c y.variable
    lacks l h e = let at = (marks.signs l).1 h in let same = ap (sign_of places old) e in let no : None ≡ Some l.positive = sym none ∙ (sym same ∙ at) in cc

pub marks-gone : (places : Places) (old new : Marks) (y : Lit) (c : List Lit) → 0 < y.variable → AreMarks places old c
    → sign_of places old y.variable ≡ Some (not y.positive) → ((v : ℕ) → sign_of places new v ≡ after (sign_of places old) y v) → new.count + 1 ≡ old.count
    → AreMarks places new (joined c (y ∷ []))
marks-gone places old new y c positive marks some step count = record {
  ordered = rises-joined 0 c (y ∷ []) marks.ordered (positive, tt);
  counted =
      let gone = length-gone 0 c y marks.ordered ((marks.signs (opposite_of y)).0 some) in
      omega (arith, gone, count, marks.counted);
  signs = AreSigns-alike (after (sign_of places old) y) (sign_of places new) (joined c (y ∷ [])) step
      (marks-joined (sign_of places old) c (y ∷ []) marks.ordered (positive, tt) marks.signs);
}

pub has-get_or : (ys : List Lit) (i : ℕ) (d : Lit) → i < length ys → Has ys (get_or ys i d)
has-get_or [] i d lt = absurd (omega (arith, lt))
has-get_or (y ∷ ys) zero d lt = inl refl
has-get_or (y ∷ ys) (suc i) d lt = inr (has-get_or ys i d (omega (arith, lt)))

-- the marks are those of a clause
abbrev pub AreClause : Places → Marks → Type 0
AreClause places marks = (d : List Lit) × AreMarks places marks d

beq-same : (p q : Bool) → not (beq p q) ≡ false → p ≡ q
beq-same true true e = refl
beq-same true false e = absurd (true≢false e)
beq-same false true e = absurd (true≢false e)
beq-same false false e = refl

beq-other : (p q : Bool) → not (beq p q) ≡ true → p ≡ not q
beq-other true true e = absurd (false≢true e)
beq-other true false e = refl
beq-other false true e = refl
beq-other false false e = absurd (false≢true e)

-- clashes so far
abbrev count_of : Bool → ℕ
count_of b = cond b 1 0

counted : (b told : Bool) → b ≡ told → count_of b ≡ count_of told
counted b told is = ap count_of is

module _ (places : Places) (start old : Marks) (ys : List Lit) (i place : ℕ) (clashed : Bool) (lt : i < length ys) (q : IsClause ys)
    (walk : IsWalk (sign_of places start) (sign_of places old) ys (drop i ys) clashed)
    (at : place_of places (literal_at ys i).variable ≡ Some place) (within : place < length old.by_place.items) where
  split : IsWalk (sign_of places start) (sign_of places old) ys (literal_at ys i ∷ drop (i + 1) ys) clashed
  split = walk-split (sign_of places start) (sign_of places old) ys i clashed lt walk

  positive : 0 < (literal_at ys i).variable
  positive = rises-has 0 ys (literal_at ys i) q (has-get_or ys i _ lt)

  here : sign_of places old (literal_at ys i).variable ≡ sign_at old.stamp old.by_place.items place
  here = ap (λ o. option_and_then (sign_at old.stamp old.by_place.items) o) at

  module _ (new : Marks) (none : sign_at old.stamp old.by_place.items place ≡ None)
      (is : new.by_place.items ≡ set old.by_place.items place (record { stamp = old.stamp; positive = (literal_at ys i).positive })) (stamp : new.stamp ≡ old.stamp) where
    pub new-walk : IsWalk (sign_of places start) (sign_of places new) ys (drop (i + 1) ys) clashed
    new-walk =
        walk-more (sign_of places start) (sign_of places old) (sign_of places new) ys (drop (i + 1) ys) (literal_at ys i) clashed clashed split
        (step-new places old new (literal_at ys i) place at within none is stamp)
        (let no = ap (λ m. clash m (literal_at ys i).positive) (here ∙ none) in omega (arith, no))

    pub new-marks : new.count ≡ old.count + 1 → AreClause places old → AreClause places new
    new-marks count (d, marks) = (
      joined d (literal_at ys i ∷ []),
      marks-new places old new (literal_at ys i) d positive marks (here ∙ none) (step-new places old new (literal_at ys i) place at within none is stamp) count,
    )

  module _ (sign : Bool) (some : sign_at old.stamp old.by_place.items place ≡ Some sign) where
    pub same-walk : not (beq sign (literal_at ys i).positive) ≡ false → IsWalk (sign_of places start) (sign_of places old) ys (drop (i + 1) ys) clashed
    same-walk same =
        let y = literal_at ys i in
        let marked : sign_of places old y.variable ≡ Some y.positive = here ∙ (some ∙ ap Some (beq-same sign y.positive same)) in
        walk-more (sign_of places start) (sign_of places old) (sign_of places old) ys (drop (i + 1) ys) y clashed clashed split
        (stays y marked)
        (let no = ap (λ m. clash m y.positive) marked ∙ clash-same y.positive in omega (arith, no))
      where
        stays : (y : Lit) → sign_of places old y.variable ≡ Some y.positive → (v : ℕ) → sign_of places old v ≡ after (sign_of places old) y v
        stays y marked v = elim (cases_eq v y.variable) [
          | inl e ↦
              ap (sign_of places old) e ∙ marked
              ∙ sym (ap (changed (sign_of places old) y.variable (met (sign_of places old y.variable) y.positive)) e
              ∙ changed-same (sign_of places old) y.variable (met (sign_of places old y.variable) y.positive)
              ∙ ap (λ m. met m y.positive) marked ∙ met-same y.positive)
          | inr other ↦ sym (changed-other (sign_of places old) y.variable v (met (sign_of places old y.variable) y.positive) other)
        ]

    module _ (differs : not (beq sign (literal_at ys i).positive) ≡ true) where
      turned : sign_at old.stamp old.by_place.items place ≡ Some (not (literal_at ys i).positive)
      turned = some ∙ ap Some (beq-other sign (literal_at ys i).positive differs)

      once : clash (sign_of places old (literal_at ys i).variable) (literal_at ys i).positive ≡ 1
      once = ap (λ m. clash m (literal_at ys i).positive) (here ∙ turned) ∙ clash-turned (literal_at ys i).positive

      -- a second clash
      pub second-clash : clashed ≡ true → (c : List Lit) → AreMarks places start c → 1 < clashes c ys
      second-clash before c marks =
          let first = counted clashed true before in
          joined-several (sign_of places start) c ys marks.ordered q marks.signs (omega (arith, once, first, split.count))

      module _ (new : Marks) (is : new.by_place.items ≡ set old.by_place.items place unmarked) (stamp : new.stamp ≡ old.stamp) where
        pub gone-walk : clashed ≡ false → IsWalk (sign_of places start) (sign_of places new) ys (drop (i + 1) ys) true
        gone-walk first_one =
            let first = counted clashed false first_one in
            walk-more (sign_of places start) (sign_of places old) (sign_of places new) ys (drop (i + 1) ys) (literal_at ys i) clashed true split
            (step-gone places old new (literal_at ys i) place at within turned old.begun is stamp)
            (omega (arith, once, first))

        pub gone-marks : new.count + 1 ≡ old.count → AreClause places old → AreClause places new
        gone-marks count (d, marks) = (
          joined d (literal_at ys i ∷ []),
          marks-gone places old new (literal_at ys i) d positive marks (here ∙ turned)
              (step-gone places old new (literal_at ys i) place at within turned old.begun is stamp) count,
        )

-- ---- where no literal is left

pub joined-end : (places : Places) (old new : Marks) (c ys : List Lit) (i : ℕ) (clashed : Bool) → length ys ≤ i → IsClause ys → AreMarks places old c
    → IsWalk (sign_of places old) (sign_of places new) ys (drop i ys) clashed → ((d : List Lit) × AreMarks places new d)
    → (clashes c ys ≡ cond clashed 1 0) × AreMarks places new (joined c ys)
joined-end places old new c ys i clashed past q marks walk (d, left) =
    let none = drop_of_length-le ys past in
    let end : IsWalk (sign_of places old) (sign_of places new) ys [] clashed =
    subst (λ (rest : List Lit). IsWalk (sign_of places old) (sign_of places new) ys rest clashed) none walk in
    let signs : AreSigns (sign_of places new) (joined c ys) =
    AreSigns-alike (walked (sign_of places old) ys) (sign_of places new) (joined c ys) end.signs (marks-joined (sign_of places old) c ys marks.ordered q marks.signs) in
    let same : d ≡ joined c ys =
    same_members 0 d (joined c ys) left.ordered (rises-joined 0 c ys marks.ordered q)
    (λ l h. (signs l).0 ((left.signs l).1 h)) (λ l h. (left.signs l).0 ((signs l).1 h)) in (
      clashes-marked (sign_of places old) c ys marks.ordered q marks.signs clashed (omega (arith, end.count)),
      subst (λ (e : List Lit). AreMarks places new e) same left,
    )

-- ---- the literals of a clause

sub-length : (n m : ℕ) (xs ys : List Lit) → RisesFrom n xs → RisesFrom m ys → ((l : Lit) → Has ys l → Has xs l) → length ys ≤ length xs
sub-length n m xs [] p q within = omega arith
sub-length n m [] (y ∷ ys) p q within = absurd (within y (inl refl))
sub-length n m (x ∷ xs) (y ∷ ys) p q within =
    let rest = sub-length x.variable y.variable xs ys p.1 q.1 inner in omega (arith, rest)
  where
    inner : (l : Lit) → Has ys l → Has xs l
    inner l h = elim (within l (inr h)) [
      | inr g ↦ g
      | inl is ↦ absurd (elim (within y (inl refl)) [
        | inl e ↦ later-lacks m y ys q l h (sym (ap (λ (z : Lit). z.variable) is) ∙ ap (λ (z : Lit). z.variable) e)
        | inr g ↦
            let above = rises-has x.variable xs y p.1 g in
            let more = rises-has y.variable ys l q.1 h in
            let v : x.variable ≡ l.variable = ap (λ (z : Lit). z.variable) is in
            omega (arith, above, more, v)
      ])
    ]

-- a clause with all its literals among those of another one that is no longer
sub-same : (n m : ℕ) (xs ys : List Lit) → RisesFrom n xs → RisesFrom m ys → ((l : Lit) → Has ys l → Has xs l) → length xs ≡ length ys → xs ≡ ys
sub-same n m [] [] p q within same = refl
sub-same n m [] (y ∷ ys) p q within same = absurd (within y (inl refl))
sub-same n m (x ∷ xs) [] p q within same = absurd (omega (arith, same))
sub-same n m (x ∷ xs) (y ∷ ys) p q within same = elim (within y (inl refl)) [
  | inl e ↦ ap (λ z. z ∷ xs) e ∙ ap (λ zs. y ∷ zs) (sub-same x.variable y.variable xs ys p.1 q.1 (inner e) (omega (arith, same)))
  | inr g ↦
      let more = sub-length x.variable m xs (y ∷ ys) p.1 q (further g) in
      absurd (omega (arith, more, same))
]
  where
    inner : x ≡ y → (l : Lit) → Has ys l → Has xs l
    inner e l h = elim (within l (inr h)) [
      | inr g ↦ g
      | inl is ↦ absurd (later-lacks m y ys q l h (sym (ap (λ (z : Lit). z.variable) is) ∙ ap (λ (z : Lit). z.variable) e))
    ]

    further : Has xs y → (l : Lit) → Has (y ∷ ys) l → Has xs l
    further g l (inl is) = subst (λ (z : Lit). Has xs z) is g
    further g l (inr h) = elim (within l (inr h)) [
      | inr k ↦ k
      | inl is ↦
          let above = rises-has x.variable xs y p.1 g in
          let more = rises-has y.variable ys l q.1 h in
          let v : x.variable ≡ l.variable = ap (λ (z : Lit). z.variable) is in
          absurd (omega (arith, above, more, v))
    ]

all-marked : (signs : ℕ → Option Bool) (ys : List Lit) (l : Lit) → AllMarked signs ys → Has ys l → signs l.variable ≡ Some l.positive
all-marked signs [] l all h = absurd h
all-marked signs (y ∷ ys) l all (inl e) = subst (λ (z : Lit). signs z.variable ≡ Some z.positive) e all.0
all-marked signs (y ∷ ys) l all (inr h) = all-marked signs ys l all.1 h

-- a literal that is not marked is not among them
pub marks-lack : (places : Places) (marks : Marks) (c ys : List Lit) (i : ℕ) (sign : Option Bool) (b : Bool) → AreMarks places marks c → i < length ys
    → sign ≡ sign_of places marks (literal_at ys i).variable → b ≡ not (option_eq beq sign (Some (literal_at ys i).positive)) → b ≡ true → c ≡ ys → ⊥
marks-lack places marks c ys i sign b are lt found tells differs same =
    let y = literal_at ys i in
    let has : Has c y = subst (λ (ls : List Lit). Has ls y) (sym same) (has-get_or ys i _ lt) in
    let alike : b ≡ false = tells ∙ (ap (λ o. not (option_eq beq o (Some y.positive))) (found ∙ (are.signs y).1 has) ∙ itself y.positive) in
    true≢false (sym differs ∙ alike)
  where
    itself : (p : Bool) → not (beq p p) ≡ false
    itself true = refl
    itself false = refl

-- as many literals as are marked, each of them marked
pub marks-of : (places : Places) (marks : Marks) (c ys : List Lit) (i : ℕ) → AreMarks places marks c → IsClause ys → length ys ≡ marks.count → length ys ≤ i
    → (AllMarked (sign_of places marks) (drop i ys) → AllMarked (sign_of places marks) ys) → c ≡ ys
marks-of places marks c ys i are q count past all =
    let none = drop_of_length-le ys past in
    let whole : AllMarked (sign_of places marks) ys = (rw none at all) tt in
    sub-same 0 0 c ys are.ordered q (λ l h. (are.signs l).0 (all-marked (sign_of places marks) ys l whole h)) (omega (arith, count, are.counted))

pub no-marks : (places : Places) (marks : Marks) (old : ℕ) → All (λ (m : Mark). m.stamp ≤ old) marks.by_place.items → old < marks.stamp → marks.count ≡ 0
    → AreMarks places marks []
no-marks places marks old all later count = record {
  ordered = tt;
  counted = count;
  signs = λ l. (λ e. none l (place_of places l.variable) refl e, λ h. absurd h);
}
  where
    none : (l : Lit) (o : Option ℕ) → place_of places l.variable ≡ o → sign_of places marks l.variable ≡ Some l.positive → ⊥
    none l None is e = let no : None ≡ Some l.positive = sym (ap (λ o. option_and_then (sign_at marks.stamp marks.by_place.items) o) is) ∙ e in cc
    none l (Some place) is e =
        let at : sign_at marks.stamp marks.by_place.items place ≡ Some l.positive = sym (ap (λ o. option_and_then (sign_at marks.stamp marks.by_place.items) o) is) ∙ e in
        let no : None ≡ Some l.positive = sym (none-at marks.by_place.items old marks.stamp place all later) ∙ at in cc
