-- Marks, their count and their list.
use Rattle.clause_search.proofs.Common.{ℕ, zero, suc, ◌≡◌, ◌<◌, ◌≤◌, ◌+◌, ◌-◌, ◌++◌, ◌⊎◌, inl, inr, Bool, true, false, cond, List, [], ◌∷◌, get_or, set, replicate, length, arith, sym, ap, subst, refl, ◌∙◌, cases_eq, false≢true, get_or-set_same, get_or-set_other, Has, Marks, AreApart, IsCounted, marked_from}

abbrev bit : Bool → ℕ
bit b = cond b 1 0

-- ---- the count

-- a mark that is set or taken away
pub count-set : (low i : ℕ) (bs : List Bool) (b : Bool) → low ≤ i → i < length bs
    → marked_from low (set bs i b) + cond (get_or bs i false) 1 0 ≡ marked_from low bs + cond b 1 0
count-set low i [] b le lt = absurd (omega arith)
count-set zero zero (x ∷ xs) b le lt = omega arith
count-set (suc low) zero (x ∷ xs) b le lt = absurd (omega arith)
count-set zero (suc i) (x ∷ xs) b le lt = let more = count-set zero i xs b (omega arith) (omega arith) in omega (arith, more)
count-set (suc low) (suc i) (x ∷ xs) b le lt = count-set low i xs b (omega arith) (omega arith)

pub count-before : (low i : ℕ) (bs : List Bool) (b : Bool) → i < low → marked_from low (set bs i b) ≡ marked_from low bs
count-before low i [] b lt = refl
count-before zero i (x ∷ xs) b lt = absurd (omega arith)
count-before (suc low) zero (x ∷ xs) b lt = refl
count-before (suc low) (suc i) (x ∷ xs) b lt = count-before low i xs b (omega arith)

pub count-none : (low n : ℕ) → marked_from low (replicate n false) ≡ 0
count-none low zero = refl
count-none zero (suc n) = omega (arith, count-none zero n)
count-none (suc low) (suc n) = count-none low n

pub count-length : (low : ℕ) (bs : List Bool) → marked_from low bs ≤ length bs
count-length low [] = omega arith
count-length zero (true ∷ xs) = omega (arith, count-length zero xs)
count-length zero (false ∷ xs) = omega (arith, count-length zero xs)
count-length (suc low) (x ∷ xs) = omega (arith, count-length low xs)

-- one that isn't marked leaves room
pub count-room : (low i : ℕ) (bs : List Bool) → i < length bs → get_or bs i false ≡ false → marked_from low bs < length bs
count-room low i [] lt none = absurd (omega arith)
count-room zero zero (true ∷ xs) lt none = absurd (false≢true (sym none))
count-room zero zero (false ∷ xs) lt none = omega (arith, count-length zero xs)
count-room zero (suc i) (true ∷ xs) lt none = omega (arith, count-room zero i xs (omega arith) none)
count-room zero (suc i) (false ∷ xs) lt none = omega (arith, count-room zero i xs (omega arith) none)
count-room (suc low) zero (x ∷ xs) lt none = omega (arith, count-length low xs)
count-room (suc low) (suc i) (x ∷ xs) lt none = omega (arith, count-room low i xs (omega arith) none)

pub count-some : (low i : ℕ) (bs : List Bool) → low ≤ i → get_or bs i false ≡ true → 0 < marked_from low bs
count-some low i [] le some = absurd (false≢true some)
count-some zero zero (true ∷ xs) le some = omega arith
count-some zero zero (false ∷ xs) le some = absurd (false≢true some)
count-some (suc low) zero (x ∷ xs) le some = absurd (omega arith)
count-some zero (suc i) (x ∷ xs) le some = omega (arith, count-some zero i xs (omega arith) some)
count-some (suc low) (suc i) (x ∷ xs) le some = count-some low i xs (omega arith) some

-- where it is one, there is one
pub count-one : (low i j : ℕ) (bs : List Bool) → low ≤ i → low ≤ j → get_or bs i false ≡ true → get_or bs j false ≡ true → marked_from low bs ≡ 1 → i ≡ j
count-one low i j [] li lj si sj one = absurd (false≢true si)
count-one zero zero zero (x ∷ xs) li lj si sj one = refl
count-one zero zero (suc j) (true ∷ xs) li lj si sj one = absurd (omega (arith, one, count-some zero j xs (omega arith) sj))
count-one zero zero (suc j) (false ∷ xs) li lj si sj one = absurd (false≢true si)
count-one zero (suc i) zero (true ∷ xs) li lj si sj one = absurd (omega (arith, one, count-some zero i xs (omega arith) si))
count-one zero (suc i) zero (false ∷ xs) li lj si sj one = absurd (false≢true sj)
count-one zero (suc i) (suc j) (true ∷ xs) li lj si sj one = absurd (omega (arith, one, count-some zero i xs (omega arith) si))
count-one zero (suc i) (suc j) (false ∷ xs) li lj si sj one = ap suc (count-one zero i j xs (omega arith) (omega arith) si sj (omega (arith, one)))
count-one (suc low) zero j (x ∷ xs) li lj si sj one = absurd (omega arith)
count-one (suc low) (suc i) zero (x ∷ xs) li lj si sj one = absurd (omega arith)
count-one (suc low) (suc i) (suc j) (x ∷ xs) li lj si sj one = ap suc (count-one low i j xs (omega arith) (omega arith) si sj one)

count-zero : (low : ℕ) (bs : List Bool) → ((j : ℕ) → low ≤ j → get_or bs j false ≡ true → ⊥) → marked_from low bs ≡ 0
count-zero low [] none = refl
count-zero zero (true ∷ xs) none = absurd (none 0 (omega arith) refl)
count-zero zero (false ∷ xs) none = let rest = count-zero zero xs (λ j le some. none (suc j) (omega arith) some) in omega (arith, rest)
count-zero (suc low) (x ∷ xs) none = count-zero low xs (λ j le some. none (suc j) (omega (arith, le)) some)

-- and where there is exactly one, it is one
pub count-alone : (low i : ℕ) (bs : List Bool) → low ≤ i → get_or bs i false ≡ true → ((j : ℕ) → low ≤ j → get_or bs j false ≡ true → j ≡ i) → marked_from low bs ≡ 1
count-alone low i [] le some alone = absurd (false≢true some)
count-alone zero zero (true ∷ xs) le some alone =
    let none = count-zero zero xs (λ j le some. let e = alone (suc j) (omega arith) some in omega (arith, e)) in omega (arith, none)
count-alone zero zero (false ∷ xs) le some alone = absurd (false≢true some)
count-alone zero (suc i) (true ∷ xs) le some alone = let e = alone 0 (omega arith) refl in absurd (omega (arith, e))
count-alone zero (suc i) (false ∷ xs) le some alone =
    let rest = count-alone zero i xs (omega arith) some (λ j le some. let e = alone (suc j) (omega arith) some in omega (arith, e)) in omega (arith, rest)
count-alone (suc low) zero (x ∷ xs) le some alone = absurd (omega arith)
count-alone (suc low) (suc i) (x ∷ xs) le some alone =
    count-alone low i xs (omega arith) some (λ j le some. let e = alone (suc j) (omega (arith, le)) some in omega (arith, e))

-- ---- the list

pub has-push : {X : Type 0} (xs : List X) (x y : X) → Has (xs ++ x ∷ []) y → Has xs y ⊎ (x ≡ y)
has-push [] x y (inl e) = inr e
has-push [] x y (inr h) = absurd h
has-push (z ∷ zs) x y (inl e) = inl (inl e)
has-push (z ∷ zs) x y (inr h) = elim (has-push zs x y h) [ inl g ↦ inl (inr g) | inr e ↦ inr e ]

pub has-kept : {X : Type 0} (xs : List X) (x y : X) → Has xs y → Has (xs ++ x ∷ []) y
has-kept [] x y h = absurd h
has-kept (z ∷ zs) x y (inl e) = inl e
has-kept (z ∷ zs) x y (inr h) = inr (has-kept zs x y h)

pub has-last : {X : Type 0} (xs : List X) (x : X) → Has (xs ++ x ∷ []) x
has-last [] x = inl refl
has-last (z ∷ zs) x = inr (has-last zs x)

apart-push : (xs : List ℕ) (x : ℕ) → AreApart xs → (Has xs x → ⊥) → AreApart (xs ++ x ∷ [])
apart-push [] x h none = ((λ s. s), tt)
apart-push (z ∷ zs) x h none = (
  (λ s. elim (has-push zs x z s) [ inl g ↦ h.0 g | inr e ↦ none (inl (sym e)) ]),
  apart-push zs x h.1 (λ s. none (inr s)),
)

-- ---- both

pub counted-none : (low n : ℕ) (marks : Marks) → marks.marked.items ≡ replicate n false → marks.late ≡ 0 → marks.early.items ≡ [] → IsCounted low marks
counted-none low n marks is late early = record {
  late = late ∙ sym (rw is (count-none low n));
  early = λ i. (
    (λ h. absurd (rw early at h)),
    (λ h. absurd (none i (rw is at h.1))),
  );
  apart = rw early tt;
}
  where
    none : (i : ℕ) → get_or (replicate n false) i false ≡ true → ⊥
    none i h = go n i h
      where
        go : (m j : ℕ) → get_or (replicate m false) j false ≡ true → ⊥
        go zero j h = false≢true h
        go (suc m) zero h = false≢true h
        go (suc m) (suc j) h = go m j h

-- what a look at a position shows
pub read-mark : (bs : List Bool) (i : ℕ) (b : Bool) → i < length bs → b ≡ get_or bs i b → get_or bs i false ≡ b
read-mark [] i b lt e = absurd (omega arith)
read-mark (x ∷ xs) zero b lt e = sym e
read-mark (x ∷ xs) (suc i) b lt e = read-mark xs i b (omega arith) e

module _ (low place : ℕ) (old new : Marks) (within : place < length old.marked.items) (counted : IsCounted low old) where
  elsewhere : (b : Bool) (i : ℕ) → (i ≡ place → ⊥) → new.marked.items ≡ set old.marked.items place b
      → get_or new.marked.items i false ≡ get_or old.marked.items i false
  elsewhere b i other is = rw is (get_or-set_other old.marked.items place i b false other)

  there : (b : Bool) → new.marked.items ≡ set old.marked.items place b → get_or new.marked.items place false ≡ b
  there b is = rw is (get_or-set_same old.marked.items place b false within)

  -- one more before the position
  pub counted-early : get_or old.marked.items place false ≡ false → place < low → new.marked.items ≡ set old.marked.items place true
      → new.late ≡ old.late → new.early.items ≡ old.early.items ++ place ∷ [] → IsCounted low new
  counted-early none lt is late early = record {
    late = late ∙ (counted.late ∙ sym (rw is (count-before low place old.marked.items true lt)));
    early = λ i. (
      (λ h. elim (has-push old.early.items place i (rw early at h)) [
        | inl g ↦ let told = (counted.early i).0 g in (told.0, to i told.1)
        | inr e ↦ (subst (λ (k : ℕ). k < low) e lt, subst (λ (k : ℕ). get_or new.marked.items k false ≡ true) e (there true is))
      ]),
      (λ h. rw early (elim (cases_eq i place) [
        | inl e ↦ subst (λ (k : ℕ). Has (old.early.items ++ place ∷ []) k) (sym e) (has-last old.early.items place)
        | inr other ↦ has-kept old.early.items place i ((counted.early i).1 (h.0, sym (elsewhere true i other is) ∙ h.1))
      ])),
    );
    apart = rw early (apart-push old.early.items place counted.apart (λ s. false≢true (sym none ∙ ((counted.early place).0 s).1)));
  }
    where
      to : (i : ℕ) → get_or old.marked.items i false ≡ true → get_or new.marked.items i false ≡ true
      to i h = elim (cases_eq i place) [
        | inl e ↦ subst (λ (k : ℕ). get_or new.marked.items k false ≡ true) (sym e) (there true is)
        | inr other ↦ elsewhere true i other is ∙ h
      ]

  -- one more from there on, or one less
  counted-late : (b : Bool) → low ≤ place → new.marked.items ≡ set old.marked.items place b → new.late ≡ marked_from low new.marked.items
      → new.early.items ≡ old.early.items → IsCounted low new
  counted-late b le is late early = record {
    late = late;
    early = λ i. (
      (λ h. let told = (counted.early i).0 (rw early at h) in (told.0, elsewhere b i (apart i told.0) is ∙ told.1)),
      (λ h. rw early ((counted.early i).1 (h.0, sym (elsewhere b i (apart i h.0) is) ∙ h.1))),
    );
    apart = rw early counted.apart;
  }
    where
      apart : (i : ℕ) → i < low → i ≡ place → ⊥
      apart i lt e = omega (arith, lt, le, e)

  pub counted-more : get_or old.marked.items place false ≡ false → low ≤ place → new.marked.items ≡ set old.marked.items place true
      → new.late ≡ old.late + 1 → new.early.items ≡ old.early.items → IsCounted low new
  counted-more none le is late early =
      counted-late true le is (rw is (
      let more = count-set low place old.marked.items true le within in
      let zero : ℕ = 0 in
      let before : cond (get_or old.marked.items place false) 1 0 ≡ zero = ap bit none in
      omega (arith, more, before, late, counted.late)
      )) early

  pub counted-less : get_or old.marked.items place false ≡ true → low ≤ place → new.marked.items ≡ set old.marked.items place false
      → new.late ≡ old.late - 1 → new.early.items ≡ old.early.items → IsCounted low new
  counted-less some le is late early =
      counted-late false le is (rw is (
      let more = count-set low place old.marked.items false le within in
      let one : ℕ = 1 in
      let before : cond (get_or old.marked.items place false) 1 0 ≡ one = ap bit some in
      omega (arith, more, before, late, counted.late)
      )) early
