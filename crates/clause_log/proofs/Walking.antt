-- A clause is joined to marks literal by literal. Marks are given by the sign of each variable.
use Rattle.clause_log.proofs.Common.{ℕ, ◌≡◌, ◌<◌, ◌+◌, Bool, true, false, cond, eqb, List, [], ◌∷◌, Option, Some, None, length, get_or, drop, arith, subst, refl, ap, ◌∙◌, eq-eqb, ne_eqb, drop_more, Lit}

abbrev pub alike : Bool → Bool → Bool
alike p q = cond p q (cond q false true)

-- how a variable is marked after a literal of it comes
abbrev pub met : Option Bool → Bool → Option Bool
met None s = Some s
met (Some p) s = cond (alike p s) (Some p) None

abbrev pub clash : Option Bool → Bool → ℕ
clash None s = 0
clash (Some p) s = cond (alike p s) 0 1

-- the signs after a variable's becomes another
abbrev pub changed : (ℕ → Option Bool) → ℕ → Option Bool → ℕ → Option Bool
changed signs variable m v = cond (eqb v variable) m (signs v)

-- the signs after a literal comes
abbrev pub after : (ℕ → Option Bool) → Lit → ℕ → Option Bool
after signs y = changed signs y.variable (met (signs y.variable) y.positive)

-- the signs after these literals come
abbrev pub walked : (ℕ → Option Bool) → List Lit → ℕ → Option Bool
walked signs [] = signs
walked signs (y ∷ ys) = walked (after signs y) ys

-- how many of them clash
abbrev pub clashing : (ℕ → Option Bool) → List Lit → ℕ
clashing signs [] = 0
clashing signs (y ∷ ys) = clash (signs y.variable) y.positive + clashing (after signs y) ys

-- each of them is marked with its sign
abbrev pub AllMarked : (ℕ → Option Bool) → List Lit → Type 0
AllMarked signs [] = Unit {0}
AllMarked signs (y ∷ ys) = (signs y.variable ≡ Some y.positive) × AllMarked signs ys

pub changed-same : (signs : ℕ → Option Bool) (i : ℕ) (m : Option Bool) → changed signs i m i ≡ m
changed-same signs i m = rw (eq-eqb i i refl) refl

pub changed-other : (signs : ℕ → Option Bool) (i j : ℕ) (m : Option Bool) → (j ≡ i → ⊥) → changed signs i m j ≡ signs j
changed-other signs i j m other = rw (ne_eqb j i other) refl

module _ (f g : ℕ → Option Bool) (same : (v : ℕ) → f v ≡ g v) where
  after-alike : (y : Lit) (v : ℕ) → after f y v ≡ after g y v
  after-alike y v =
      ap (λ m. cond (eqb v y.variable) (met m y.positive) (f v)) (same y.variable)
      ∙ ap (λ m. cond (eqb v y.variable) (met (g y.variable) y.positive) m) (same v)

pub walked-alike : (f g : ℕ → Option Bool) → ((v : ℕ) → f v ≡ g v) → (ys : List Lit) (v : ℕ) → walked f ys v ≡ walked g ys v
walked-alike f g same [] v = same v
walked-alike f g same (y ∷ ys) v = walked-alike (after f y) (after g y) (after-alike f g same y) ys v

pub clashing-alike : (f g : ℕ → Option Bool) → ((v : ℕ) → f v ≡ g v) → (ys : List Lit) → clashing f ys ≡ clashing g ys
clashing-alike f g same [] = refl
clashing-alike f g same (y ∷ ys) =
    ap (λ m. clash m y.positive + clashing (after f y) ys) (same y.variable)
    ∙ ap (λ n. clash (g y.variable) y.positive + n) (clashing-alike (after f y) (after g y) (after-alike f g same y) ys)

-- the literals that are left take the signs now to what all of them take the first signs to
pub record IsWalk (start now : ℕ → Option Bool) (all rest : List Lit) (clashed : Bool) : Type 0 where
  pub signs : (v : ℕ) → walked now rest v ≡ walked start all v
  pub count : cond clashed 1 0 + clashing now rest ≡ clashing start all

abbrev pub literal_at : List Lit → ℕ → Lit
literal_at ys i = get_or ys i (record { variable = 0; positive = false })

-- the next literal of a walk
pub walk-split : (start now : ℕ → Option Bool) (all : List Lit) (i : ℕ) (clashed : Bool) → i < length all
    → IsWalk start now all (drop i all) clashed → IsWalk start now all (literal_at all i ∷ drop (i + 1) all) clashed
walk-split start now all i clashed lt walk =
    subst (λ (rest : List Lit). IsWalk start now all rest clashed) (drop_more all i (record { variable = 0; positive = false }) lt) walk

pub walk-more : (start now next : ℕ → Option Bool) (all rest : List Lit) (y : Lit) (clashed clashes : Bool) → IsWalk start now all (y ∷ rest) clashed
    → ((v : ℕ) → next v ≡ after now y v) → cond clashed 1 0 + clash (now y.variable) y.positive ≡ cond clashes 1 0
    → IsWalk start next all rest clashes
walk-more start now next all rest y clashed clashes walk step count = record {
  signs = λ v. walked-alike next (after now y) step rest v ∙ walk.signs v;
  count =
      let alike = clashing-alike next (after now y) step rest in
      omega (arith, alike, count, walk.count);
}
