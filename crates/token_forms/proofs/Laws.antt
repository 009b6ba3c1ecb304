-- What holds of a reading function.
use Rattle.token_forms.proofs.Common.{◌≡◌, ◌⊎◌, inl, inr, Bool, true, false, List, [], ◌∷◌, ◌++◌, refl, sym, subst, ◌||◌, not, Lexeme, Reason, never, either, Why, unfit, limit, Reading, reads, stops}

abbrev Tokens : Type 0
Tokens = List Lexeme

abbrev Reader : Type 0 → Type 0
Reader X = Tokens → Reading X

-- no token at the start goes on
abbrev pub is_free : (Lexeme → Bool) → Tokens → Bool
is_free o [] = true
is_free o (t ∷ r) = not (o t)

abbrev pub SameHead : Tokens → Tokens → Type 0
SameHead [] [] = Unit {0}
SameHead [] (u ∷ r) = ⊥
SameHead (t ∷ q) [] = ⊥
SameHead (t ∷ q) (u ∷ r) = t ≡ u

abbrev pub Follows : (Lexeme → Bool) → Tokens → Tokens → Type 0
Follows o rest r = SameHead rest r ⊎ (is_free o r ≡ true)

-- the tokens that were read, and that the value depends only on these and the next one
pub record Whole {X : Type 0} (o : Lexeme → Bool) (g : Reader X) (ts : Tokens) (x : X) (rest : Tokens) : Type 0 where
  pub front : Tokens
  pub split : ts ≡ front ++ rest
  pub again : (r : Tokens) → Follows o rest r → g (front ++ r) ≡ reads x r

-- with these tokens more it is whole, whatever comes then
pub record Ends {X : Type 0} (o : Lexeme → Bool) (h : Reader X) (front : Tokens) : Type 0 where
  pub more : Tokens
  pub value : X
  pub whole : (r : Tokens) → is_free o r ≡ true → h (front ++ (more ++ r)) ≡ reads value r

pub record Past {X : Type 0} (o : Lexeme → Bool) (h : Reader X) (front rest : Tokens) : Type 0 where
  pub token : Lexeme
  pub others : Tokens
  pub is : rest ≡ token ∷ others
  pub ends : Ends o h (front ++ token ∷ [])

-- the tokens before the stop can go on; it depends only on these and the next one
pub record Halts {X : Type 0} (o : Lexeme → Bool) (g h : Reader X) (ts : Tokens) (why : Why) (rest : Tokens) : Type 0 where
  pub front : Tokens
  pub split : ts ≡ front ++ rest
  pub again : (t : Lexeme) (q r : Tokens) → rest ≡ t ∷ q → g (front ++ t ∷ r) ≡ stops why (t ∷ r)
  pub ends : Ends o h front
  pub past_limit : why ≡ limit → Past o h front rest

-- g keeps the limits, or not; h doesn't
pub record Lawful {X : Type 0} (o : Lexeme → Bool) (g h : Reader X) : Type 0 where
  pub whole : (ts : Tokens) (x : X) (rest : Tokens) → g ts ≡ reads x rest → Whole o g ts x rest
  pub halts : (ts : Tokens) (why : Why) (rest : Tokens) → g ts ≡ stops why rest → Halts o g h ts why rest
  pub lifts : (ts : Tokens) (x : X) (rest : Tokens) → g ts ≡ reads x rest → h ts ≡ reads x rest
  pub lifts_unfit : (ts : Tokens) (reason : Reason) (rest : Tokens) → g ts ≡ stops (unfit reason) rest → h ts ≡ stops (unfit reason) rest
  pub ends : Ends o h []

-- ---- what may come next

pub free-never : (r : Tokens) → is_free never r ≡ true
free-never [] = refl
free-never (t ∷ r) = refl

pub free-left : (p q : Lexeme → Bool) (r : Tokens) → is_free (either p q) r ≡ true → is_free p r ≡ true
free-left p q [] e = refl
free-left p q (t ∷ r) e = go (p t) (q t) e
  where
    go : (x y : Bool) → not (x || y) ≡ true → not x ≡ true
    go true y e = e
    go false y e = refl

pub free-right : (p q : Lexeme → Bool) (r : Tokens) → is_free (either p q) r ≡ true → is_free q r ≡ true
free-right p q [] e = refl
free-right p q (t ∷ r) e = go (p t) (q t) e
  where
    go : (x y : Bool) → not (x || y) ≡ true → not y ≡ true
    go true y e = absurd (cc e)
    go false y e = e

pub follows-right : (p q : Lexeme → Bool) (rest r : Tokens) → Follows (either p q) rest r → Follows q rest r
follows-right p q rest r (inl same) = inl same
follows-right p q rest r (inr free) = inr (free-right p q r free)

pub follows-left : (p q : Lexeme → Bool) (rest r : Tokens) → Follows (either p q) rest r → Follows p rest r
follows-left p q rest r (inl same) = inl same
follows-left p q rest r (inr free) = inr (free-left p q r free)

-- ---- the same first token

pub same-head : (p q r : Tokens) (t : Lexeme) → SameHead (p ++ t ∷ q) (p ++ t ∷ r)
same-head [] q r t = refl
same-head (u ∷ p) q r t = refl

pub same-head-at : (ts p q r : Tokens) (t : Lexeme) → ts ≡ p ++ t ∷ q → SameHead ts (p ++ t ∷ r)
same-head-at ts p q r t e = subst (λ (us : Tokens). SameHead us (p ++ t ∷ r)) (sym e) (same-head p q r t)
