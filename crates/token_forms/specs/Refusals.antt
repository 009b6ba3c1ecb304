-- Where tokens stop being the beginning of some that spell a value, and why.
use Rattle.std.specs.Prelude.{◌≡◌, ◌≢◌, ◌⊎◌, ℕ, zero, suc, List, [], ◌∷◌, ◌++◌, Option, Some, None, Bool, true, false}
use Rattle.ir_lexer.specs.Lexeme.{Lexeme}
use Rattle.ir_tree.specs.declared.module.Reason.{Reason}
use Rattle.ir_tree.specs.declared.module.Reason.TheVariants.{Syntax}
use Rattle.token_forms.specs.Form.{never, Form, give, one, seq, upto, peek, tail, balanced, mapped}
use Rattle.token_forms.specs.declared.bracket.Bracket.{Bracket}
use Rattle.token_forms.specs.declared.bracket.Nesting.TheVariants.{Closes}
use Rattle.token_forms.specs.Brackets.{nesting_of, IsInnermost}
use Rattle.token_forms.specs.Spelling.{Token, IsNone, part_begins, Spells}

-- the tokens are the beginning of what spells a value, with limits lifted
abbrev pub Begins : {o : Lexeme → Bool} {X : Type 0} → Form o X → List Lexeme → Type 0
Begins {o} {X} f front = (more : List Lexeme) × (x : X) × Spells false f x (front ++ more) []

-- the first token is of the class, and passes its limit
pub record Exceeds {A : Type 0} (stands : Lexeme → Option A) (within : Lexeme → Bool) (tokens rest : List Lexeme) : Type 0 where
  pub first : Lexeme
  pub others : List Lexeme
  pub value : A
  pub split : tokens ≡ first ∷ others
  pub here : tokens ≡ rest
  pub stands_for : stands first ≡ Some value
  pub exceeds : within first ≡ false

abbrev pub ExceedParts : {A S : Type 0} → (Lexeme → Bool) → (S → Lexeme → Option A) → (S → Lexeme → Bool) → (S → A → S → List Lexeme → List Lexeme → Type 0) → (S → A → List Lexeme → List Lexeme → Type 0) → ℕ → S → List Lexeme → List Lexeme → Type 0
ExceedParts {A} {S} goes_on begins within part exceed zero s tokens rest =
    Exceeds (part_begins goes_on (begins s)) (within s) tokens rest
    ⊎ ((a : A) × (inside : List Lexeme) × Token true (part_begins goes_on (begins s)) (within s) a tokens inside × exceed s a inside rest)
ExceedParts {A} {S} goes_on begins within part exceed (suc n) s tokens rest =
    (a : A) × (inside : List Lexeme) × (next : S) × (behind : List Lexeme) × Token true (part_begins goes_on (begins s)) (within s) a tokens inside × part s a next inside behind × ExceedParts goes_on begins within part exceed n next behind rest

-- the tokens before rest keep the limits, and the first of rest is allowed and passes one
abbrev pub PassesLimit : {o : Lexeme → Bool} {X : Type 0} → Form o X → List Lexeme → List Lexeme → Type 0
PassesLimit (give y) tokens rest = ⊥
PassesLimit (one c) tokens rest = Exceeds c.stands c.within tokens rest
PassesLimit (seq {A} f k) tokens rest = PassesLimit f tokens rest ⊎ ((a : A) × (mid : List Lexeme) × Spells true f a tokens mid × PassesLimit (k a) mid rest)
PassesLimit (upto {A} f c fits) tokens rest = PassesLimit f tokens rest ⊎ ((a : A) × (mid : List Lexeme) × Spells true f a tokens mid × Exceeds (c a).stands (c a).within mid rest)
PassesLimit (peek {A} {B} c f d g) tokens rest =
    Exceeds c.stands c.within tokens rest
    ⊎ ((a : A) × (mid : List Lexeme) × Token true c.stands c.within a tokens mid × PassesLimit (f a) mid rest)
    ⊎ (IsNone c.stands tokens × Exceeds d.stands d.within tokens rest)
    ⊎ (IsNone c.stands tokens × (b : B) × (mid : List Lexeme) × Token true d.stands d.within b tokens mid × PassesLimit (g b) mid rest)
PassesLimit {o} {X} (tail goes_on begins within part f) tokens rest =
    PassesLimit f tokens rest
    ⊎ ((s : X) × (mid : List Lexeme) × Spells true f s tokens mid × (n : ℕ) × ExceedParts goes_on begins within (λ s' a next inside behind. Spells true (part s' a) next inside behind) (λ s' a inside rest'. PassesLimit (part s' a) inside rest') n s mid rest)
PassesLimit (balanced b) tokens rest = ⊥
PassesLimit (mapped k f) tokens rest = PassesLimit f tokens rest

-- the first token isn't of the class, which gives the reason; with none left it is a syntax error
abbrev pub Misses : {A : Type 0} → (Lexeme → Option A) → (Lexeme → Reason) → List Lexeme → List Lexeme → Reason → Type 0
Misses stands reason [] rest r = ([] ≡ rest) × (Syntax ≡ r)
Misses stands reason (t ∷ others) rest r = (t ∷ others ≡ rest) × (stands t ≡ None) × (reason t ≡ r)

abbrev pub MissParts : {A S : Type 0} → (Lexeme → Bool) → (S → Lexeme → Option A) → (S → Lexeme → Bool) → (S → A → S → List Lexeme → List Lexeme → Type 0) → (S → A → List Lexeme → List Lexeme → Type 0) → ℕ → S → List Lexeme → List Lexeme → Type 0
MissParts {A} {S} goes_on begins within part miss zero s tokens rest =
    (a : A) × (inside : List Lexeme) × Token true (part_begins goes_on (begins s)) (within s) a tokens inside × miss s a inside rest
MissParts {A} {S} goes_on begins within part miss (suc n) s tokens rest =
    (a : A) × (inside : List Lexeme) × (next : S) × (behind : List Lexeme) × Token true (part_begins goes_on (begins s)) (within s) a tokens inside × part s a next inside behind × MissParts goes_on begins within part miss n next behind rest

-- the first token closes another bracket than this one, or none is left
abbrev pub LeavesOpen : Bracket → List Lexeme → Type 0
LeavesOpen b [] = Unit {0}
LeavesOpen b (t ∷ rest) = (c : Bracket) × (nesting_of t ≡ Closes c) × (c ≢ b)

-- the tokens before rest are in this bracket, and the first of rest doesn't close the innermost one
pub record StaysOpen (b : Bracket) (tokens rest : List Lexeme) : Type 0 where
  pub inside : List Lexeme
  pub innermost : Bracket
  pub split : tokens ≡ inside ++ rest
  pub is_innermost : IsInnermost b innermost inside
  pub leaves_open : LeavesOpen innermost rest

-- the tokens before rest are allowed, and a class that the first of rest isn't of gives this reason
abbrev pub RefusedAs : {o : Lexeme → Bool} {X : Type 0} → Form o X → Reason → List Lexeme → List Lexeme → Type 0
RefusedAs (give y) r tokens rest = ⊥
RefusedAs (one c) r tokens rest = Misses c.stands c.reason tokens rest r
RefusedAs (seq {A} f k) r tokens rest = RefusedAs f r tokens rest ⊎ ((a : A) × (mid : List Lexeme) × Spells true f a tokens mid × RefusedAs (k a) r mid rest)
RefusedAs (upto {A} f c fits) r tokens rest = RefusedAs f r tokens rest ⊎ ((a : A) × (mid : List Lexeme) × Spells true f a tokens mid × Misses (c a).stands (c a).reason mid rest r)
RefusedAs (peek {A} {B} c f d g) r tokens rest =
    ((a : A) × (mid : List Lexeme) × Token true c.stands c.within a tokens mid × RefusedAs (f a) r mid rest)
    ⊎ (IsNone c.stands tokens × Misses d.stands d.reason tokens rest r)
    ⊎ (IsNone c.stands tokens × (b : B) × (mid : List Lexeme) × Token true d.stands d.within b tokens mid × RefusedAs (g b) r mid rest)
RefusedAs {o} {X} (tail goes_on begins within part f) r tokens rest =
    RefusedAs f r tokens rest
    ⊎ ((s : X) × (mid : List Lexeme) × Spells true f s tokens mid × (n : ℕ) × MissParts goes_on begins within (λ s' a next inside behind. Spells true (part s' a) next inside behind) (λ s' a inside rest'. RefusedAs (part s' a) r inside rest') n s mid rest)
RefusedAs (balanced b) r tokens rest = StaysOpen b tokens rest × (Syntax ≡ r)
RefusedAs (mapped k f) r tokens rest = RefusedAs f r tokens rest

-- The first of rest is the first token that isn't allowed: those before it begin what spells a
-- value, and with it they don't. None passes a limit.
pub record StopsUnfit {X : Type 0} (f : Form never X) (tokens rest : List Lexeme) : Type 0 where
  pub front : List Lexeme
  pub split : tokens ≡ front ++ rest
  pub begins : Begins f front
  pub keeps : (later : List Lexeme) → PassesLimit f tokens later → ⊥
  pub first : (t : Lexeme) (others : List Lexeme) → rest ≡ t ∷ others → Begins f (front ++ t ∷ []) → ⊥

-- The first of rest is allowed, and is the first that passes a limit.
pub record StopsPast {X : Type 0} (f : Form never X) (tokens rest : List Lexeme) : Type 0 where
  pub front : List Lexeme
  pub token : Lexeme
  pub others : List Lexeme
  pub split : tokens ≡ front ++ rest
  pub is : rest ≡ token ∷ others
  pub stands : Begins f (front ++ token ∷ [])
  pub passes : PassesLimit f tokens rest
