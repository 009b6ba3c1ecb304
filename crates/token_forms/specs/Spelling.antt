-- Which tokens spell a value.
use Rattle.std.specs.Prelude.{◌≡◌, ◌⊎◌, ℕ, zero, suc, List, [], ◌∷◌, Option, Some, None, Bool, true, false}
use Rattle.ir_lexer.specs.Lexeme.{Lexeme}
use Rattle.token_forms.specs.Form.{Form, give, one, seq, upto, peek, tail, balanced, mapped}
use Rattle.token_forms.specs.Brackets.{IsClosed}

-- a token keeps its limit, where limits are kept
abbrev pub Keeps : Bool → Bool → Type 0
Keeps true within = within ≡ true
Keeps false within = Unit {0}

-- the first token is of the class and denotes x
pub record Token {A : Type 0} (limits : Bool) (stands : Lexeme → Option A) (within : Lexeme → Bool) (x : A) (tokens rest : List Lexeme) : Type 0 where
  pub first : Lexeme
  pub split : tokens ≡ first ∷ rest
  pub stands_for : stands first ≡ Some x
  pub keeps : Keeps limits (within first)

abbrev pub IsNone : {A : Type 0} → (Lexeme → Option A) → List Lexeme → Type 0
IsNone stands [] = Unit {0}
IsNone stands (t ∷ rest) = stands t ≡ None

-- what a part begins with
abbrev pub part_value : {A : Type 0} → Bool → Option A → Option A
part_value true value = value
part_value false value = None

abbrev pub part_begins : {A : Type 0} → (Lexeme → Bool) → (Lexeme → Option A) → Lexeme → Option A
part_begins goes_on begins t = part_value (goes_on t) (begins t)

-- n parts, and then no other begins
abbrev pub SpellParts : {A S : Type 0} → Bool → (Lexeme → Bool) → (S → Lexeme → Option A) → (S → Lexeme → Bool) → (S → A → S → List Lexeme → List Lexeme → Type 0) → ℕ → S → S → List Lexeme → List Lexeme → Type 0
SpellParts limits goes_on begins within part zero s x tokens rest = (s ≡ x) × (tokens ≡ rest) × IsNone (part_begins goes_on (begins s)) rest
SpellParts {A} {S} limits goes_on begins within part (suc n) s x tokens rest =
    (a : A) × (inside : List Lexeme) × (next : S) × (behind : List Lexeme) × Token limits (part_begins goes_on (begins s)) (within s) a tokens inside × part s a next inside behind × SpellParts limits goes_on begins within part n next x behind rest

-- the tokens before rest spell x
abbrev pub Spells : {o : Lexeme → Bool} {X : Type 0} → Bool → Form o X → X → List Lexeme → List Lexeme → Type 0
Spells limits (give y) x tokens rest = (y ≡ x) × (tokens ≡ rest)
Spells limits (one c) x tokens rest = Token limits c.stands c.within x tokens rest
Spells limits (seq {A} f k) x tokens rest = (a : A) × (mid : List Lexeme) × Spells limits f a tokens mid × Spells limits (k a) x mid rest
Spells limits (upto f c fits) x tokens rest = (mid : List Lexeme) × Spells limits f x.0 tokens mid × Token limits (c x.0).stands (c x.0).within x.1 mid rest
Spells limits (peek {A} {B} c f d g) x tokens rest =
    ((a : A) × (mid : List Lexeme) × Token limits c.stands c.within a tokens mid × Spells limits (f a) x mid rest)
    ⊎ (IsNone c.stands tokens × (b : B) × (mid : List Lexeme) × Token limits d.stands d.within b tokens mid × Spells limits (g b) x mid rest)
Spells {o} {X} limits (tail goes_on begins within part f) x tokens rest =
    (s : X) × (mid : List Lexeme) × Spells limits f s tokens mid × (n : ℕ) × SpellParts limits goes_on begins within (λ s' a next inside behind. Spells limits (part s' a) next inside behind) n s x mid rest
Spells limits (balanced b) x tokens rest = IsClosed b tokens rest
Spells limits (mapped {A} k f) x tokens rest = (a : A) × Spells limits f a tokens rest × (k a ≡ x)
