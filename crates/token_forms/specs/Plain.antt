-- The plain grammar of a form, which has no lookahead, and the forms that spell as it does.
use Rattle.std.specs.Prelude.{◌≡◌, ◌⊎◌, ◌↔◌, ℕ, zero, suc, List, [], Option, None, Bool, true, is_some}
use Rattle.ir_lexer.specs.Lexeme.{Lexeme}
use Rattle.token_forms.specs.Form.{Form, give, one, seq, upto, peek, tail, balanced, mapped}
use Rattle.token_forms.specs.Brackets.{IsClosed}
use Rattle.token_forms.specs.Spelling.{Token, part_begins, Spells}

-- n parts, whatever comes then
abbrev pub PlainParts : {A S : Type 0} → Bool → (Lexeme → Bool) → (S → Lexeme → Option A) → (S → Lexeme → Bool) → (S → A → S → List Lexeme → List Lexeme → Type 0) → ℕ → S → S → List Lexeme → List Lexeme → Type 0
PlainParts limits goes_on begins within part zero s x tokens rest = (s ≡ x) × (tokens ≡ rest)
PlainParts {A} {S} limits goes_on begins within part (suc n) s x tokens rest =
    (a : A) × (inside : List Lexeme) × (next : S) × (behind : List Lexeme) × Token limits (part_begins goes_on (begins s)) (within s) a tokens inside × part s a next inside behind × PlainParts limits goes_on begins within part n next x behind rest

-- the tokens before rest spell x, with any number of parts and either alternative
abbrev pub SpellsPlainly : {o : Lexeme → Bool} {X : Type 0} → Bool → Form o X → X → List Lexeme → List Lexeme → Type 0
SpellsPlainly limits (give y) x tokens rest = (y ≡ x) × (tokens ≡ rest)
SpellsPlainly limits (one c) x tokens rest = Token limits c.stands c.within x tokens rest
SpellsPlainly limits (seq {A} f k) x tokens rest = (a : A) × (mid : List Lexeme) × SpellsPlainly limits f a tokens mid × SpellsPlainly limits (k a) x mid rest
SpellsPlainly limits (upto f c fits) x tokens rest = (mid : List Lexeme) × SpellsPlainly limits f x.0 tokens mid × Token limits (c x.0).stands (c x.0).within x.1 mid rest
SpellsPlainly limits (peek {A} {B} c f d g) x tokens rest =
    ((a : A) × (mid : List Lexeme) × Token limits c.stands c.within a tokens mid × SpellsPlainly limits (f a) x mid rest)
    ⊎ ((b : B) × (mid : List Lexeme) × Token limits d.stands d.within b tokens mid × SpellsPlainly limits (g b) x mid rest)
SpellsPlainly {o} {X} limits (tail goes_on begins within part f) x tokens rest =
    (s : X) × (mid : List Lexeme) × SpellsPlainly limits f s tokens mid × (n : ℕ) × PlainParts limits goes_on begins within (λ s' a next inside behind. SpellsPlainly limits (part s' a) next inside behind) n s x mid rest
SpellsPlainly limits (balanced b) x tokens rest = IsClosed b tokens rest
SpellsPlainly limits (mapped {A} k f) x tokens rest = (a : A) × SpellsPlainly limits f a tokens rest × (k a ≡ x)

-- no token that passes the test is of the class
abbrev pub AreApart : {A : Type 0} → (Lexeme → Bool) → (Lexeme → Option A) → Type 0
AreApart test stands = (t : Lexeme) → test t ≡ true → stands t ≡ None

-- No token that may go on with a form is of the class that comes after it: of the one that ends it,
-- or of the first tokens of parts. And no token begins both of two alternatives.
abbrev pub TellsApart : {o : Lexeme → Bool} {X : Type 0} → Form o X → Type 0
TellsApart (give y) = Unit {0}
TellsApart (one c) = Unit {0}
TellsApart (seq {A} f k) = TellsApart f × ((a : A) → TellsApart (k a))
TellsApart (upto {A} {B} {o} f c fits) = TellsApart f × ((a : A) → AreApart o (c a).stands)
TellsApart (peek {A} {B} c f d g) = AreApart (λ t. is_some (c.stands t)) d.stands × ((a : A) → TellsApart (f a)) × ((b : B) → TellsApart (g b))
TellsApart (tail {A} {S} {o} {p} goes_on begins within part f) =
    TellsApart f × ((s : S) → AreApart p (part_begins goes_on (begins s))) × ((s : S) → AreApart o (part_begins goes_on (begins s))) × ((s : S) (a : A) → TellsApart (part s a))
TellsApart (balanced b) = Unit {0}
TellsApart (mapped k f) = TellsApart f

-- Whole texts are spelled exactly where they are spelled plainly: looking one token ahead loses nothing.
abbrev pub SpellsAsPlain : {o : Lexeme → Bool} {X : Type 0} → Form o X → Type 0
SpellsAsPlain {o} {X} f = (limits : Bool) (x : X) (tokens : List Lexeme) → SpellsPlainly limits f x tokens [] ↔ Spells limits f x tokens []

-- No text is spelled plainly by two values.
abbrev pub SpellsOne : {o : Lexeme → Bool} {X : Type 0} → Form o X → Type 0
SpellsOne {o} {X} f = (limits : Bool) (x y : X) (tokens : List Lexeme) → SpellsPlainly limits f x tokens [] → SpellsPlainly limits f y tokens [] → x ≡ y
