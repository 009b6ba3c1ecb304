-- Forms: which tokens follow one another, and the value that they spell.
use Rattle.std.specs.Prelude.{◌≡◌, ℕ, zero, suc, List, [], ◌∷◌, length, Option, Some, None, Bool, true, false, ◌||◌, not, if◌then◌else◌}
use Rattle.ir_lexer.specs.Lexeme.{Lexeme}
use Rattle.ir_tree.specs.declared.module.Reason.{Reason}
use Rattle.ir_tree.specs.declared.module.Reason.TheVariants.{Syntax}
use Rattle.token_forms.specs.declared.bracket.Bracket.{Bracket}
use Rattle.token_forms.specs.declared.bracket.Nesting.{Nesting}
use Rattle.token_forms.specs.declared.bracket.Nesting.TheVariants.{Opens, Closes, Plain}
use Rattle.token_forms.specs.Brackets.{nesting_of, is_same}

-- A class of tokens: the value that a token denotes, whether that keeps the limits, and the reason
-- that a token outside the class gives. Some token of the class is named, so that what was begun
-- can be ended.
pub record Class (A : Type 0) : Type 0 where
  pub stands : Lexeme → Option A
  pub within : Lexeme → Bool
  pub reason : Lexeme → Reason
  pub sample : Lexeme
  pub value : A
  pub fits : stands sample ≡ Some value

-- whether a token goes on with what is whole already
abbrev pub never : Lexeme → Bool
never t = false

abbrev pub either : (Lexeme → Bool) → (Lexeme → Bool) → Lexeme → Bool
either p q t = p t || q t

-- A form of tokens that spell a value. The test says which tokens may go on with a form that is whole.
pub data Form : (Lexeme → Bool) → Type 0 → Type 1 where
  -- no token
  give : {X : Type 0} → X → Form never X
  -- one token of a class
  one : {A : Type 0} → Class A → Form never A
  -- a form that nothing goes on with, and then what depends on its value
  seq : {A X : Type 0} {o : Lexeme → Bool} → Form never A → (A → Form o X) → Form o X
  -- a form, and then a token of a class, of which one at least doesn't go on with the form
  upto : {A B : Type 0} {o : Lexeme → Bool} → Form o A → (c : A → Class B) → ((a : A) → o (c a).sample ≡ false) → Form never (A × B)
  -- what begins with a token of the one class, or else with one of the other
  peek : {A B X : Type 0} {o : Lexeme → Bool} → Class A → (A → Form o X) → Class B → (B → Form o X) → Form o X
  -- a form, and parts, as long as the next token begins one; each changes a state that the form gives
  tail : {A S : Type 0} {o p : Lexeme → Bool} → (goes_on : Lexeme → Bool) → (begins : S → Lexeme → Option A) → (within : S → Lexeme → Bool) → (part : S → A → Form o S) → Form p S → Form (either p (either goes_on o)) S
  -- after the mark that opens a bracket, any tokens up to the one that closes it, in which brackets
  -- nest and match
  balanced : Bracket → Form never (Unit {0})
  -- a form whose value is seen another way
  mapped : {A X : Type 0} {o : Lexeme → Bool} → (A → X) → Form o A → Form (either o never) X

infixl 10 ◌>>=◌
abbrev pub ◌>>=◌ : {A X : Type 0} {o : Lexeme → Bool} → Form never A → (A → Form o X) → Form o X
f >>= k = seq f k

-- why reading stops: the next token isn't allowed, for this reason, or it is and passes a limit
pub data Why : Type 0 where
  unfit : Reason → Why
  limit : Why

-- what reading gives: a value and the tokens after it, or why it stops and the tokens from there on
pub data Reading (X : Type 0) : Type 0 where
  reads : X → List Lexeme → Reading X
  stops : Why → List Lexeme → Reading X

abbrev pub and_then : {A X : Type 0} → Reading A → (A → List Lexeme → Reading X) → Reading X
and_then (reads a rest) k = k a rest
and_then (stops why rest) k = stops why rest

-- what a token is: none of the class, one past the limits, or one for this value
pub data Judged (A : Type 0) : Type 0 where
  none : Judged A
  past : Judged A
  found : A → Judged A

-- with limits or with limits lifted
abbrev pub judged : {A : Type 0} → Bool → Bool → Option A → Judged A
judged limits within None = none
judged limits within (Some a) = (if not limits || within then found a else past)

abbrev pub taken : {A : Type 0} → Judged A → Reason → Lexeme → List Lexeme → Reading A
taken none reason t rest = stops (unfit reason) (t ∷ rest)
taken past reason t rest = stops limit (t ∷ rest)
taken (found a) reason t rest = reads a rest

abbrev pub token_of : {A : Type 0} → Bool → (Lexeme → Option A) → (Lexeme → Bool) → (Lexeme → Reason) → List Lexeme → Reading A
token_of limits stands within reason [] = stops (unfit Syntax) []
token_of limits stands within reason (t ∷ rest) = taken (judged limits (within t) (stands t)) (reason t) t rest

abbrev pub one_of : {A : Type 0} → Bool → Class A → List Lexeme → Reading A
one_of limits c tokens = token_of limits c.stands c.within c.reason tokens

-- by the class of the first token
abbrev pub first_of : {A X : Type 0} → Judged A → Lexeme → List Lexeme → (A → List Lexeme → Reading X) → (List Lexeme → Reading X) → Reading X
first_of none t rest with_it without = without (t ∷ rest)
first_of past t rest with_it without = stops limit (t ∷ rest)
first_of (found a) t rest with_it without = with_it a rest

abbrev pub peeked : {A X : Type 0} → Bool → Class A → (A → List Lexeme → Reading X) → (List Lexeme → Reading X) → List Lexeme → Reading X
peeked limits c with_it without [] = without []
peeked limits c with_it without (t ∷ rest) = first_of (judged limits (c.within t) (c.stands t)) t rest with_it without

-- the value with which a part begins here
abbrev pub begun : {A : Type 0} → Bool → Bool → Bool → Option A → Judged A
begun limits within goes_on value = (if goes_on then judged limits within value else none)

-- the value with which a part begins, where one does
abbrev pub beginning : {A : Type 0} → Judged A → Lexeme → List Lexeme → Reading (Option A)
beginning none t rest = reads None (t ∷ rest)
beginning past t rest = stops limit (t ∷ rest)
beginning (found a) t rest = reads (Some a) rest

abbrev pub begin_of : {A : Type 0} → Bool → (Lexeme → Bool) → (Lexeme → Option A) → (Lexeme → Bool) → List Lexeme → Reading (Option A)
begin_of limits goes_on begins within [] = reads None []
begin_of limits goes_on begins within (t ∷ rest) = beginning (begun limits (within t) (goes_on t) (begins t)) t rest

-- parts in at most n steps
unfoldable pub parts : {A S : Type 0} → Bool → (Lexeme → Bool) → (S → Lexeme → Option A) → (S → Lexeme → Bool) → (S → A → List Lexeme → Reading S) → ℕ → S → List Lexeme → Reading S
parts limits goes_on begins within part zero s ts = reads s ts
parts limits goes_on begins within part (suc n) s [] = reads s []
parts limits goes_on begins within part (suc n) s (t ∷ ts) =
    first_of (begun limits (within s t) (goes_on t) (begins s t)) t ts (λ a rest. and_then (part s a rest) (λ s' rest'. parts limits goes_on begins within part n s' rest')) (λ rest. reads s rest)

-- without the innermost of the open brackets, if it is this one
abbrev pub closed_by : Bracket → List Bracket → Option (List Bracket)
closed_by c [] = None
closed_by c (b ∷ outer) = (if is_same c b then Some outer else None)

-- the brackets open after one more token, the innermost first; None where it closes another one
abbrev pub open_behind : Nesting → List Bracket → Option (List Bracket)
open_behind Plain open_brackets = Some open_brackets
open_behind (Opens c) open_brackets = Some (c ∷ open_brackets)
open_behind (Closes c) open_brackets = closed_by c open_brackets

abbrev pub fitting : Option (List Bracket) → Lexeme → List Lexeme → (List Bracket → Reading (Unit {0})) → Reading (Unit {0})
fitting None t rest go_on = stops (unfit Syntax) (t ∷ rest)
fitting (Some open_brackets) t rest go_on = go_on open_brackets

-- up to where no bracket is open
unfoldable pub until_closed : List Bracket → List Lexeme → Reading (Unit {0})
until_closed [] ts = reads tt ts
until_closed (b ∷ outer) [] = stops (unfit Syntax) []
until_closed (b ∷ outer) (t ∷ ts) = fitting (open_behind (nesting_of t) (b ∷ outer)) t ts (λ open_brackets. until_closed open_brackets ts)

-- reading from the left, with limits or with limits lifted
abbrev pub read : {o : Lexeme → Bool} {X : Type 0} → Bool → Form o X → List Lexeme → Reading X
read limits (give x) ts = reads x ts
read limits (one c) ts = one_of limits c ts
read limits (seq f k) ts = and_then (read limits f ts) (λ a rest. read limits (k a) rest)
read limits (upto f c fits) ts = and_then (read limits f ts) (λ a rest. and_then (one_of limits (c a) rest) (λ b rest'. reads (a, b) rest'))
read limits (peek c f d g) ts = peeked limits c (λ a rest. read limits (f a) rest) (λ rest. and_then (one_of limits d rest) (λ b rest'. read limits (g b) rest')) ts
read limits (tail goes_on begins within part f) ts = and_then (read limits f ts) (λ s rest. parts limits goes_on begins within (λ s' a rest'. read limits (part s' a) rest') (length rest) s rest)
read limits (balanced b) ts = until_closed (b ∷ []) ts
read limits (mapped k f) ts = and_then (read limits f ts) (λ a rest. reads (k a) rest)

-- whether the first token passes a test
abbrev pub first_is : (Lexeme → Bool) → List Lexeme → Bool
first_is test [] = false
first_is test (t ∷ rest) = test t

-- one more part, if one begins, and whether one did
abbrev pub step_from : {A S : Type 0} → (S → A → List Lexeme → Reading S) → S → Option A → List Lexeme → Reading (S × Bool)
step_from part s None rest = reads (s, false) rest
step_from part s (Some a) rest = and_then (part s a rest) (λ next behind. reads (next, true) behind)

abbrev pub step_of : {A S : Type 0} → (Lexeme → Bool) → (S → Lexeme → Option A) → (S → Lexeme → Bool) → (S → A → List Lexeme → Reading S) → S → List Lexeme → Reading (S × Bool)
step_of goes_on begins within part s tokens = and_then (begin_of true goes_on (begins s) (within s) tokens) (λ a rest. step_from part s a rest)
