-- Forms that distinguish what comes next spell as the plain grammar does.
use Rattle.token_forms.proofs.Common.{◌≡◌, ℕ, zero, suc, inl, inr, Bool, true, false, List, [], ◌∷◌, Option, Some, None, refl, sym, ap, subst, ◌∙◌, not, ◌||◌, is_some, Lexeme, never, either, Form, give, one, seq, upto, peek, tail, balanced, mapped, reads, Token, IsNone, part_value, part_begins, SpellParts, Spells}
use Rattle.ir_lexer.specs.declared.token.Kind.{Kind}
use Rattle.token_forms.specs.Plain.{PlainParts, SpellsPlainly, AreApart, TellsApart, SpellsAsPlain, SpellsOne}
use Rattle.token_forms.proofs.Exact.{read-again}
use Rattle.token_forms.proofs.Laws.{is_free, free-never, free-left, free-right}

abbrev Tokens : Type 0
Tokens = List Lexeme

-- a token of the class doesn't pass the test
apart-free : {A : Type 0} (limits : Bool) (o : Lexeme → Bool) (stands : Lexeme → Option A) (within : Lexeme → Bool) (a : A) (ts rest : Tokens) → AreApart o stands → Token limits stands within a ts rest → is_free o ts ≡ true
apart-free limits o stands within a ts rest apart T = subst (λ (us : Tokens). is_free o us ≡ true) (sym T.split) (go (o T.first) refl)
  where
    go : (b : Bool) → o T.first ≡ b → is_free o (T.first ∷ rest) ≡ true
    go false is = ap not is
    go true is = let no : None ≡ Some a = sym (apart T.first is) ∙ T.stands_for in absurd (cc no)

-- a token of the one class isn't of the other
not-other : {A B : Type 0} (one-stands : Lexeme → Option A) (other-stands : Lexeme → Option B) (t : Lexeme) (b : B) → AreApart (λ u. is_some (one-stands u)) other-stands → other-stands t ≡ Some b → one-stands t ≡ None
not-other {A} {B} one-stands other-stands t b apart is = go (one-stands t) refl
  where
    go : (o : Option A) → one-stands t ≡ o → o ≡ None
    go None e = refl
    go (Some a) e = let never-both : None ≡ Some b = sym (apart t (ap is_some e)) ∙ is in absurd (cc never-both)

-- where nothing goes on, no part begins
no-part : {A : Type 0} (goes_on : Lexeme → Bool) (begins : Lexeme → Option A) (rest : Tokens) → is_free goes_on rest ≡ true → IsNone (part_begins goes_on begins) rest
no-part goes_on begins [] free = tt
no-part goes_on begins (t ∷ rest) free = go (goes_on t) free
  where
    go : (b : Bool) → not b ≡ true → part_value b (begins t) ≡ None
    go false f = refl
    go true f = absurd (cc f)

module _ {A S : Type 0} (limits : Bool) (o goes_on : Lexeme → Bool) (begins : S → Lexeme → Option A) (within : S → Lexeme → Bool) (plain spell : S → A → S → Tokens → Tokens → Type 0)
    (one-part : (s : S) (a : A) (x : S) (ts rest : Tokens) → is_free o rest ≡ true → plain s a x ts rest → spell s a x ts rest)
    (apart : (s : S) → AreApart o (part_begins goes_on (begins s))) where
  -- the first token of parts, or what comes after them
  parts-free : (test : Lexeme → Bool) → ((s : S) → AreApart test (part_begins goes_on (begins s))) → (n : ℕ) (s x : S) (ts rest : Tokens) → is_free test rest ≡ true → PlainParts limits goes_on begins within plain n s x ts rest → is_free test ts ≡ true
  parts-free test tells zero s x ts rest free (same, left) = subst (λ (us : Tokens). is_free test us ≡ true) (sym left) free
  parts-free test tells (suc n) s x ts rest free (a, inside, next, behind, T, P, more) = apart-free limits test (part_begins goes_on (begins s)) (within s) a ts inside (tells s) T

  parts-spelled : (n : ℕ) (s x : S) (ts rest : Tokens) → is_free goes_on rest ≡ true → is_free o rest ≡ true → PlainParts limits goes_on begins within plain n s x ts rest → SpellParts limits goes_on begins within spell n s x ts rest
  parts-spelled zero s x ts rest ended free (same, left) = (same, left, no-part goes_on (begins s) rest ended)
  parts-spelled (suc n) s x ts rest ended free (a, inside, next, behind, T, P, more) =
      (a, inside, next, behind, T, one-part s a next inside behind (parts-free o apart n next x behind rest free more) P, parts-spelled n next x behind rest ended free more)

-- where the next token doesn't go on
pub plain-spelled : {o : Lexeme → Bool} {X : Type 0} (limits : Bool) (f : Form o X) → TellsApart f → (x : X) (ts rest : Tokens) → is_free o rest ≡ true → SpellsPlainly limits f x ts rest → Spells limits f x ts rest
plain-spelled limits (give y) apart x ts rest free P = P
plain-spelled limits (one c) apart x ts rest free P = P
plain-spelled limits (seq f k) (F, K) x ts rest free (a, mid, P, Q) = (a, mid, plain-spelled limits f F a ts mid (free-never mid) P, plain-spelled limits (k a) (K a) x mid rest free Q)
plain-spelled limits (upto {A} {B} {o} f c fits) (F, C) x ts rest free (mid, P, T) =
    (mid, plain-spelled limits f F x.0 ts mid (apart-free limits o (c x.0).stands (c x.0).within x.1 mid rest (C x.0) T) P, T)
plain-spelled limits (peek c f d g) (C, F, G) x ts rest free (inl (a, mid, T, P)) = inl (a, mid, T, plain-spelled limits (f a) (F a) x mid rest free P)
plain-spelled limits (peek c f d g) (C, F, G) x ts rest free (inr (b, mid, T, P)) =
    inr (subst (λ us. IsNone c.stands us) (sym T.split) (not-other c.stands d.stands T.first b C T.stands_for), b, mid, T, plain-spelled limits (g b) (G b) x mid rest free P)
plain-spelled limits (tail {A} {S} {o} {p} goes_on begins within part f) (F, E, apart, Q) x ts rest free (s, mid, P, n, more) =
    let ended = free-left goes_on o rest (free-right p (either goes_on o) rest free) in
    let parted = free-right goes_on o rest (free-right p (either goes_on o) rest free) in
    let plain : S → A → S → Tokens → Tokens → Type 0 = λ s' a y r r'. SpellsPlainly limits (part s' a) y r r' in
    let spell : S → A → S → Tokens → Tokens → Type 0 = λ s' a y r r'. Spells limits (part s' a) y r r' in
    let one-part : (s' : S) (a : A) (y : S) (r r' : Tokens) → is_free o r' ≡ true → plain s' a y r r' → spell s' a y r r' = λ s' a y r r' e P'. plain-spelled limits (part s' a) (Q s' a) y r r' e P' in
    let start = parts-free limits o goes_on begins within plain spell one-part apart p E n s x mid rest (free-left p (either goes_on o) rest free) more in
    (s, mid, plain-spelled limits f F s ts mid start P, n, parts-spelled limits o goes_on begins within plain spell one-part apart n s x mid rest ended parted more)
plain-spelled limits (balanced b) apart x ts rest free P = P
plain-spelled limits (mapped {A} {X} {o} k f) F x ts rest free (a, P, same) = (a, plain-spelled limits f F a ts rest (free-left o never rest free) P, same)

-- ---- what is spelled is spelled plainly

parts-plain : {A S : Type 0} (limits : Bool) (goes_on : Lexeme → Bool) (begins : S → Lexeme → Option A) (within : S → Lexeme → Bool) (spell plain : S → A → S → Tokens → Tokens → Type 0)
    → ((s : S) (a : A) (x : S) (ts rest : Tokens) → spell s a x ts rest → plain s a x ts rest)
    → (n : ℕ) (s x : S) (ts rest : Tokens) → SpellParts limits goes_on begins within spell n s x ts rest → PlainParts limits goes_on begins within plain n s x ts rest
parts-plain limits goes_on begins within spell plain one-part zero s x ts rest (same, left, ended) = (same, left)
parts-plain limits goes_on begins within spell plain one-part (suc n) s x ts rest (a, inside, next, behind, T, P, more) =
    (a, inside, next, behind, T, one-part s a next inside behind P, parts-plain limits goes_on begins within spell plain one-part n next x behind rest more)

pub spelled-plain : {o : Lexeme → Bool} {X : Type 0} (limits : Bool) (f : Form o X) (x : X) (ts rest : Tokens) → Spells limits f x ts rest → SpellsPlainly limits f x ts rest
spelled-plain limits (give y) x ts rest P = P
spelled-plain limits (one c) x ts rest P = P
spelled-plain limits (seq f k) x ts rest (a, mid, P, Q) = (a, mid, spelled-plain limits f a ts mid P, spelled-plain limits (k a) x mid rest Q)
spelled-plain limits (upto f c fits) x ts rest (mid, P, T) = (mid, spelled-plain limits f x.0 ts mid P, T)
spelled-plain limits (peek c f d g) x ts rest (inl (a, mid, T, P)) = inl (a, mid, T, spelled-plain limits (f a) x mid rest P)
spelled-plain limits (peek c f d g) x ts rest (inr (nothing, b, mid, T, P)) = inr (b, mid, T, spelled-plain limits (g b) x mid rest P)
spelled-plain {o} {X} limits (tail goes_on begins within part f) x ts rest (s, mid, P, n, more) =
    (s, mid, spelled-plain limits f s ts mid P, n, parts-plain limits goes_on begins within (λ s' a y r r'. Spells limits (part s' a) y r r') (λ s' a y r r'. SpellsPlainly limits (part s' a) y r r') (λ s' a y r r' P'. spelled-plain limits (part s' a) y r r' P') n s x mid rest more)
spelled-plain limits (balanced b) x ts rest P = P
spelled-plain limits (mapped k f) x ts rest (a, P, same) = (a, spelled-plain limits f a ts rest P, same)

pub spells-as-plain : {o : Lexeme → Bool} {X : Type 0} (f : Form o X) → TellsApart f → SpellsAsPlain f
spells-as-plain f apart limits x tokens = (λ P. plain-spelled limits f apart x tokens [] refl P, λ P. spelled-plain limits f x tokens [] P)

pub spells-one : {o : Lexeme → Bool} {X : Type 0} (f : Form o X) → TellsApart f → SpellsOne f
spells-one f apart limits x y tokens P Q =
    let both : reads x [] ≡ reads y [] = sym (read-again limits f tokens x [] (plain-spelled limits f apart x tokens [] refl P)) ∙ read-again limits f tokens y [] (plain-spelled limits f apart y tokens [] refl Q) in
    cc both

-- ---- how a form distinguishes what comes next

pub apart-never : {A : Type 0} (stands : Lexeme → Option A) → AreApart never stands
apart-never stands t e = absurd (cc e)

-- a test that passes where one of two does
pub apart-either : {A : Type 0} (p q : Lexeme → Bool) (stands : Lexeme → Option A) → AreApart p stands → AreApart q stands → AreApart (either p q) stands
apart-either p q stands P Q t e = go (p t) (q t) refl refl e
  where
    go : (x y : Bool) → p t ≡ x → q t ≡ y → (x || y) ≡ true → stands t ≡ None
    go true y is is' e' = P t is
    go false true is is' e' = Q t is'
    go false false is is' e' = absurd (cc e')

-- a test that only one spelling of one kind passes
pub apart-spelled : {A : Type 0} (kind : Kind) (text : List ℕ) (test : Lexeme → Bool) (stands : Lexeme → Option A) → ((t : Lexeme) → test t ≡ true → (t.kind ≡ kind) × (t.text ≡ text)) → ((t : Lexeme) → stands (record t { kind = kind; text = text }) ≡ None) → AreApart test stands
apart-spelled kind text test stands only differs t e = let (k, s) = only t e in rw (← k, ← s) at (differs t)

-- the same where the class has only one token of one kind
pub apart-class : {A : Type 0} (kind : Kind) (text : List ℕ) (test : Lexeme → Bool) (stands : Lexeme → Option A) → ((t : Lexeme) (a : A) → stands t ≡ Some a → (t.kind ≡ kind) × (t.text ≡ text)) → ((t : Lexeme) → test (record t { kind = kind; text = text }) ≡ false) → AreApart test stands
apart-class {A} kind text test stands only differs t e = go (stands t) refl
  where
    go : (o : Option A) → stands t ≡ o → o ≡ None
    go None is = refl
    go (Some a) is = let (k, s) = only t a is in let passes-not : test t ≡ false = rw (← k, ← s) at (differs t) in absurd (cc (passes-not, e))

-- what may go on with parts, each of which nothing goes on with
pub apart-tail : {A : Type 0} (goes_on : Lexeme → Bool) (stands : Lexeme → Option A) → AreApart goes_on stands → AreApart (either never (either goes_on never)) stands
apart-tail goes_on stands G = apart-either never (either goes_on never) stands (apart-never stands) (apart-either goes_on never stands G (apart-never stands))
