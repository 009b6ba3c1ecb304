-- What a form gives that some tokens of bytes spell, apart from those tokens.
use Rattle.read_back.proofs.Common.{◌≡◌, ◌⊎◌, ℕ, zero, suc, inl, inr, Bool, true, List, [], ◌∷◌, ◌++◌, Option, Some, subst, All-head, All-tail, Lexeme, Form, give, one, seq, upto, peek, tail, balanced, mapped, Token, part_begins, SpellParts, Spells, IsOfBytes}
use Rattle.std.proofs.Common.{All}

-- some token of bytes denotes x, within the limits
pub record Stands {A : Type 0} (stands : Lexeme → Option A) (within : Lexeme → Bool) (x : A) : Type 0 where
  pub token : Lexeme
  pub bytes : IsOfBytes token
  pub stands_for : stands token ≡ Some x
  pub keeps : within token ≡ true

-- n parts lead from one state to the other
abbrev pub GivesParts : {A S : Type 0} → (Lexeme → Bool) → (S → Lexeme → Option A) → (S → Lexeme → Bool) → (S → A → S → Type 0) → ℕ → S → S → Type 0
GivesParts goes_on begins within part zero s x = s ≡ x
GivesParts {A} {S} goes_on begins within part (suc n) s x = (a : A) × (next : S) × Stands (part_begins goes_on (begins s)) (within s) a × part s a next × GivesParts goes_on begins within part n next x

-- some tokens of bytes spell x
abbrev pub Gives : {o : Lexeme → Bool} {X : Type 0} → Form o X → X → Type 0
Gives (give y) x = y ≡ x
Gives (one c) x = Stands c.stands c.within x
Gives (seq {A} f k) x = (a : A) × Gives f a × Gives (k a) x
Gives (upto f c fits) x = Gives f x.0 × Stands (c x.0).stands (c x.0).within x.1
Gives (peek {A} {B} c f d g) x = ((a : A) × Stands c.stands c.within a × Gives (f a) x) ⊎ ((b : B) × Stands d.stands d.within b × Gives (g b) x)
Gives {o} {X} (tail goes_on begins within part f) x = (s : X) × Gives f s × (n : ℕ) × GivesParts goes_on begins within (λ s' a next. Gives (part s' a) next) n s x
Gives (balanced b) x = Unit {0}
Gives (mapped {A} k f) x = (a : A) × Gives f a × (k a ≡ x)

-- ---- what is spelled is given, and the tokens after it are of bytes too

abbrev AreOfBytes : List Lexeme → Type 0
AreOfBytes ts = All IsOfBytes ts

abbrev With : Type 0 → List Lexeme → Type 0
With G rest = G × AreOfBytes rest

behind : (ts us : List Lexeme) → AreOfBytes (ts ++ us) → AreOfBytes us
behind [] us all = all
behind (t ∷ ts) us all = behind ts us (All-tail IsOfBytes t (ts ++ us) all)

token-stands : {A : Type 0} (stands : Lexeme → Option A) (within : Lexeme → Bool) (x : A) (ts rest : List Lexeme) → AreOfBytes ts → Token true stands within x ts rest → With (Stands stands within x) rest
token-stands stands within x ts rest all T =
    let here : AreOfBytes (T.first ∷ rest) = subst AreOfBytes T.split all in
    (record { token = T.first; bytes = All-head IsOfBytes T.first rest here; stands_for = T.stands_for; keeps = T.keeps }, All-tail IsOfBytes T.first rest here)

parts-given : {A S : Type 0} (goes_on : Lexeme → Bool) (begins : S → Lexeme → Option A) (within : S → Lexeme → Bool) (spells : S → A → S → List Lexeme → List Lexeme → Type 0) (gives : S → A → S → Type 0)
    → ((s : S) (a : A) (next : S) (inside after : List Lexeme) → AreOfBytes inside → spells s a next inside after → With (gives s a next) after)
    → (n : ℕ) (s x : S) (ts rest : List Lexeme) → AreOfBytes ts → SpellParts true goes_on begins within spells n s x ts rest → With (GivesParts goes_on begins within gives n s x) rest
parts-given goes_on begins within spells gives one-part zero s x ts rest all (same, left, ended) = (same, subst AreOfBytes left all)
parts-given goes_on begins within spells gives one-part (suc n) s x ts rest all (a, inside, next, after, T, P, more) =
    let B = token-stands (part_begins goes_on (begins s)) (within s) a ts inside all T in
    let G = one-part s a next inside after B.1 P in
    let M = parts-given goes_on begins within spells gives one-part n next x after rest G.1 more in
    ((a, next, B.0, G.0, M.0), M.1)

given : {o : Lexeme → Bool} {X : Type 0} (f : Form o X) (x : X) (ts rest : List Lexeme) → AreOfBytes ts → Spells true f x ts rest → With (Gives f x) rest
given (give y) x ts rest all (same, left) = (same, subst AreOfBytes left all)
given (one c) x ts rest all T = token-stands c.stands c.within x ts rest all T
given (seq f k) x ts rest all (a, mid, P, Q) =
    let F = given f a ts mid all P in
    let K = given (k a) x mid rest F.1 Q in
    ((a, F.0, K.0), K.1)
given (upto f c fits) x ts rest all (mid, P, T) =
    let F = given f x.0 ts mid all P in
    let L = token-stands (c x.0).stands (c x.0).within x.1 mid rest F.1 T in
    ((F.0, L.0), L.1)
given (peek c f d g) x ts rest all (inl (a, mid, T, P)) =
    let L = token-stands c.stands c.within a ts mid all T in
    let F = given (f a) x mid rest L.1 P in
    (inl (a, L.0, F.0), F.1)
given (peek c f d g) x ts rest all (inr (nothing, b, mid, T, P)) =
    let L = token-stands d.stands d.within b ts mid all T in
    let F = given (g b) x mid rest L.1 P in
    (inr (b, L.0, F.0), F.1)
given {o} {X} (tail {A} goes_on begins within part f) x ts rest all (s, mid, P, n, more) =
    let F = given f s ts mid all P in
    let one-part : (s' : X) (a : A) (next : X) (inside after : List Lexeme) → AreOfBytes inside → Spells true (part s' a) next inside after → With (Gives (part s' a) next) after = λ s' a next inside after all' P'. given (part s' a) next inside after all' P' in
    let M = parts-given goes_on begins within (λ s' a next inside after. Spells true (part s' a) next inside after) (λ s' a next. Gives (part s' a) next) one-part n s x mid rest F.1 more in
    ((s, F.0, n, M.0), M.1)
given (balanced b) x ts rest all C = (tt, All-tail IsOfBytes C.last rest (behind C.inside (C.last ∷ rest) (subst AreOfBytes C.split all)))
given (mapped k f) x ts rest all (a, P, same) =
    let F = given f a ts rest all P in
    ((a, F.0, same), F.1)

pub spelled-given : {o : Lexeme → Bool} {X : Type 0} (f : Form o X) (x : X) (ts rest : List Lexeme) → AreOfBytes ts → Spells true f x ts rest → Gives f x
spelled-given f x ts rest all S = let G = given f x ts rest all S in G.0
