-- Tokens that have the classes and bytes of printed pieces, and what a form makes of them.
use Rattle.read_back.proofs.Common.{◌≡◌, ℕ, zero, suc, List, [], ◌∷◌, ◌++◌, map, Bool, true, false, Option, Some, inl, inr, refl, sym, subst, ap, Place, Kind, Lexeme, Class, Form, never, give, one, seq, upto, peek, tail, mapped, Token, part_begins, PlainParts, SpellsPlainly, Piece, spelled}

-- the first token has the class and the bytes of the piece
pub record IsPiece (p : Piece) (ts others : List Lexeme) : Type 0 where
  pub token : Lexeme
  pub split : ts ≡ token ∷ others
  pub kind : token.kind ≡ p.kind
  pub text : token.text ≡ p.text

-- so do the tokens before rest and the pieces
abbrev pub Matches : List Piece → List Lexeme → List Lexeme → Type 0
Matches [] ts rest = ts ≡ rest
Matches (p ∷ ps) ts rest = (others : List Lexeme) × IsPiece p ts others × Matches ps others rest

pub all-match : (pieces : List Piece) (ts : List Lexeme)
    → map spelled ts ≡ map (λ (p : Piece). (p.kind, p.text)) pieces → Matches pieces ts []
all-match [] [] e = refl
all-match [] (t ∷ ts) e = absurd (cc e)
all-match (p ∷ ps) [] e = absurd (cc e)
all-match (p ∷ ps) (t ∷ ts) e =
    let first : (let a : Kind × List ℕ = (t.kind, t.text) in a) ≡ (p.kind, p.text) = cc e in
    let others : map spelled ts ≡ map (λ (q : Piece). (q.kind, q.text)) ps = cc e in (
      ts,
      record {
        token = t;
        split = refl;
        kind = ap (λ a. a.0) first;
        text = ap (λ a. a.1) first;
      },
      all-match ps ts others,
    )

-- the point where pieces come after others
pub record MatchesBoth (ps qs : List Piece) (ts rest : List Lexeme) : Type 0 where
  pub mid : List Lexeme
  pub before : Matches ps ts mid
  pub behind : Matches qs mid rest

pub both-match : (ps qs : List Piece) (ts rest : List Lexeme) → Matches (ps ++ qs) ts rest
    → MatchesBoth ps qs ts rest
both-match [] qs ts rest m = record { mid = ts; before = refl; behind = m }
both-match (p ∷ ps) qs ts rest (others, is, m) =
    let both = both-match ps qs others rest m in
    record { mid = both.mid; before = (others, is, both.before); behind = both.behind }

-- a token as a piece is, wherever it is
abbrev pub as_piece : Piece → Lexeme → Lexeme
as_piece p t = record t { kind = p.kind; text = p.text }

as-itself : (p : Piece) (t : Lexeme) → t.kind ≡ p.kind → t.text ≡ p.text → as_piece p t ≡ t
as-itself p t k x = rw (← k, ← x) refl

-- what a piece denotes at each position, within the limits
pub record Reads {A : Type 0} (stands : Lexeme → Option A) (within : Lexeme → Bool) (p : Piece)
    (a : Place → A) : Type 0 where
  pub stands_for : (t : Lexeme) → stands (as_piece p t) ≡ Some (a t.place)
  pub keeps : (t : Lexeme) → within (as_piece p t) ≡ true

taken : {A : Type 0} (stands : Lexeme → Option A) (within : Lexeme → Bool) (p : Piece)
    (a : Place → A) (ts others : List Lexeme) → Reads stands within p a → (is : IsPiece p ts others)
    → Token true stands within (a is.token.place) ts others
taken stands within p a ts others reads is =
    let same = as-itself p is.token is.kind is.text in
    record {
      first = is.token;
      split = is.split;
      stands_for = subst
          (λ (u : Lexeme). stands u ≡ Some (a u.place)) same (reads.stands_for is.token);
      keeps = subst (λ (u : Lexeme). within u ≡ true) same (reads.keeps is.token);
    }

-- the tokens of the pieces spell a value of which this holds
pub record IsSpelled {o : Lexeme → Bool} {X : Type 0} (f : Form o X) (pieces : List Piece)
    (Is : X → Type 0) : Type 0 where
  pub spells : (ts rest : List Lexeme) → Matches pieces ts rest
      → (x : X) × SpellsPlainly true f x ts rest × Is x

pub spelled-give : {X : Type 0} {Is : X → Type 0} {x : X} → Is x → IsSpelled (give x) [] Is
spelled-give {X} {Is} {x} is = record { spells = λ ts rest m. (x, (refl, m), is) }

pub spelled-one : {A : Type 0} {Is : A → Type 0} {c : Class A} {p : Piece} (a : Place → A)
    → Reads c.stands c.within p a → ((at : Place) → Is (a at)) → IsSpelled (one c) (p ∷ []) Is
spelled-one {A} {Is} {c} {p} a reads is =
    record {
      spells = λ ts rest (others, i, e). (
        a i.token.place,
        subst
            (λ (r : List Lexeme). Token true c.stands c.within (a i.token.place) ts r) e
            (taken c.stands c.within p a ts others reads i),
        is i.token.place,
      );
    }

-- one token, and what depends on it
pub one-then : {A X : Type 0} {o : Lexeme → Bool} {Is : X → Type 0} {c : Class A} {k : A → Form o X}
    {p : Piece} {ps : List Piece} (a : Place → A) → Reads c.stands c.within p a
    → ((at : Place) → IsSpelled (k (a at)) ps Is) → IsSpelled (seq (one c) k) (p ∷ ps) Is
one-then {c = c} {p = p} a reads next = record {
  spells = λ ts rest (others, i, m).
      let found = (next i.token.place).spells others rest m in (
        found.0,
        (a i.token.place, others, taken c.stands c.within p a ts others reads i, found.1),
        found.2,
      );
}

-- a form, and what depends on its value
pub seq-then : {A X : Type 0} {o : Lexeme → Bool} {S : A → Type 0} {Is : X → Type 0}
    {f : Form never A} {k : A → Form o X} (ps qs : List Piece) → IsSpelled f ps S
    → ((a : A) → S a → IsSpelled (k a) qs Is) → IsSpelled (seq f k) (ps ++ qs) Is
seq-then ps qs first next = record {
  spells = λ ts rest m.
      let both = both-match ps qs ts rest m in
      let a = first.spells ts both.mid both.before in
      let x = (next a.0 a.2).spells both.mid rest both.behind in
      (x.0, (a.0, both.mid, a.1, x.1), x.2);
}

pub seq-last : {A X : Type 0} {o : Lexeme → Bool} {S : A → Type 0} {Is : X → Type 0}
    {f : Form never A} {k : A → Form o X} {ps : List Piece} → IsSpelled f ps S
    → ((a : A) → S a → IsSpelled (k a) [] Is) → IsSpelled (seq f k) ps Is
seq-last first next = record {
  spells = λ ts rest m.
      let a = first.spells ts rest m in
      let x = (next a.0 a.2).spells rest rest refl in
      (x.0, (a.0, rest, a.1, x.1), x.2);
}

-- a form, the token after it, and what depends on both
pub upto-then : {A B X : Type 0} {p : Lexeme → Bool} {o : Lexeme → Bool} {S : A → Type 0}
    {Is : X → Type 0} {f : Form p A} {c : A → Class B} {fits : (a : A) → p (c a).sample ≡ false}
    {k : A × B → Form o X} (ps qs : List Piece) (q : Piece) (b : Place → B) → IsSpelled f ps S
    → ((a : A) → S a → Reads (c a).stands (c a).within q b)
    → ((a : A) → S a → (at : Place) → IsSpelled (k (a, b at)) qs Is)
    → IsSpelled (seq (upto f c fits) k) (ps ++ q ∷ qs) Is
upto-then {A} {B} {c = c} ps qs q b first reads next = record {
  spells = λ ts rest m.
      let both = both-match ps (q ∷ qs) ts rest m in
      let (others, i, behind) = both.behind in
      let a = first.spells ts both.mid both.before in
      let x = (next a.0 a.2 i.token.place).spells others rest behind in (
        x.0,
        (
          (a.0, b i.token.place),
          others,
          (
            both.mid,
            a.1,
            taken (c a.0).stands (c a.0).within q b both.mid others
                (reads a.0 a.2) i,
          ),
          x.1,
        ),
        x.2,
      );
}

-- the same, where the value of the form is known
pub seq-is : {A X : Type 0} {o : Lexeme → Bool} {Is : X → Type 0} {f : Form never A}
    {k : A → Form o X} (b : Place → A) (ps qs : List Piece)
    → IsSpelled f ps (λ a. (at : Place) × (a ≡ b at)) → ((at : Place) → IsSpelled (k (b at)) qs Is)
    → IsSpelled (seq f k) (ps ++ qs) Is
seq-is {A} {Is = Is} {k = k} b ps qs first next =
    seq-then ps qs first (λ a (at, e). subst (λ (y : A). IsSpelled (k y) qs Is) (sym e) (next at))

pub upto-is : {A B X : Type 0} {p : Lexeme → Bool} {o : Lexeme → Bool} {Is : X → Type 0}
    {f : Form p A} {c : A → Class B} {fits : (a : A) → p (c a).sample ≡ false}
    {k : A × B → Form o X} (a : A) (ps qs : List Piece) (q : Piece) (b : Place → B)
    → IsSpelled f ps (λ x. x ≡ a) → Reads (c a).stands (c a).within q b
    → ((at : Place) → IsSpelled (k (a, b at)) qs Is) → IsSpelled (seq (upto f c fits) k)
    (ps ++ q ∷ qs) Is
upto-is {A} {Is = Is} {c = c} {k = k} a ps qs q b first reads next =
    upto-then ps qs q b first
    (λ x e. subst (λ (y : A). Reads (c y).stands (c y).within q b) (sym e) reads)
    (λ x e at. subst (λ (y : A). IsSpelled (k (y, b at)) qs Is) (sym e) (next at))

pub peek-first : {A B X : Type 0} {o : Lexeme → Bool} {Is : X → Type 0} {c : Class A} {d : Class B}
    {f : A → Form o X} {g : B → Form o X} {p : Piece} {ps : List Piece} (a : Place → A)
    → Reads c.stands c.within p a → ((at : Place) → IsSpelled (f (a at)) ps Is)
    → IsSpelled (peek c f d g) (p ∷ ps) Is
peek-first {c = c} {p = p} a reads next = record {
  spells = λ ts rest (others, i, m).
      let x = (next i.token.place).spells others rest m in
      (x.0, inl (a i.token.place, others, taken c.stands c.within p a ts others reads i, x.1), x.2);
}

pub peek-second : {A B X : Type 0} {o : Lexeme → Bool} {Is : X → Type 0} {c : Class A} {d : Class B}
    {f : A → Form o X} {g : B → Form o X} {p : Piece} {ps : List Piece} (b : Place → B)
    → Reads d.stands d.within p b → ((at : Place) → IsSpelled (g (b at)) ps Is)
    → IsSpelled (peek c f d g) (p ∷ ps) Is
peek-second {d = d} {p = p} b reads next = record {
  spells = λ ts rest (others, i, m).
      let x = (next i.token.place).spells others rest m in
      (x.0, inr (b i.token.place, others, taken d.stands d.within p b ts others reads i, x.1), x.2);
}

pub spelled-mapped : {A X : Type 0} (o : Lexeme → Bool) {Is : X → Type 0} {k : A → X} {f : Form o A}
    {ps : List Piece} → IsSpelled f ps (λ a. Is (k a)) → IsSpelled (mapped k f) ps Is
spelled-mapped o {k = k} found =
    record {
      spells = λ ts rest m. let a = found.spells ts rest m in (k a.0, (a.0, a.1, refl), a.2);
    }

-- what is weaker holds too
pub spelled-as : {X : Type 0} {o : Lexeme → Bool} {S Is : X → Type 0} {f : Form o X}
    {ps : List Piece} → IsSpelled f ps S → ((x : X) → S x → Is x) → IsSpelled f ps Is
spelled-as found weaker =
    record { spells = λ ts rest m. let x = found.spells ts rest m in (x.0, x.1, weaker x.0 x.2) }

-- ---- parts

-- the tokens of the pieces spell parts, from this state on, to a state of which this holds
pub record AreSpelled {A S : Type 0} {o : Lexeme → Bool} (goes_on : Lexeme → Bool)
    (begins : S → Lexeme → Option A) (within : S → Lexeme → Bool) (part : S → A → Form o S) (s : S)
    (pieces : List Piece) (Is : S → Type 0) : Type 0 where
  pub parts : (ts rest : List Lexeme) → Matches pieces ts rest
      → (x : S) × (n : ℕ) × PlainParts true goes_on begins within
      (λ s' a next inside behind. SpellsPlainly true (part s' a) next inside behind)
      n s x ts rest × Is x

pub no-more : {A S : Type 0} {o : Lexeme → Bool} {goes_on : Lexeme → Bool}
    {begins : S → Lexeme → Option A} {within : S → Lexeme → Bool} {part : S → A → Form o S} {s : S}
    {Is : S → Type 0} → Is s → AreSpelled goes_on begins within part s [] Is
no-more {s = s} is = record { parts = λ ts rest m. (s, zero, (refl, m), is) }

pub one-more : {A S : Type 0} {o : Lexeme → Bool} {goes_on : Lexeme → Bool}
    {begins : S → Lexeme → Option A} {within : S → Lexeme → Bool} {part : S → A → Form o S} {s : S}
    {Next Is : S → Type 0} (p : Piece) (ps qs : List Piece) (a : Place → A)
    → Reads (part_begins goes_on (begins s)) (within s) p a
    → ((at : Place) → IsSpelled (part s (a at)) ps Next)
    → ((next : S) → Next next → AreSpelled goes_on begins within part next qs Is)
    → AreSpelled goes_on begins within part s (p ∷ ps ++ qs) Is
one-more {goes_on = goes_on} {begins = begins} {within = within} {s = s} p ps qs a reads here more =
    record {
      parts = λ ts rest (others, i, m).
          let both = both-match ps qs others rest m in
          let next = (here i.token.place).spells others both.mid both.before in
          let x = (more next.0 next.2).parts both.mid rest both.behind in (
            x.0,
            suc x.1,
            (
              a i.token.place,
              others,
              next.0,
              both.mid,
              taken (part_begins goes_on (begins s))
                  (within s) p a ts others reads i,
              next.1,
              x.2,
            ),
            x.3,
          );
    }

-- a part of one token, after which the state is this
pub given-more : {A S : Type 0} {o : Lexeme → Bool} {goes_on : Lexeme → Bool}
    {begins : S → Lexeme → Option A} {within : S → Lexeme → Bool} {part : S → A → Form o S} {s : S}
    {Is : S → Type 0} {p : Piece} {qs : List Piece} (a : Place → A) (b : Place → S)
    → Reads (part_begins goes_on (begins s)) (within s) p a
    → ((at : Place) (ts : List Lexeme) → SpellsPlainly true (part s (a at)) (b at) ts ts)
    → ((at : Place) → AreSpelled goes_on begins within part (b at) qs Is)
    → AreSpelled goes_on begins within part s (p ∷ qs) Is
given-more {goes_on = goes_on} {begins = begins} {within = within} {s = s} {p = p}
    a b reads here more =
    record {
      parts = λ ts rest (others, i, m).
          let x = (more i.token.place).parts others rest m in (
            x.0,
            suc x.1,
            (
              a i.token.place,
              others,
              b i.token.place,
              others,
              taken (part_begins goes_on (begins s))
                  (within s) p a ts others reads i,
              here i.token.place others,
              x.2,
            ),
            x.3,
          );
    }

-- a part after which the state is this
pub more-is : {A S : Type 0} {o : Lexeme → Bool} {goes_on : Lexeme → Bool}
    {begins : S → Lexeme → Option A} {within : S → Lexeme → Bool} {part : S → A → Form o S} {s : S}
    {Is : S → Type 0} (next : S) (p : Piece) (ps qs : List Piece) (a : Place → A)
    → Reads (part_begins goes_on (begins s)) (within s) p a
    → ((at : Place) → IsSpelled (part s (a at)) ps (λ x. x ≡ next))
    → AreSpelled goes_on begins within part next qs Is
    → AreSpelled goes_on begins within part s (p ∷ ps ++ qs) Is
more-is {S = S} {goes_on = goes_on} {begins = begins} {within = within} {part = part} {Is = Is}
    next p ps qs a reads here more =
    one-more p ps qs a reads here
    (λ x e. subst (λ (y : S). AreSpelled goes_on begins within part y qs Is) (sym e) more)

pub more-as : {A S : Type 0} {o : Lexeme → Bool} {goes_on : Lexeme → Bool}
    {begins : S → Lexeme → Option A} {within : S → Lexeme → Bool} {part : S → A → Form o S} {s : S}
    {First Is : S → Type 0} {ps : List Piece} → AreSpelled goes_on begins within part s ps First
    → ((x : S) → First x → Is x) → AreSpelled goes_on begins within part s ps Is
more-as found weaker =
    record { parts = λ ts rest m. let x = found.parts ts rest m in (x.0, x.1, x.2, weaker x.0 x.3) }

-- a word of which the state after it is made
pub flag-more : {S : Type 0} {goes_on : Lexeme → Bool} {begins : S → Lexeme → Option S}
    {within : S → Lexeme → Bool} {s : S} {Is : S → Type 0} {p : Piece} {qs : List Piece} (next : S)
    → Reads (part_begins goes_on (begins s)) (within s) p (λ at. next)
    → AreSpelled goes_on begins within (λ s' a. give a) next qs Is
    → AreSpelled goes_on begins within (λ s' a. give a) s (p ∷ qs) Is
flag-more next reads more =
    given-more (λ at. next) (λ at. next) reads (λ at ts. (refl, refl)) (λ at. more)

-- a form, and parts after it
pub spelled-tail : {A S : Type 0} (goes_on f-on o : Lexeme → Bool) {begins : S → Lexeme → Option A}
    {within : S → Lexeme → Bool} {part : S → A → Form o S} {f : Form f-on S} {First Is : S → Type 0}
    (ps qs : List Piece)
    → IsSpelled f ps First → ((s : S) → First s → AreSpelled goes_on begins within part s qs Is)
    → IsSpelled (tail goes_on begins within part f) (ps ++ qs) Is
spelled-tail goes_on f-on o ps qs first more = record {
  spells = λ ts rest m.
      let both = both-match ps qs ts rest m in
      let s = first.spells ts both.mid both.before in
      let x = (more s.0 s.2).parts both.mid rest both.behind in
      (x.0, (s.0, both.mid, s.1, x.1, x.2), x.3);
}

-- a form alone
pub tail-alone : {A S : Type 0} (goes_on f-on o : Lexeme → Bool) {begins : S → Lexeme → Option A}
    {within : S → Lexeme → Bool} {part : S → A → Form o S} {f : Form f-on S} {Is : S → Type 0}
    {ps : List Piece} → IsSpelled f ps Is → IsSpelled (tail goes_on begins within part f) ps Is
tail-alone goes_on f-on o first =
    record {
      spells = λ ts rest m. let s = first.spells ts rest m in
          (s.0, (s.0, rest, s.1, zero, (refl, refl)), s.2);
    }

-- a state at the start, and parts after it
pub tail-from : {A S : Type 0} (goes_on o : Lexeme → Bool) {begins : S → Lexeme → Option A}
    {within : S → Lexeme → Bool} {part : S → A → Form o S} {s : S} {Is : S → Type 0}
    {ps : List Piece}
    → AreSpelled goes_on begins within part s ps Is
    → IsSpelled (tail goes_on begins within part (give s)) ps Is
tail-from goes_on o {s = s} more =
    record {
      spells = λ ts rest m. let x = more.parts ts rest m in
          (x.0, (s, ts, (refl, refl), x.1, x.2), x.3);
    }
