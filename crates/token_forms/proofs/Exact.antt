-- What is read is what is spelled.
use Rattle.token_forms.proofs.Common.{◌≡◌, ℕ, zero, suc, ◌≤◌, ◌⊎◌, inl, inr, Bool, true, false, cond, List, [], ◌∷◌, length, Option, Some, None, refl, sym, ap, subst, ◌∙◌, arith, ◌||◌, not, Lexeme, Reason, Class, Form, give, one, seq, upto, peek, tail, mapped, Reading, reads, stops, and_then, Judged, none, past, found, judged, taken, token_of, first_of, peeked, begun, parts, read, balanced, length-append, Keeps, Token, IsNone, part_value, part_begins, SpellParts, Spells}
use Rattle.token_forms.proofs.Lawful.{read_lawful}
use Rattle.token_forms.proofs.Balanced.{balanced-found, balanced-again}

abbrev Tokens : Type 0
Tokens = List Lexeme

-- ---- one token

pub judged-stands : {A : Type 0} (limits within : Bool) (o : Option A) (a : A) → judged limits within o ≡ found a → (o ≡ Some a) × Keeps limits within
judged-stands limits within None a e = absurd (cc e)
judged-stands true true (Some x) a e = (cc e, refl)
judged-stands true false (Some x) a e = absurd (cc e)
judged-stands false within (Some x) a e = (cc e, tt)

pub stands-judged : {A : Type 0} (limits within : Bool) (o : Option A) (a : A) → o ≡ Some a → Keeps limits within → judged limits within o ≡ found a
stands-judged true within o a e k = rw (e, k) refl
stands-judged false within o a e k = rw e refl

pub judged-nothing : {A : Type 0} (limits within : Bool) (o : Option A) → judged limits within o ≡ none → o ≡ None
judged-nothing limits within None e = refl
judged-nothing {A} limits within (Some x) e = absurd (go (not limits || within) e)
  where
    go : (c : Bool) → cond c (found x) past ≡ none → ⊥
    go true e' = cc e'
    go false e' = cc e'

pub token-found : {A : Type 0} (limits : Bool) (stands : Lexeme → Option A) (within : Lexeme → Bool) (reason : Lexeme → Reason) (ts : Tokens) (x : A) (rest : Tokens) → token_of limits stands within reason ts ≡ reads x rest → Token limits stands within x ts rest
token-found limits stands within reason [] x rest e = absurd (cc e)
token-found {A} limits stands within reason (t ∷ q) x rest e = go (judged limits (within t) (stands t)) refl e
  where
    go : (j : Judged A) → judged limits (within t) (stands t) ≡ j → taken j (reason t) t q ≡ reads x rest → Token limits stands within x (t ∷ q) rest
    go none is e' = absurd (cc e')
    go past is e' = absurd (cc e')
    go (found a) is e' =
        let same : a ≡ x = cc e' in
        let left : q ≡ rest = cc e' in
        let J = judged-stands limits (within t) (stands t) a is in
        record { first = t; split = ap (λ (us : Tokens). t ∷ us) left; stands_for = J.0 ∙ ap (λ (y : A). Some y) same; keeps = J.1 }

pub token-again : {A : Type 0} (limits : Bool) (stands : Lexeme → Option A) (within : Lexeme → Bool) (reason : Lexeme → Reason) (ts : Tokens) (x : A) (rest : Tokens) → Token limits stands within x ts rest → token_of limits stands within reason ts ≡ reads x rest
token-again limits stands within reason ts x rest T =
    let is = stands-judged limits (within T.first) (stands T.first) x T.stands_for T.keeps in
    ap (token_of limits stands within reason) T.split ∙ rw is refl

-- ---- parts

pub begun-begins : {A : Type 0} (limits within goes_on : Bool) (v : Option A) → begun limits within goes_on v ≡ judged limits within (part_value goes_on v)
begun-begins limits within true v = refl
begun-begins limits within false v = refl

module _ {A S : Type 0} (limits : Bool) (goes_on : Lexeme → Bool) (begins : S → Lexeme → Option A) (within : S → Lexeme → Bool) (part : S → A → Tokens → Reading S) (spell : S → A → S → Tokens → Tokens → Type 0)
    (shorter : (s : S) (a : A) (ts : Tokens) (x : S) (rest : Tokens) → part s a ts ≡ reads x rest → length rest ≤ length ts) where
  abbrev starts : S → Lexeme → Option A
  starts s = part_begins goes_on (begins s)

  pub parts-found : ((s : S) (a : A) (ts : Tokens) (x : S) (rest : Tokens) → part s a ts ≡ reads x rest → spell s a x ts rest) → (n : ℕ) (s : S) (ts : Tokens) (x : S) (rest : Tokens) → length ts ≤ n → parts limits goes_on begins within part n s ts ≡ reads x rest → (m : ℕ) × SpellParts limits goes_on begins within spell m s x ts rest
  unfolding parts
  parts-found found-part zero s [] x rest h e = let nil : [] ≡ rest = cc e in (zero, (cc e, nil, subst (λ (us : Tokens). IsNone (starts s) us) nil tt))
  parts-found found-part zero s (t ∷ q) x rest h e = absurd (omega arith)
  parts-found found-part (suc n) s [] x rest h e = let nil : [] ≡ rest = cc e in (zero, (cc e, nil, subst (λ (us : Tokens). IsNone (starts s) us) nil tt))
  parts-found found-part (suc n) s (t ∷ q) x rest h e = go (λ s1 mid. parts-found found-part n s1 mid x rest) (begun limits (within s t) (goes_on t) (begins s t)) refl e
    where
      go : ((s1 : S) (mid : Tokens) → length mid ≤ n → parts limits goes_on begins within part n s1 mid ≡ reads x rest → (m : ℕ) × SpellParts limits goes_on begins within spell m s1 x mid rest)
          → (j : Judged A) → begun limits (within s t) (goes_on t) (begins s t) ≡ j → first_of j t q (λ a rest'. and_then (part s a rest') (λ s' rest''. parts limits goes_on begins within part n s' rest'')) (λ rest'. reads s rest') ≡ reads x rest → (m : ℕ) × SpellParts limits goes_on begins within spell m s x (t ∷ q) rest
      go rec none is e' =
          let left : t ∷ q ≡ rest = cc e' in
          let nothing = judged-nothing limits (within s t) (part_value (goes_on t) (begins s t)) (sym (begun-begins limits (within s t) (goes_on t) (begins s t)) ∙ is) in
          (zero, (cc e', left, subst (λ (us : Tokens). IsNone (starts s) us) left nothing))
      go rec past is e' = absurd (cc e')
      go rec (found a) is e' = inner (part s a q) refl e'
        where
          inner : (z : Reading S) → part s a q ≡ z → and_then z (λ s' rest''. parts limits goes_on begins within part n s' rest'') ≡ reads x rest → (m : ℕ) × SpellParts limits goes_on begins within spell m s x (t ∷ q) rest
          inner (stops why r) pe ee = absurd (cc ee)
          inner (reads s1 mid) pe ee =
              let J = judged-stands limits (within s t) (part_value (goes_on t) (begins s t)) a (sym (begun-begins limits (within s t) (goes_on t) (begins s t)) ∙ is) in
              let more = rec s1 mid (omega (arith, shorter s a q s1 mid pe)) ee in
              (suc more.0, (a, q, s1, mid, record { first = t; split = refl; stands_for = J.0; keeps = J.1 }, found-part s a q s1 mid pe, more.1))

  begun-again : (m : ℕ) (s s1 : S) (a : A) (t : Lexeme) (ts rest : Tokens) → begun limits (within s t) (goes_on t) (begins s t) ≡ found a → part s a ts ≡ reads s1 rest → parts limits goes_on begins within part (suc m) s (t ∷ ts) ≡ parts limits goes_on begins within part m s1 rest
  unfolding parts
  begun-again m s s1 a t ts rest is e = rw (is, e) refl

  stays : (n : ℕ) (s : S) (rest : Tokens) → IsNone (starts s) rest → parts limits goes_on begins within part n s rest ≡ reads s rest
  unfolding parts
  stays zero s rest h = refl
  stays (suc n) s [] h = refl
  stays (suc n) s (t ∷ q) h = let is : begun limits (within s t) (goes_on t) (begins s t) ≡ none = begun-begins limits (within s t) (goes_on t) (begins s t) ∙ ap (λ (o : Option A). judged limits (within s t) o) h in rw is refl

  pub parts-again : ((s : S) (a : A) (ts : Tokens) (x : S) (rest : Tokens) → spell s a x ts rest → part s a ts ≡ reads x rest) → (m n : ℕ) (s : S) (ts : Tokens) (x : S) (rest : Tokens) → length ts ≤ n → SpellParts limits goes_on begins within spell m s x ts rest → parts limits goes_on begins within part n s ts ≡ reads x rest
  parts-again again-part zero n s ts x rest h (same, left, nothing) = ap (λ (us : Tokens). parts limits goes_on begins within part n s us) left ∙ stays n s rest nothing ∙ ap (λ (y : S). reads y rest) same
  parts-again again-part (suc m) n s ts x rest h (a, inside, next, behind, T, spelled, more) = go (λ k h'. parts-again again-part m k next behind x rest h' more) n h
    where
      is : begun limits (within s T.first) (goes_on T.first) (begins s T.first) ≡ found a
      is = begun-begins limits (within s T.first) (goes_on T.first) (begins s T.first) ∙ stands-judged limits (within s T.first) (part_value (goes_on T.first) (begins s T.first)) a T.stands_for T.keeps

      one-part : part s a inside ≡ reads next behind
      one-part = again-part s a inside next behind spelled

      go : ((k : ℕ) → length behind ≤ k → parts limits goes_on begins within part k next behind ≡ reads x rest) → (k : ℕ) → length ts ≤ k → parts limits goes_on begins within part k s ts ≡ reads x rest
      go rec zero h' = absurd (omega (arith, h', ap length T.split))
      go rec (suc k) h' =
          ap (λ (us : Tokens). parts limits goes_on begins within part (suc k) s us) T.split
          ∙ begun-again k s next a T.first inside behind is one-part
          ∙ rec k (omega (arith, h', ap length T.split, shorter s a inside next behind one-part))

-- ---- by the class of the first token

pub peek-found : {A X : Type 0} (limits : Bool) (c : Class A) (f : A → Tokens → Reading X) (g : Tokens → Reading X) (ts : Tokens) (x : X) (rest : Tokens) → peeked limits c f g ts ≡ reads x rest
    → ((a : A) × (mid : Tokens) × Token limits c.stands c.within a ts mid × (f a mid ≡ reads x rest)) ⊎ (IsNone c.stands ts × (g ts ≡ reads x rest))
peek-found limits c f g [] x rest e = inr (tt, e)
peek-found {A} {X} limits c f g (t ∷ q) x rest e = go (judged limits (c.within t) (c.stands t)) refl e
  where
    go : (j : Judged A) → judged limits (c.within t) (c.stands t) ≡ j → first_of j t q f g ≡ reads x rest → ((a : A) × (mid : Tokens) × Token limits c.stands c.within a (t ∷ q) mid × (f a mid ≡ reads x rest)) ⊎ (IsNone c.stands (t ∷ q) × (g (t ∷ q) ≡ reads x rest))
    go none is e' = inr (judged-nothing limits (c.within t) (c.stands t) is, e')
    go past is e' = absurd (cc e')
    go (found a) is e' = let J = judged-stands limits (c.within t) (c.stands t) a is in inl (a, q, record { first = t; split = refl; stands_for = J.0; keeps = J.1 }, e')

pub peek-first : {A X : Type 0} (limits : Bool) (c : Class A) (f : A → Tokens → Reading X) (g : Tokens → Reading X) (ts mid : Tokens) (a : A) → Token limits c.stands c.within a ts mid → peeked limits c f g ts ≡ f a mid
peek-first limits c f g ts mid a T =
    let is = stands-judged limits (c.within T.first) (c.stands T.first) a T.stands_for T.keeps in
    ap (peeked limits c f g) T.split ∙ rw is refl

pub peek-other : {A X : Type 0} (limits : Bool) (c : Class A) (f : A → Tokens → Reading X) (g : Tokens → Reading X) (ts : Tokens) → IsNone c.stands ts → peeked limits c f g ts ≡ g ts
peek-other limits c f g [] h = refl
peek-other limits c f g (t ∷ q) h = rw h refl

-- ---- each form

pub then-found : {A X : Type 0} (z : Reading A) (k : A → Tokens → Reading X) (x : X) (rest : Tokens) → and_then z k ≡ reads x rest → (a : A) × (mid : Tokens) × (z ≡ reads a mid) × (k a mid ≡ reads x rest)
then-found (reads a mid) k x rest e = (a, mid, refl, e)
then-found (stops why r) k x rest e = absurd (cc e)

pub shorter : {o : Lexeme → Bool} {X : Type 0} (limits : Bool) (f : Form o X) (ts : Tokens) (x : X) (rest : Tokens) → read limits f ts ≡ reads x rest → length rest ≤ length ts
shorter limits f ts x rest e = let W = (read_lawful limits f).whole ts x rest e in omega (arith, ap length W.split, length-append W.front rest)

pub read-found : {o : Lexeme → Bool} {X : Type 0} (limits : Bool) (f : Form o X) (ts : Tokens) (x : X) (rest : Tokens) → read limits f ts ≡ reads x rest → Spells limits f x ts rest
read-found limits (give y) ts x rest e = (cc e, cc e)
read-found limits (one c) ts x rest e = token-found limits c.stands c.within c.reason ts x rest e
read-found limits (seq f k) ts x rest e =
    let T = then-found (read limits f ts) (λ a r. read limits (k a) r) x rest e in
    (T.0, T.1, read-found limits f ts T.0 T.1 T.2, read-found limits (k T.0) T.1 x rest T.3)
read-found {o} {X} limits (upto {A} {B} f c fits) ts x rest e =
    let T = then-found (read limits f ts) (λ a r. and_then (token_of limits (c a).stands (c a).within (c a).reason r) (λ b r'. reads (a, b) r')) x rest e in
    let U = then-found (token_of limits (c T.0).stands (c T.0).within (c T.0).reason T.1) (λ b r'. reads (T.0, b) r') x rest T.3 in
    let same : (T.0, U.0) ≡ x = cc U.3 in
    let left : U.1 ≡ rest = cc U.3 in
    subst (λ (p : A × B). (mid : Tokens) × Spells limits f p.0 ts mid × Token limits (c p.0).stands (c p.0).within p.1 mid rest) same
    (T.1, read-found limits f ts T.0 T.1 T.2, subst (λ (us : Tokens). Token limits (c T.0).stands (c T.0).within U.0 T.1 us) left (token-found limits (c T.0).stands (c T.0).within (c T.0).reason T.1 U.0 U.1 U.2))
read-found limits (peek {A} {B} {X} c f d g) ts x rest e =
    by (λ a mid e'. read-found limits (f a) mid x rest e') (λ b mid e'. read-found limits (g b) mid x rest e')
    (peek-found limits c (λ a r. read limits (f a) r) (λ r. and_then (token_of limits d.stands d.within d.reason r) (λ b r'. read limits (g b) r')) ts x rest e)
  where
    by : ((a : A) (mid : Tokens) → read limits (f a) mid ≡ reads x rest → Spells limits (f a) x mid rest) → ((b : B) (mid : Tokens) → read limits (g b) mid ≡ reads x rest → Spells limits (g b) x mid rest)
        → ((a : A) × (mid : Tokens) × Token limits c.stands c.within a ts mid × (read limits (f a) mid ≡ reads x rest)) ⊎ (IsNone c.stands ts × (and_then (token_of limits d.stands d.within d.reason ts) (λ b r'. read limits (g b) r') ≡ reads x rest))
        → Spells limits (peek c f d g) x ts rest
    by F G (inl (a, mid, T, e')) = inl (a, mid, T, F a mid e')
    by F G (inr (nothing, e')) =
        let U = then-found (token_of limits d.stands d.within d.reason ts) (λ b r'. read limits (g b) r') x rest e' in
        inr (nothing, U.0, U.1, token-found limits d.stands d.within d.reason ts U.0 U.1 U.2, G U.0 U.1 U.3)
read-found limits (tail goes_on begins within part f) ts x rest e =
    let T = then-found (read limits f ts) (λ s r. parts limits goes_on begins within (λ s' a r'. read limits (part s' a) r') (length r) s r) x rest e in
    let P = parts-found limits goes_on begins within (λ s' a r. read limits (part s' a) r) (λ s' a y r r'. Spells limits (part s' a) y r r')
    (λ s' a r y r' e'. shorter limits (part s' a) r y r' e') (λ s' a r y r' e'. read-found limits (part s' a) r y r' e')
    (length T.1) T.0 T.1 x rest (omega arith) T.3 in
    (T.0, T.1, read-found limits f ts T.0 T.1 T.2, P.0, P.1)
read-found limits (balanced b) ts x rest e = balanced-found b ts x rest e
read-found limits (mapped k f) ts x rest e =
    let T = then-found (read limits f ts) (λ a r. reads (k a) r) x rest e in
    let value : k T.0 ≡ x = cc T.3 in
    let left : T.1 ≡ rest = cc T.3 in
    (T.0, read-found limits f ts T.0 rest (T.2 ∙ ap (λ (us : Tokens). reads T.0 us) left), value)

pub read-again : {o : Lexeme → Bool} {X : Type 0} (limits : Bool) (f : Form o X) (ts : Tokens) (x : X) (rest : Tokens) → Spells limits f x ts rest → read limits f ts ≡ reads x rest
read-again limits (give y) ts x rest (same, left) = ap (λ z. reads z ts) same ∙ ap (λ (us : Tokens). reads x us) left
read-again limits (one c) ts x rest T = token-again limits c.stands c.within c.reason ts x rest T
read-again limits (seq f k) ts x rest (a, mid, F, K) = rw (read-again limits f ts a mid F) (read-again limits (k a) mid x rest K)
read-again limits (upto f c fits) ts x rest (mid, F, T) = rw (read-again limits f ts x.0 mid F, token-again limits (c x.0).stands (c x.0).within (c x.0).reason mid x.1 rest T) refl
read-again limits (peek c f d g) ts x rest (inl (a, mid, T, F)) =
    peek-first limits c (λ a' r. read limits (f a') r) (λ r. and_then (token_of limits d.stands d.within d.reason r) (λ b r'. read limits (g b) r')) ts mid a T ∙ read-again limits (f a) mid x rest F
read-again limits (peek c f d g) ts x rest (inr (nothing, b, mid, T, G)) =
    peek-other limits c (λ a' r. read limits (f a') r) (λ r. and_then (token_of limits d.stands d.within d.reason r) (λ b' r'. read limits (g b') r')) ts nothing
    ∙ rw (token-again limits d.stands d.within d.reason ts b mid T) (read-again limits (g b) mid x rest G)
read-again limits (tail goes_on begins within part f) ts x rest (s, mid, F, n, P) =
    rw (read-again limits f ts s mid F) (parts-again limits goes_on begins within (λ s' a r. read limits (part s' a) r) (λ s' a y r r'. Spells limits (part s' a) y r r')
    (λ s' a r y r' e'. shorter limits (part s' a) r y r' e') (λ s' a r y r' sp. read-again limits (part s' a) r y r' sp)
    n (length mid) s mid x rest (omega arith) P)
read-again limits (balanced b) ts x rest C = balanced-again b ts x rest C
read-again limits (mapped k f) ts x rest (a, F, value) = rw (read-again limits f ts a rest F) (ap (λ z. reads z rest) value)
