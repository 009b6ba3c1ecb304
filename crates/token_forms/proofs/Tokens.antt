-- What holds of reading no token, or one.
use Rattle.token_forms.proofs.Common.{◌≡◌, Bool, true, false, cond, List, [], ◌∷◌, Option, Some, None, refl, sym, ap, ◌||◌, not, Lexeme, Reason, Syntax, Class, never, Why, unfit, limit, Reading, reads, stops, Judged, none, past, found, judged, taken, one_of}
use Rattle.token_forms.proofs.Laws.{Whole, Ends, Halts, Lawful}

abbrev Tokens : Type 0
Tokens = List Lexeme

abbrev Reader : Type 0 → Type 0
Reader X = Tokens → Reading X

-- ---- no token

unfoldable pub give_lawful : {X : Type 0} (x : X) → Lawful never (λ ts. reads x ts) (λ ts. reads x ts)
give_lawful {X} x = record {
  whole = λ ts y rest e. w ts y rest e;
  halts = λ ts why rest e. absurd (cc e);
  lifts = λ ts y rest e. e;
  lifts_unfit = λ ts reason rest e. e;
  ends = record { more = []; value = x; whole = λ r f. refl };
}
  where
    w : (ts : Tokens) (y : X) (rest : Tokens) → reads x ts ≡ reads y rest → Whole never (λ us. reads x us) ts y rest
    w ts y rest e = record { front = []; split = cc e; again = λ r f. let s : x ≡ y = cc e in ap (λ z. reads z r) s }

-- ---- one token

pub judged-lifts : {A : Type 0} (b : Bool) (within : Bool) (o : Option A) (a : A) → judged b within o ≡ found a → judged false within o ≡ found a
judged-lifts b within None a e = absurd (cc e)
judged-lifts {A} b within (Some x) a e = go (not b || within) e
  where
    go : (c : Bool) → cond c (found x) past ≡ found a → found x ≡ found a
    go true e = e
    go false e = absurd (cc e)

pub judged-none : {A : Type 0} (b : Bool) (within : Bool) (o : Option A) → judged b within o ≡ none → judged false within o ≡ none
judged-none b within None e = refl
judged-none {A} b within (Some x) e = absurd (go (not b || within) e)
  where
    go : (c : Bool) → cond c (found x) past ≡ none → ⊥
    go true e = cc e
    go false e = cc e

pub judged-past : {A : Type 0} (b : Bool) (within : Bool) (o : Option A) → judged b within o ≡ past → (a : A) × (judged false within o ≡ found a)
judged-past b within None e = absurd (cc e)
judged-past b within (Some x) e = (x, refl)

unfoldable pub one_lawful : {A : Type 0} (b : Bool) (c : Class A) → Lawful never (one_of b c) (one_of false c)
one_lawful {A} b c = record { whole = w; halts = s; lifts = l; lifts_unfit = u; ends = n }
  where
    n : Ends never (one_of false c) []
    n = record { more = c.sample ∷ []; value = c.value; whole = λ r f. rw (c.fits) refl }

    w : (ts : Tokens) (x : A) (rest : Tokens) → one_of b c ts ≡ reads x rest → Whole never (one_of b c) ts x rest
    w [] x rest e = absurd (cc e)
    w (t ∷ q) x rest e = go (judged b (c.within t) (c.stands t)) refl e
      where
        go : (j : Judged A) → judged b (c.within t) (c.stands t) ≡ j → taken j (c.reason t) t q ≡ reads x rest → Whole never (one_of b c) (t ∷ q) x rest
        go none is e' = absurd (cc e')
        go past is e' = absurd (cc e')
        go (found a) is e' =
            let same : a ≡ x = cc e' in
            let left : q ≡ rest = cc e' in
            record { front = t ∷ []; split = ap (λ (us : Tokens). t ∷ us) left; again = λ r f. rw is (ap (λ z. reads z r) same) }

    s : (ts : Tokens) (why : Why) (rest : Tokens) → one_of b c ts ≡ stops why rest → Halts never (one_of b c) (one_of false c) ts why rest
    s [] why rest e =
        let nil : [] ≡ rest = cc e in
        let is : unfit Syntax ≡ why = cc e in
        record { front = []; split = nil; again = λ t q r f. absurd (cc (nil, f)); ends = n; past_limit = λ f. absurd (cc (is, f)) }
    s (t ∷ q) why rest e = go (judged b (c.within t) (c.stands t)) refl e
      where
        go : (j : Judged A) → judged b (c.within t) (c.stands t) ≡ j → taken j (c.reason t) t q ≡ stops why rest → Halts never (one_of b c) (one_of false c) (t ∷ q) why rest
        go none is e' =
            let left : t ∷ q ≡ rest = cc e' in
            let why-is : unfit (c.reason t) ≡ why = cc e' in
            record {
              front = [];
              split = left;
              again = λ t' q' r f. let same : t ≡ t' = cc (left, f) in rw (← same, is) (ap (λ (y : Why). stops y (t ∷ r)) why-is);
              ends = n;
              past_limit = λ f. absurd (cc (why-is, f));
            }
        go past is e' =
            let left : t ∷ q ≡ rest = cc e' in
            let why-is : limit ≡ why = cc e' in
            let stands = judged-past b (c.within t) (c.stands t) is in
            record {
              front = [];
              split = left;
              again = λ t' q' r f. let same : t ≡ t' = cc (left, f) in rw (← same, is) (ap (λ (y : Why). stops y (t ∷ r)) why-is);
              ends = n;
              past_limit = λ f. record { token = t; others = q; is = sym left; ends = record { more = []; value = stands.0; whole = λ r g. rw (stands.1) refl } };
            }
        go (found a) is e' = absurd (cc e')

    l : (ts : Tokens) (x : A) (rest : Tokens) → one_of b c ts ≡ reads x rest → one_of false c ts ≡ reads x rest
    l [] x rest e = absurd (cc e)
    l (t ∷ q) x rest e = go (judged b (c.within t) (c.stands t)) refl e
      where
        go : (j : Judged A) → judged b (c.within t) (c.stands t) ≡ j → taken j (c.reason t) t q ≡ reads x rest → one_of false c (t ∷ q) ≡ reads x rest
        go none is e' = absurd (cc e')
        go past is e' = absurd (cc e')
        go (found a) is e' = rw (judged-lifts b (c.within t) (c.stands t) a is) e'

    u : (ts : Tokens) (reason : Reason) (rest : Tokens) → one_of b c ts ≡ stops (unfit reason) rest → one_of false c ts ≡ stops (unfit reason) rest
    u [] reason rest e = e
    u (t ∷ q) reason rest e = go (judged b (c.within t) (c.stands t)) refl e
      where
        go : (j : Judged A) → judged b (c.within t) (c.stands t) ≡ j → taken j (c.reason t) t q ≡ stops (unfit reason) rest → one_of false c (t ∷ q) ≡ stops (unfit reason) rest
        go none is e' = rw (judged-none b (c.within t) (c.stands t) is) e'
        go past is e' = absurd (cc e')
        go (found a) is e' = absurd (cc e')
