-- The reason at a stop.
use Rattle.token_forms.proofs.Common.{◌≡◌, ℕ, zero, suc, ◌⊎◌, inl, inr, Bool, true, List, [], ◌∷◌, length, Option, None, refl, sym, ◌∙◌, Lexeme, Reason, Form, give, one, seq, upto, peek, tail, mapped, unfit, Reading, reads, stops, and_then, Judged, none, past, found, judged, taken, token_of, first_of, begun, parts, read, balanced, Token, part_value, part_begins, Spells, Misses, MissParts, RefusedAs, Syntax}
use Rattle.token_forms.proofs.Exact.{read-found, token-found, judged-stands, begun-begins, judged-nothing}
use Rattle.token_forms.proofs.Stops.{then-stops}
use Rattle.token_forms.proofs.Balanced.{closed-halts, balanced-refused}

token-misses : {A : Type 0} (stands : Lexeme → Option A) (within : Lexeme → Bool) (reason : Lexeme → Reason) (r : Reason) (ts rest : List Lexeme) → token_of true stands within reason ts ≡ stops (unfit r) rest → Misses stands reason ts rest r
token-misses stands within reason r [] rest e = (cc e, cc e)
token-misses {A} stands within reason r (t ∷ q) rest e = go (judged true (within t) (stands t)) refl e
  where
    go : (j : Judged A) → judged true (within t) (stands t) ≡ j → taken j (reason t) t q ≡ stops (unfit r) rest → Misses stands reason (t ∷ q) rest r
    go none is e' = (cc e', judged-nothing true (within t) (stands t) is, cc e')
    go past is e' = absurd (cc e')
    go (found a) is e' = absurd (cc e')

module _ {A S : Type 0} (r : Reason) (goes_on : Lexeme → Bool) (begins : S → Lexeme → Option A) (within : S → Lexeme → Bool) (part : S → A → List Lexeme → Reading S) (spell : S → A → S → List Lexeme → List Lexeme → Type 0) (miss : S → A → List Lexeme → List Lexeme → Type 0)
    (found-part : (s : S) (a : A) (ts : List Lexeme) (x : S) (rest : List Lexeme) → part s a ts ≡ reads x rest → spell s a x ts rest)
    (miss-part : (s : S) (a : A) (ts rest : List Lexeme) → part s a ts ≡ stops (unfit r) rest → miss s a ts rest) where
  pub parts-miss : (n : ℕ) (s : S) (ts rest : List Lexeme) → parts true goes_on begins within part n s ts ≡ stops (unfit r) rest → (m : ℕ) × MissParts goes_on begins within spell miss m s ts rest
  unfolding parts
  parts-miss zero s ts rest e = absurd (cc e)
  parts-miss (suc n) s [] rest e = absurd (cc e)
  parts-miss (suc n) s (t ∷ q) rest e = go (λ s1 mid. parts-miss n s1 mid rest) (begun true (within s t) (goes_on t) (begins s t)) refl e
    where
      go : ((s1 : S) (mid : List Lexeme) → parts true goes_on begins within part n s1 mid ≡ stops (unfit r) rest → (m : ℕ) × MissParts goes_on begins within spell miss m s1 mid rest)
          → (j : Judged A) → begun true (within s t) (goes_on t) (begins s t) ≡ j → first_of j t q (λ a rest'. and_then (part s a rest') (λ s' rest''. parts true goes_on begins within part n s' rest'')) (λ rest'. reads s rest') ≡ stops (unfit r) rest → (m : ℕ) × MissParts goes_on begins within spell miss m s (t ∷ q) rest
      go rec none is e' = absurd (cc e')
      go rec past is e' = absurd (cc e')
      go rec (found a) is e' =
          let J = judged-stands true (within s t) (part_value (goes_on t) (begins s t)) a (sym (begun-begins true (within s t) (goes_on t) (begins s t)) ∙ is) in
          let T : Token true (part_begins goes_on (begins s)) (within s) a (t ∷ q) q = record { first = t; split = refl; stands_for = J.0; keeps = J.1 } in
          by T (then-stops (part s a q) (λ s' r'. parts true goes_on begins within part n s' r') (unfit r) rest e')
        where
          by : Token true (part_begins goes_on (begins s)) (within s) a (t ∷ q) q → (part s a q ≡ stops (unfit r) rest) ⊎ ((s1 : S) × (mid : List Lexeme) × (part s a q ≡ reads s1 mid) × (parts true goes_on begins within part n s1 mid ≡ stops (unfit r) rest)) → (m : ℕ) × MissParts goes_on begins within spell miss m s (t ∷ q) rest
          by T (inl here) = (zero, (a, q, T, miss-part s a q rest here))
          by T (inr (s1, mid, one-part, e'')) = let more = rec s1 mid e'' in (suc more.0, (a, q, s1, mid, T, found-part s a q s1 mid one-part, more.1))

pub refused-as : {o : Lexeme → Bool} {X : Type 0} (f : Form o X) (r : Reason) (ts rest : List Lexeme) → read true f ts ≡ stops (unfit r) rest → RefusedAs f r ts rest
refused-as (give y) r ts rest e = absurd (cc e)
refused-as (one c) r ts rest e = token-misses c.stands c.within c.reason r ts rest e
refused-as (seq {A} f k) r ts rest e = by (λ e'. refused-as f r ts rest e') (λ a mid e'. refused-as (k a) r mid rest e') (then-stops (read true f ts) (λ a r'. read true (k a) r') (unfit r) rest e)
  where
    by : (read true f ts ≡ stops (unfit r) rest → RefusedAs f r ts rest) → ((a : A) (mid : List Lexeme) → read true (k a) mid ≡ stops (unfit r) rest → RefusedAs (k a) r mid rest)
        → (read true f ts ≡ stops (unfit r) rest) ⊎ ((a : A) × (mid : List Lexeme) × (read true f ts ≡ reads a mid) × (read true (k a) mid ≡ stops (unfit r) rest)) → RefusedAs (seq f k) r ts rest
    by F K (inl here) = inl (F here)
    by F K (inr (a, mid, first, later)) = inr (a, mid, read-found true f ts a mid first, K a mid later)
refused-as (upto {A} {B} f c fits) r ts rest e = by (λ e'. refused-as f r ts rest e') (then-stops {X = A × B} (read true f ts) (λ a r'. and_then (token_of true (c a).stands (c a).within (c a).reason r') (λ b r''. reads (a, b) r'')) (unfit r) rest e)
  where
    last : (a : A) (mid : List Lexeme) → and_then {X = A × B} (token_of true (c a).stands (c a).within (c a).reason mid) (λ b r''. reads (a, b) r'') ≡ stops (unfit r) rest → Misses (c a).stands (c a).reason mid rest r
    last a mid e' = go (then-stops {X = A × B} (token_of true (c a).stands (c a).within (c a).reason mid) (λ b r''. reads (a, b) r'') (unfit r) rest e')
      where
        go : (token_of true (c a).stands (c a).within (c a).reason mid ≡ stops (unfit r) rest) ⊎ ((b : B) × (r' : List Lexeme) × (token_of true (c a).stands (c a).within (c a).reason mid ≡ reads b r') × ((let z : Reading (A × B) = reads (a, b) r' in z) ≡ stops (unfit r) rest)) → Misses (c a).stands (c a).reason mid rest r
        go (inl here) = token-misses (c a).stands (c a).within (c a).reason r mid rest here
        go (inr (b, r', first, later)) = absurd (cc later)

    by : (read true f ts ≡ stops (unfit r) rest → RefusedAs f r ts rest)
        → (read true f ts ≡ stops (unfit r) rest) ⊎ ((a : A) × (mid : List Lexeme) × (read true f ts ≡ reads a mid) × (and_then {X = A × B} (token_of true (c a).stands (c a).within (c a).reason mid) (λ b r''. reads (a, b) r'') ≡ stops (unfit r) rest)) → RefusedAs (upto f c fits) r ts rest
    by F (inl here) = inl (F here)
    by F (inr (a, mid, first, later)) = inr (a, mid, read-found true f ts a mid first, last a mid later)
refused-as (peek {A} {B} c f d g) r [] rest e = inr (inl (tt, (cc e, cc e)))
refused-as (peek {A} {B} c f d g) r (t ∷ q) rest e = go (λ a mid e'. refused-as (f a) r mid rest e') (λ b mid e'. refused-as (g b) r mid rest e') (judged true (c.within t) (c.stands t)) refl e
  where
    other : ((b : B) (mid : List Lexeme) → read true (g b) mid ≡ stops (unfit r) rest → RefusedAs (g b) r mid rest) → c.stands t ≡ None
        → (token_of true d.stands d.within d.reason (t ∷ q) ≡ stops (unfit r) rest) ⊎ ((b : B) × (mid : List Lexeme) × (token_of true d.stands d.within d.reason (t ∷ q) ≡ reads b mid) × (read true (g b) mid ≡ stops (unfit r) rest)) → RefusedAs (peek c f d g) r (t ∷ q) rest
    other G nothing (inl here) = inr (inl (nothing, token-misses d.stands d.within d.reason r (t ∷ q) rest here))
    other G nothing (inr (b, mid, first, later)) = inr (inr (nothing, b, mid, token-found true d.stands d.within d.reason (t ∷ q) b mid first, G b mid later))

    go : ((a : A) (mid : List Lexeme) → read true (f a) mid ≡ stops (unfit r) rest → RefusedAs (f a) r mid rest) → ((b : B) (mid : List Lexeme) → read true (g b) mid ≡ stops (unfit r) rest → RefusedAs (g b) r mid rest)
        → (j : Judged A) → judged true (c.within t) (c.stands t) ≡ j → first_of j t q (λ a r'. read true (f a) r') (λ r'. and_then (token_of true d.stands d.within d.reason r') (λ b r''. read true (g b) r'')) ≡ stops (unfit r) rest → RefusedAs (peek c f d g) r (t ∷ q) rest
    go F G none is e' = other G (judged-nothing true (c.within t) (c.stands t) is) (then-stops (token_of true d.stands d.within d.reason (t ∷ q)) (λ b r'. read true (g b) r') (unfit r) rest e')
    go F G past is e' = absurd (cc e')
    go F G (found a) is e' = let J = judged-stands true (c.within t) (c.stands t) a is in
        inl (a, q, record { first = t; split = refl; stands_for = J.0; keeps = J.1 }, F a q e')
refused-as {o} {X} (tail goes_on begins within part f) r ts rest e =
    by (λ e'. refused-as f r ts rest e')
    (λ s mid e'. parts-miss r goes_on begins within (λ s' a r'. read true (part s' a) r') (λ s' a y r' r''. Spells true (part s' a) y r' r'') (λ s' a r' r''. RefusedAs (part s' a) r r' r'')
    (λ s' a r' y r'' e''. read-found true (part s' a) r' y r'' e'') (λ s' a r' r'' e''. refused-as (part s' a) r r' r'' e'') (length mid) s mid rest e')
    (then-stops (read true f ts) (λ s r'. parts true goes_on begins within (λ s' a r''. read true (part s' a) r'') (length r') s r') (unfit r) rest e)
  where
    by : (read true f ts ≡ stops (unfit r) rest → RefusedAs f r ts rest)
        → ((s : X) (mid : List Lexeme) → parts true goes_on begins within (λ s' a r'. read true (part s' a) r') (length mid) s mid ≡ stops (unfit r) rest → (n : ℕ) × MissParts goes_on begins within (λ s' a y r' r''. Spells true (part s' a) y r' r'') (λ s' a r' r''. RefusedAs (part s' a) r r' r'') n s mid rest)
        → (read true f ts ≡ stops (unfit r) rest) ⊎ ((s : X) × (mid : List Lexeme) × (read true f ts ≡ reads s mid) × (parts true goes_on begins within (λ s' a r'. read true (part s' a) r') (length mid) s mid ≡ stops (unfit r) rest)) → RefusedAs (tail goes_on begins within part f) r ts rest
    by F G (inl here) = inl (F here)
    by F G (inr (s, mid, first, later)) = let P = G s mid later in inr (s, mid, read-found true f ts s mid first, P.0, P.1)
refused-as (balanced b) r ts rest e = (balanced-refused b r ts rest e, let is : unfit Syntax ≡ unfit r = (closed-halts (b ∷ []) ts (unfit r) rest e).why_is in cc is)
refused-as (mapped {A} k f) r ts rest e = by (λ e'. refused-as f r ts rest e') (then-stops (read true f ts) (λ a r'. reads (k a) r') (unfit r) rest e)
  where
    by : (read true f ts ≡ stops (unfit r) rest → RefusedAs f r ts rest) → (read true f ts ≡ stops (unfit r) rest) ⊎ ((a : A) × (mid : List Lexeme) × (read true f ts ≡ reads a mid) × (reads (k a) mid ≡ stops (unfit r) rest)) → RefusedAs f r ts rest
    by F (inl here) = F here
    by F (inr (a, mid, first, later)) = absurd (cc later)
