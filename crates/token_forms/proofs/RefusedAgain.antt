-- A refusal is where reading stops, with its reason.
use Rattle.token_forms.proofs.Common.{◌≡◌, ℕ, zero, suc, ◌≤◌, ◌⊎◌, inl, inr, Bool, true, List, [], ◌∷◌, length, Option, refl, ap, ◌∙◌, arith, Lexeme, Reason, Form, give, one, seq, upto, peek, tail, balanced, mapped, unfit, Reading, reads, stops, and_then, found, token_of, begun, parts, read, Token, part_value, part_begins, Spells, Misses, MissParts, RefusedAs}
use Rattle.token_forms.proofs.Exact.{read-again, shorter, token-again, peek-first, peek-other, stands-judged, begun-begins}
use Rattle.token_forms.proofs.Balanced.{open-again}

token-miss : {A : Type 0} (stands : Lexeme → Option A) (within : Lexeme → Bool) (reason : Lexeme → Reason) (ts rest : List Lexeme) (r : Reason) → Misses stands reason ts rest r → token_of true stands within reason ts ≡ stops (unfit r) rest
token-miss stands within reason [] rest r (here, why) = ap (λ (w : Reason). stops (unfit w) []) why ∙ ap (λ (us : List Lexeme). stops (unfit r) us) here
token-miss stands within reason (t ∷ q) rest r (here, none, why) = rw none (ap (λ (w : Reason). stops (unfit w) (t ∷ q)) why ∙ ap (λ (us : List Lexeme). stops (unfit r) us) here)

module _ {A S : Type 0} (goes_on : Lexeme → Bool) (begins : S → Lexeme → Option A) (within : S → Lexeme → Bool) (part : S → A → List Lexeme → Reading S) (spell : S → A → S → List Lexeme → List Lexeme → Type 0) (r : Reason) (miss : S → A → List Lexeme → List Lexeme → Type 0)
    (again-part : (s : S) (a : A) (ts : List Lexeme) (x : S) (rest : List Lexeme) → spell s a x ts rest → part s a ts ≡ reads x rest)
    (miss-part : (s : S) (a : A) (ts rest : List Lexeme) → miss s a ts rest → part s a ts ≡ stops (unfit r) rest)
    (shorter-part : (s : S) (a : A) (ts : List Lexeme) (x : S) (rest : List Lexeme) → part s a ts ≡ reads x rest → length rest ≤ length ts) where
  one-part : (m : ℕ) (s : S) (a : A) (ts inside : List Lexeme) (z : Reading S) → Token true (part_begins goes_on (begins s)) (within s) a ts inside → part s a inside ≡ z → parts true goes_on begins within part (suc m) s ts ≡ and_then z (λ s' rest. parts true goes_on begins within part m s' rest)
  unfolding parts
  one-part m s a ts inside z T e =
      let is : begun true (within s T.first) (goes_on T.first) (begins s T.first) ≡ found a =
      begun-begins true (within s T.first) (goes_on T.first) (begins s T.first) ∙ stands-judged true (within s T.first) (part_value (goes_on T.first) (begins s T.first)) a T.stands_for T.keeps in
      ap (λ (us : List Lexeme). parts true goes_on begins within part (suc m) s us) T.split ∙ rw (is, e) refl

  pub parts-miss : (n m : ℕ) (s : S) (ts rest : List Lexeme) → length ts ≤ m → MissParts goes_on begins within spell miss n s ts rest → parts true goes_on begins within part m s ts ≡ stops (unfit r) rest
  parts-miss zero zero s ts rest h (a, inside, T, E) = absurd (omega (arith, ap length T.split))
  parts-miss zero (suc m) s ts rest h (a, inside, T, E) = one-part m s a ts inside (stops (unfit r) rest) T (miss-part s a inside rest E)
  parts-miss (suc n) zero s ts rest h (a, inside, next, behind, T, P, E) = absurd (omega (arith, ap length T.split))
  parts-miss (suc n) (suc m) s ts rest h (a, inside, next, behind, T, P, E) =
      let p = again-part s a inside next behind P in
      one-part m s a ts inside (reads next behind) T p ∙ parts-miss n m next behind rest (omega (arith, h, ap length T.split, shorter-part s a inside next behind p)) E

pub refused-again : {o : Lexeme → Bool} {X : Type 0} (f : Form o X) (r : Reason) (ts rest : List Lexeme) → RefusedAs f r ts rest → read true f ts ≡ stops (unfit r) rest
refused-again (give y) r ts rest E = absurd E
refused-again (one c) r ts rest E = token-miss c.stands c.within c.reason ts rest r E
refused-again (seq f k) r ts rest (inl E) = rw (refused-again f r ts rest E) refl
refused-again (seq f k) r ts rest (inr (a, mid, F, E)) = rw (read-again true f ts a mid F) (refused-again (k a) r mid rest E)
refused-again (upto f c fits) r ts rest (inl E) = rw (refused-again f r ts rest E) refl
refused-again (upto f c fits) r ts rest (inr (a, mid, F, E)) = rw (read-again true f ts a mid F, token-miss (c a).stands (c a).within (c a).reason mid rest r E) refl
refused-again (peek c f d g) r ts rest (inl (a, mid, T, E)) =
    peek-first true c (λ a' q. read true (f a') q) (λ q. and_then (token_of true d.stands d.within d.reason q) (λ b q'. read true (g b) q')) ts mid a T ∙ refused-again (f a) r mid rest E
refused-again (peek c f d g) r ts rest (inr (inl (nothing, E))) =
    peek-other true c (λ a' q. read true (f a') q) (λ q. and_then (token_of true d.stands d.within d.reason q) (λ b q'. read true (g b) q')) ts nothing
    ∙ rw (token-miss d.stands d.within d.reason ts rest r E) refl
refused-again (peek c f d g) r ts rest (inr (inr (nothing, b, mid, T, E))) =
    peek-other true c (λ a' q. read true (f a') q) (λ q. and_then (token_of true d.stands d.within d.reason q) (λ b' q'. read true (g b') q')) ts nothing
    ∙ rw (token-again true d.stands d.within d.reason ts b mid T) (refused-again (g b) r mid rest E)
refused-again (tail goes_on begins within part f) r ts rest (inl E) = rw (refused-again f r ts rest E) refl
refused-again (tail goes_on begins within part f) r ts rest (inr (s, mid, F, n, E)) =
    rw (read-again true f ts s mid F) (parts-miss goes_on begins within (λ s' a q. read true (part s' a) q) (λ s' a y q q'. Spells true (part s' a) y q q') r (λ s' a q q'. RefusedAs (part s' a) r q q')
    (λ s' a q y q' sp. read-again true (part s' a) q y q' sp) (λ s' a q q' E'. refused-again (part s' a) r q q' E') (λ s' a q y q' e'. shorter true (part s' a) q y q' e') n (length mid) s mid rest (omega arith) E)
refused-again (balanced b) r ts rest (S, why) = open-again b ts rest S ∙ ap (λ (w : Reason). stops (unfit w) rest) why
refused-again (mapped k f) r ts rest E = rw (refused-again f r ts rest E) refl
