-- Reading stops at the first token that isn't allowed, or that passes a limit.
use Rattle.token_forms.proofs.Common.{◌≡◌, ℕ, zero, suc, ◌≤◌, ◌⊎◌, inl, inr, Bool, true, false, List, [], ◌∷◌, ◌++◌, length, Option, Some, None, refl, sym, ap, ◌∙◌, append_assoc, arith, Lexeme, Reason, never, Form, give, one, seq, upto, peek, tail, mapped, Why, unfit, limit, Reading, reads, stops, and_then, Judged, none, past, found, judged, taken, token_of, first_of, peeked, begun, parts, read, balanced, Token, part_value, part_begins, Spells, Begins, Exceeds, ExceedParts, PassesLimit, StopsUnfit, StopsPast, Syntax}
use Rattle.token_forms.proofs.Laws.{Ends}
use Rattle.token_forms.proofs.Lawful.{read_lawful}
use Rattle.token_forms.proofs.Exact.{read-found, read-again, shorter, token-found, token-again, peek-first, peek-other, judged-stands, stands-judged, begun-begins, judged-nothing}
use Rattle.token_forms.proofs.Balanced.{closed-halts}

begins-by : {X : Type 0} (f : Form never X) (front : List Lexeme) → Ends never (λ ts. read false f ts) front → Begins f front
begins-by f front E = (E.more ++ [], E.value, read-found false f (front ++ (E.more ++ [])) E.value [] (E.whole [] refl))

-- ---- limits

judged-exceeds : {A : Type 0} (within : Bool) (o : Option A) → judged true within o ≡ past → (a : A) × (o ≡ Some a) × (within ≡ false)
judged-exceeds within None e = absurd (cc e)
judged-exceeds true (Some x) e = absurd (cc e)
judged-exceeds false (Some x) e = (x, refl, refl)

token-exceeds : {A : Type 0} (stands : Lexeme → Option A) (within : Lexeme → Bool) (reason : Lexeme → Reason) (ts rest : List Lexeme) → token_of true stands within reason ts ≡ stops limit rest → Exceeds stands within ts rest
token-exceeds stands within reason [] rest e = absurd (cc e)
token-exceeds {A} stands within reason (t ∷ q) rest e = go (judged true (within t) (stands t)) refl e
  where
    go : (j : Judged A) → judged true (within t) (stands t) ≡ j → taken j (reason t) t q ≡ stops limit rest → Exceeds stands within (t ∷ q) rest
    go none is e' = absurd (cc e')
    go (found a) is e' = absurd (cc e')
    go past is e' = let J = judged-exceeds (within t) (stands t) is in
        record { first = t; others = q; value = J.0; split = refl; here = cc e'; stands_for = J.1; exceeds = J.2 }

pub then-stops : {A X : Type 0} (z : Reading A) (k : A → List Lexeme → Reading X) (why : Why) (rest : List Lexeme) → and_then z k ≡ stops why rest → (z ≡ stops why rest) ⊎ ((a : A) × (mid : List Lexeme) × (z ≡ reads a mid) × (k a mid ≡ stops why rest))
then-stops {A} (stops w r) k why rest e =
    let w-is : w ≡ why = cc e in
    let r-is : r ≡ rest = cc e in
    inl (ap (λ (v : Why). stops v r) w-is ∙ ap (λ (us : List Lexeme). stops why us) r-is)
then-stops (reads a mid) k why rest e = inr (a, mid, refl, e)

module _ {A S : Type 0} (goes_on : Lexeme → Bool) (begins : S → Lexeme → Option A) (within : S → Lexeme → Bool) (part : S → A → List Lexeme → Reading S) (spell : S → A → S → List Lexeme → List Lexeme → Type 0) (exceed : S → A → List Lexeme → List Lexeme → Type 0)
    (found-part : (s : S) (a : A) (ts : List Lexeme) (x : S) (rest : List Lexeme) → part s a ts ≡ reads x rest → spell s a x ts rest)
    (exceed-part : (s : S) (a : A) (ts rest : List Lexeme) → part s a ts ≡ stops limit rest → exceed s a ts rest) where
  pub parts-exceed : (n : ℕ) (s : S) (ts rest : List Lexeme) → parts true goes_on begins within part n s ts ≡ stops limit rest → (m : ℕ) × ExceedParts goes_on begins within spell exceed m s ts rest
  unfolding parts
  parts-exceed zero s ts rest e = absurd (cc e)
  parts-exceed (suc n) s [] rest e = absurd (cc e)
  parts-exceed (suc n) s (t ∷ q) rest e = go (λ s1 mid. parts-exceed n s1 mid rest) (begun true (within s t) (goes_on t) (begins s t)) refl e
    where
      judged-is : (j : Judged A) → begun true (within s t) (goes_on t) (begins s t) ≡ j → judged true (within s t) (part_value (goes_on t) (begins s t)) ≡ j
      judged-is j is = sym (begun-begins true (within s t) (goes_on t) (begins s t)) ∙ is

      go : ((s1 : S) (mid : List Lexeme) → parts true goes_on begins within part n s1 mid ≡ stops limit rest → (m : ℕ) × ExceedParts goes_on begins within spell exceed m s1 mid rest)
          → (j : Judged A) → begun true (within s t) (goes_on t) (begins s t) ≡ j → first_of j t q (λ a rest'. and_then (part s a rest') (λ s' rest''. parts true goes_on begins within part n s' rest'')) (λ rest'. reads s rest') ≡ stops limit rest → (m : ℕ) × ExceedParts goes_on begins within spell exceed m s (t ∷ q) rest
      go rec none is e' = absurd (cc e')
      go rec past is e' = let J = judged-exceeds (within s t) (part_value (goes_on t) (begins s t)) (judged-is past is) in
          (zero, inl (record { first = t; others = q; value = J.0; split = refl; here = cc e'; stands_for = J.1; exceeds = J.2 }))
      go rec (found a) is e' =
          let J = judged-stands true (within s t) (part_value (goes_on t) (begins s t)) a (judged-is (found a) is) in
          let T : Token true (part_begins goes_on (begins s)) (within s) a (t ∷ q) q = record { first = t; split = refl; stands_for = J.0; keeps = J.1 } in
          by T (then-stops (part s a q) (λ s' r. parts true goes_on begins within part n s' r) limit rest e')
        where
          by : Token true (part_begins goes_on (begins s)) (within s) a (t ∷ q) q → (part s a q ≡ stops limit rest) ⊎ ((s1 : S) × (mid : List Lexeme) × (part s a q ≡ reads s1 mid) × (parts true goes_on begins within part n s1 mid ≡ stops limit rest)) → (m : ℕ) × ExceedParts goes_on begins within spell exceed m s (t ∷ q) rest
          by T (inl here) = (zero, inr (a, q, T, exceed-part s a q rest here))
          by T (inr (s1, mid, one-part, e'')) = let more = rec s1 mid e'' in (suc more.0, (a, q, s1, mid, T, found-part s a q s1 mid one-part, more.1))

pub passes-limit : {o : Lexeme → Bool} {X : Type 0} (f : Form o X) (ts rest : List Lexeme) → read true f ts ≡ stops limit rest → PassesLimit f ts rest
passes-limit (give y) ts rest e = absurd (cc e)
passes-limit (one c) ts rest e = token-exceeds c.stands c.within c.reason ts rest e
passes-limit (seq {A} f k) ts rest e = by (λ e'. passes-limit f ts rest e') (λ a mid e'. passes-limit (k a) mid rest e') (then-stops (read true f ts) (λ a r. read true (k a) r) limit rest e)
  where
    by : (read true f ts ≡ stops limit rest → PassesLimit f ts rest) → ((a : A) (mid : List Lexeme) → read true (k a) mid ≡ stops limit rest → PassesLimit (k a) mid rest)
        → (read true f ts ≡ stops limit rest) ⊎ ((a : A) × (mid : List Lexeme) × (read true f ts ≡ reads a mid) × (read true (k a) mid ≡ stops limit rest)) → PassesLimit (seq f k) ts rest
    by F K (inl here) = inl (F here)
    by F K (inr (a, mid, first, later)) = inr (a, mid, read-found true f ts a mid first, K a mid later)
passes-limit (upto {A} {B} f c fits) ts rest e = by (λ e'. passes-limit f ts rest e') (then-stops {X = A × B} (read true f ts) (λ a r. and_then (token_of true (c a).stands (c a).within (c a).reason r) (λ b r'. reads (a, b) r')) limit rest e)
  where
    last : (a : A) (mid : List Lexeme) → and_then {X = A × B} (token_of true (c a).stands (c a).within (c a).reason mid) (λ b r'. reads (a, b) r') ≡ stops limit rest → Exceeds (c a).stands (c a).within mid rest
    last a mid e' = go (then-stops {X = A × B} (token_of true (c a).stands (c a).within (c a).reason mid) (λ b r'. reads (a, b) r') limit rest e')
      where
        go : (token_of true (c a).stands (c a).within (c a).reason mid ≡ stops limit rest) ⊎ ((b : B) × (r : List Lexeme) × (token_of true (c a).stands (c a).within (c a).reason mid ≡ reads b r) × ((let z : Reading (A × B) = reads (a, b) r in z) ≡ stops limit rest)) → Exceeds (c a).stands (c a).within mid rest
        go (inl here) = token-exceeds (c a).stands (c a).within (c a).reason mid rest here
        go (inr (b, r, first, later)) = absurd (cc later)

    by : (read true f ts ≡ stops limit rest → PassesLimit f ts rest)
        → (read true f ts ≡ stops limit rest) ⊎ ((a : A) × (mid : List Lexeme) × (read true f ts ≡ reads a mid) × (and_then {X = A × B} (token_of true (c a).stands (c a).within (c a).reason mid) (λ b r'. reads (a, b) r') ≡ stops limit rest)) → PassesLimit (upto f c fits) ts rest
    by F (inl here) = inl (F here)
    by F (inr (a, mid, first, later)) = inr (a, mid, read-found true f ts a mid first, last a mid later)
passes-limit (peek {A} {B} c f d g) [] rest e = absurd (cc e)
passes-limit (peek {A} {B} c f d g) (t ∷ q) rest e = go (λ a mid e'. passes-limit (f a) mid rest e') (λ b mid e'. passes-limit (g b) mid rest e') (judged true (c.within t) (c.stands t)) refl e
  where
    other : ((b : B) (mid : List Lexeme) → read true (g b) mid ≡ stops limit rest → PassesLimit (g b) mid rest) → c.stands t ≡ None
        → (token_of true d.stands d.within d.reason (t ∷ q) ≡ stops limit rest) ⊎ ((b : B) × (mid : List Lexeme) × (token_of true d.stands d.within d.reason (t ∷ q) ≡ reads b mid) × (read true (g b) mid ≡ stops limit rest)) → PassesLimit (peek c f d g) (t ∷ q) rest
    other G nothing (inl here) = inr (inr (inl (nothing, token-exceeds d.stands d.within d.reason (t ∷ q) rest here)))
    other G nothing (inr (b, mid, first, later)) = inr (inr (inr (nothing, b, mid, token-found true d.stands d.within d.reason (t ∷ q) b mid first, G b mid later)))

    go : ((a : A) (mid : List Lexeme) → read true (f a) mid ≡ stops limit rest → PassesLimit (f a) mid rest) → ((b : B) (mid : List Lexeme) → read true (g b) mid ≡ stops limit rest → PassesLimit (g b) mid rest)
        → (j : Judged A) → judged true (c.within t) (c.stands t) ≡ j → first_of j t q (λ a r. read true (f a) r) (λ r. and_then (token_of true d.stands d.within d.reason r) (λ b r'. read true (g b) r')) ≡ stops limit rest → PassesLimit (peek c f d g) (t ∷ q) rest
    go F G none is e' = other G (judged-nothing true (c.within t) (c.stands t) is) (then-stops (token_of true d.stands d.within d.reason (t ∷ q)) (λ b r'. read true (g b) r') limit rest e')
    go F G past is e' = let J = judged-exceeds (c.within t) (c.stands t) is in
        inl (record { first = t; others = q; value = J.0; split = refl; here = cc e'; stands_for = J.1; exceeds = J.2 })
    go F G (found a) is e' = let J = judged-stands true (c.within t) (c.stands t) a is in
        inr (inl (a, q, record { first = t; split = refl; stands_for = J.0; keeps = J.1 }, F a q e'))
passes-limit {o} {X} (tail goes_on begins within part f) ts rest e =
    by (λ e'. passes-limit f ts rest e')
    (λ s mid e'. parts-exceed goes_on begins within (λ s' a r. read true (part s' a) r) (λ s' a y r r'. Spells true (part s' a) y r r') (λ s' a r r'. PassesLimit (part s' a) r r')
    (λ s' a r y r' e''. read-found true (part s' a) r y r' e'') (λ s' a r r' e''. passes-limit (part s' a) r r' e'') (length mid) s mid rest e')
    (then-stops (read true f ts) (λ s r. parts true goes_on begins within (λ s' a r'. read true (part s' a) r') (length r) s r) limit rest e)
  where
    by : (read true f ts ≡ stops limit rest → PassesLimit f ts rest)
        → ((s : X) (mid : List Lexeme) → parts true goes_on begins within (λ s' a r'. read true (part s' a) r') (length mid) s mid ≡ stops limit rest → (n : ℕ) × ExceedParts goes_on begins within (λ s' a y r r'. Spells true (part s' a) y r r') (λ s' a r r'. PassesLimit (part s' a) r r') n s mid rest)
        → (read true f ts ≡ stops limit rest) ⊎ ((s : X) × (mid : List Lexeme) × (read true f ts ≡ reads s mid) × (parts true goes_on begins within (λ s' a r'. read true (part s' a) r') (length mid) s mid ≡ stops limit rest)) → PassesLimit (tail goes_on begins within part f) ts rest
    by F G (inl here) = inl (F here)
    by F G (inr (s, mid, first, later)) = let P = G s mid later in inr (s, mid, read-found true f ts s mid first, P.0, P.1)
passes-limit (balanced b) ts rest e = let never : unfit Syntax ≡ limit = (closed-halts (b ∷ []) ts limit rest e).why_is in absurd (cc never)
passes-limit {o} {X} (mapped {A} k f) ts rest e = by (λ e'. passes-limit f ts rest e') (then-stops (read true f ts) (λ a r. reads (k a) r) limit rest e)
  where
    by : (read true f ts ≡ stops limit rest → PassesLimit f ts rest) → (read true f ts ≡ stops limit rest) ⊎ ((a : A) × (mid : List Lexeme) × (read true f ts ≡ reads a mid) × (reads (k a) mid ≡ stops limit rest)) → PassesLimit f ts rest
    by F (inl here) = F here
    by F (inr (a, mid, first, later)) = absurd (cc later)

-- ---- what passes a limit is where reading stops

token-limit : {A : Type 0} (stands : Lexeme → Option A) (within : Lexeme → Bool) (reason : Lexeme → Reason) (ts rest : List Lexeme) → Exceeds stands within ts rest → token_of true stands within reason ts ≡ stops limit rest
token-limit stands within reason ts rest E =
    ap (token_of true stands within reason) E.split ∙ rw (E.stands_for, E.exceeds) (ap (λ (us : List Lexeme). stops limit us) (sym E.split ∙ E.here))

module _ {A S : Type 0} (goes_on : Lexeme → Bool) (begins : S → Lexeme → Option A) (within : S → Lexeme → Bool) (part : S → A → List Lexeme → Reading S) (spell : S → A → S → List Lexeme → List Lexeme → Type 0) (exceed : S → A → List Lexeme → List Lexeme → Type 0)
    (again-part : (s : S) (a : A) (ts : List Lexeme) (x : S) (rest : List Lexeme) → spell s a x ts rest → part s a ts ≡ reads x rest)
    (limit-part : (s : S) (a : A) (ts rest : List Lexeme) → exceed s a ts rest → part s a ts ≡ stops limit rest)
    (shorter-part : (s : S) (a : A) (ts : List Lexeme) (x : S) (rest : List Lexeme) → part s a ts ≡ reads x rest → length rest ≤ length ts) where
  begun-is : (s : S) (t : Lexeme) (j : Judged A) → judged true (within s t) (part_value (goes_on t) (begins s t)) ≡ j → begun true (within s t) (goes_on t) (begins s t) ≡ j
  begun-is s t j is = begun-begins true (within s t) (goes_on t) (begins s t) ∙ is

  one-part : (m : ℕ) (s : S) (a : A) (t : Lexeme) (q : List Lexeme) (z : Reading S) → begun true (within s t) (goes_on t) (begins s t) ≡ found a → part s a q ≡ z → parts true goes_on begins within part (suc m) s (t ∷ q) ≡ and_then z (λ s' r. parts true goes_on begins within part m s' r)
  unfolding parts
  one-part m s a t q z is e = rw (is, e) refl

  at-limit : (m : ℕ) (s : S) (t : Lexeme) (q : List Lexeme) → begun true (within s t) (goes_on t) (begins s t) ≡ past → parts true goes_on begins within part (suc m) s (t ∷ q) ≡ stops limit (t ∷ q)
  unfolding parts
  at-limit m s t q is = rw is refl

  pub parts-limit : (n m : ℕ) (s : S) (ts rest : List Lexeme) → length ts ≤ m → ExceedParts goes_on begins within spell exceed n s ts rest → parts true goes_on begins within part m s ts ≡ stops limit rest
  parts-limit zero zero s ts rest h (inl E) = absurd (omega (arith, ap length E.split))
  parts-limit zero (suc m) s ts rest h (inl E) =
      let j : judged true (within s E.first) (part_value (goes_on E.first) (begins s E.first)) ≡ past = rw (E.stands_for, E.exceeds) refl in
      ap (λ (us : List Lexeme). parts true goes_on begins within part (suc m) s us) E.split
      ∙ at-limit m s E.first E.others (begun-is s E.first past j)
      ∙ ap (λ (us : List Lexeme). stops limit us) (sym E.split ∙ E.here)
  parts-limit zero zero s ts rest h (inr (a, inside, T, E)) = absurd (omega (arith, ap length T.split))
  parts-limit zero (suc m) s ts rest h (inr (a, inside, T, E)) =
      ap (λ (us : List Lexeme). parts true goes_on begins within part (suc m) s us) T.split
      ∙ one-part m s a T.first inside (stops limit rest) (begun-is s T.first (found a) (stands-judged true (within s T.first) (part_value (goes_on T.first) (begins s T.first)) a T.stands_for T.keeps)) (limit-part s a inside rest E)
  parts-limit (suc n) zero s ts rest h (a, inside, next, behind, T, P, E) = absurd (omega (arith, ap length T.split))
  parts-limit (suc n) (suc m) s ts rest h (a, inside, next, behind, T, P, E) =
      let p = again-part s a inside next behind P in
      ap (λ (us : List Lexeme). parts true goes_on begins within part (suc m) s us) T.split
      ∙ one-part m s a T.first inside (reads next behind) (begun-is s T.first (found a) (stands-judged true (within s T.first) (part_value (goes_on T.first) (begins s T.first)) a T.stands_for T.keeps)) p
      ∙ parts-limit n m next behind rest (omega (arith, h, ap length T.split, shorter-part s a inside next behind p)) E

pub limit-again : {o : Lexeme → Bool} {X : Type 0} (f : Form o X) (ts rest : List Lexeme) → PassesLimit f ts rest → read true f ts ≡ stops limit rest
limit-again (give y) ts rest E = absurd E
limit-again (one c) ts rest E = token-limit c.stands c.within c.reason ts rest E
limit-again (seq f k) ts rest (inl E) = rw (limit-again f ts rest E) refl
limit-again (seq f k) ts rest (inr (a, mid, F, E)) = rw (read-again true f ts a mid F) (limit-again (k a) mid rest E)
limit-again (upto f c fits) ts rest (inl E) = rw (limit-again f ts rest E) refl
limit-again (upto f c fits) ts rest (inr (a, mid, F, E)) = rw (read-again true f ts a mid F, token-limit (c a).stands (c a).within (c a).reason mid rest E) refl
limit-again (peek c f d g) ts rest (inl E) =
    ap (peeked true c (λ a r. read true (f a) r) (λ r. and_then (token_of true d.stands d.within d.reason r) (λ b r'. read true (g b) r'))) E.split
    ∙ rw (E.stands_for, E.exceeds) (ap (λ (us : List Lexeme). stops limit us) (sym E.split ∙ E.here))
limit-again (peek c f d g) ts rest (inr (inl (a, mid, T, E))) =
    peek-first true c (λ a' r. read true (f a') r) (λ r. and_then (token_of true d.stands d.within d.reason r) (λ b r'. read true (g b) r')) ts mid a T ∙ limit-again (f a) mid rest E
limit-again (peek c f d g) ts rest (inr (inr (inl (nothing, E)))) =
    peek-other true c (λ a' r. read true (f a') r) (λ r. and_then (token_of true d.stands d.within d.reason r) (λ b r'. read true (g b) r')) ts nothing
    ∙ rw (token-limit d.stands d.within d.reason ts rest E) refl
limit-again (peek c f d g) ts rest (inr (inr (inr (nothing, b, mid, T, E)))) =
    peek-other true c (λ a' r. read true (f a') r) (λ r. and_then (token_of true d.stands d.within d.reason r) (λ b' r'. read true (g b') r')) ts nothing
    ∙ rw (token-again true d.stands d.within d.reason ts b mid T) (limit-again (g b) mid rest E)
limit-again (tail goes_on begins within part f) ts rest (inl E) = rw (limit-again f ts rest E) refl
limit-again (tail goes_on begins within part f) ts rest (inr (s, mid, F, n, E)) =
    rw (read-again true f ts s mid F) (parts-limit goes_on begins within (λ s' a r. read true (part s' a) r) (λ s' a y r r'. Spells true (part s' a) y r r') (λ s' a r r'. PassesLimit (part s' a) r r')
    (λ s' a r y r' sp. read-again true (part s' a) r y r' sp) (λ s' a r r' E'. limit-again (part s' a) r r' E') (λ s' a r y r' e'. shorter true (part s' a) r y r' e') n (length mid) s mid rest (omega arith) E)
limit-again (balanced b) ts rest E = absurd E
limit-again (mapped k f) ts rest E = rw (limit-again f ts rest E) refl

pub stops-unfit : {X : Type 0} (f : Form never X) (ts : List Lexeme) (reason : Reason) (rest : List Lexeme) → read true f ts ≡ stops (unfit reason) rest → StopsUnfit f ts rest
stops-unfit f ts reason rest e =
    let H = (read_lawful false f).halts ts (unfit reason) rest ((read_lawful true f).lifts_unfit ts reason rest e) in
    record {
      front = H.front;
      split = H.split;
      begins = begins-by f H.front H.ends;
      keeps = λ r P. let both : stops (unfit reason) rest ≡ stops limit r = sym e ∙ limit-again f ts r P in cc both;
      first = λ t others is B.
          let read-so = read-again false f ((H.front ++ t ∷ []) ++ B.0) B.1 [] B.2 in
          let stops-so = H.again t others B.0 is in
          let both : stops (unfit reason) (t ∷ B.0) ≡ reads B.1 [] = sym stops-so ∙ ap (λ (us : List Lexeme). read false f us) (sym (append_assoc H.front (t ∷ []) B.0)) ∙ read-so in
          cc both;
    }

pub stops-past : {X : Type 0} (f : Form never X) (ts rest : List Lexeme) → read true f ts ≡ stops limit rest → StopsPast f ts rest
stops-past f ts rest e =
    let H = (read_lawful true f).halts ts limit rest e in
    let P = H.past_limit refl in
    record { front = H.front; token = P.token; others = P.others; split = H.split; is = P.is; stands = begins-by f (H.front ++ P.token ∷ []) P.ends; passes = passes-limit f ts rest e }

-- after what spells a value no token is allowed
pub stops-behind : {X : Type 0} (f : Form never X) (ts : List Lexeme) (x : X) (t : Lexeme) (q : List Lexeme) → read true f ts ≡ reads x (t ∷ q) → StopsUnfit f ts (t ∷ q)
stops-behind f ts x t q e =
    let lifted = (read_lawful true f).lifts ts x (t ∷ q) e in
    let W = (read_lawful false f).whole ts x (t ∷ q) lifted in
    record {
      front = W.front;
      split = W.split;
      begins = ([], x, read-found false f (W.front ++ []) x [] (W.again [] (inr refl)));
      keeps = λ r P. let both : reads x (t ∷ q) ≡ stops limit r = sym e ∙ limit-again f ts r P in cc both;
      first = λ u others is B.
          let same : t ≡ u = cc is in
          let read-so = read-again false f ((W.front ++ u ∷ []) ++ B.0) B.1 [] B.2 in
          let here = W.again (u ∷ B.0) (inr refl) in
          let both : reads x (u ∷ B.0) ≡ reads B.1 [] = sym here ∙ ap (λ (us : List Lexeme). read false f us) (sym (append_assoc W.front (u ∷ []) B.0)) ∙ read-so in
          cc both;
    }
