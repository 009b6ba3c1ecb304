-- Reading stops for the one reason that the definitions give.
use Rattle.ir_reader.proofs.Common.{◌≡◌, ◌⊎◌, inl, inr, true, false, List, [], ◌∷◌, ◌++◌, refl, sym, ap, subst, ◌∙◌, append_assoc, append-nil, append_cancel_right, Lexeme, Reason, limit, reads, stops, read, Spells, Begins, StopsUnfit, free-never, read_lawful, read-found, read-again, passes-limit, stops-unfit, stops-behind, WrittenFunction, reason, define, TypeMayStand, IsStopReason, IsUnfit}
use Rattle.token_forms.specs.Form.{unfit}
use Rattle.ir_reader.proofs.Looking.{AllTypes, Uses, Refuses, Says, some-type, look}
use Rattle.ir_reader.proofs.TypesTold.{tells-define}

abbrev Tokens : Type 0
Tokens = List Lexeme

-- ---- two prefixes of the same tokens

abbrev Prefixes : Tokens → Tokens → Tokens → Tokens → Type 0
Prefixes p q r s =
    ((t : Lexeme) × (more : Tokens) × (others : Tokens) × (q ≡ p ++ t ∷ more) × (r ≡ t ∷ others))
    ⊎ ((p ≡ q) × (r ≡ s))
    ⊎ ((t : Lexeme) × (more : Tokens) × (others : Tokens) × (p ≡ q ++ t ∷ more) × (s ≡ t ∷ others))

same-next : (x : Lexeme) (p q r s : Tokens) → Prefixes p q r s → Prefixes (x ∷ p) (x ∷ q) r s
same-next x p q r s (inl (t, more, others, e, f)) = inl (t, more, others, ap (λ (us : Tokens). x ∷ us) e, f)
same-next x p q r s (inr (inl (e, f))) = inr (inl (ap (λ (us : Tokens). x ∷ us) e, f))
same-next x p q r s (inr (inr (t, more, others, e, f))) = inr (inr (t, more, others, ap (λ (us : Tokens). x ∷ us) e, f))

prefixes-of : (p q r s : Tokens) → p ++ r ≡ q ++ s → Prefixes p q r s
prefixes-of [] [] r s e = inr (inl (refl, e))
prefixes-of [] (y ∷ q) r s e = inl (y, q, q ++ s, refl, e)
prefixes-of (x ∷ p) [] r s e = inr (inr (x, p, p ++ r, refl, sym e))
prefixes-of (x ∷ p) (y ∷ q) r s e =
    let same : x ≡ y = cc e in
    let rest : p ++ r ≡ q ++ s = cc e in
    subst (λ (z : Lexeme). Prefixes (x ∷ p) (z ∷ q) r s) same (same-next x p q r s (prefixes-of p q r s rest))

-- ---- what begins a function

begins-before : (front more : Tokens) → Begins define (front ++ more) → Begins define front
begins-before front more (later, x, S) = (more ++ later, x, subst (λ (us : Tokens). Spells false define x us []) (append_assoc front more later) S)

uses-begins : (ts : Tokens) → Uses (read false define ts) → Begins define ts
uses-begins ts (inl (x, e)) = ([], x, read-found false define (ts ++ []) x [] (ap (λ (us : Tokens). read false define us) (append-nil ts) ∙ e))
uses-begins ts (inr (why, e)) =
    let H = (read_lawful false define).halts ts why [] e in
    let B : Begins define H.front = (H.ends.more ++ [], H.ends.value, read-found false define (H.front ++ (H.ends.more ++ [])) H.ends.value [] (H.ends.whole [] refl)) in
    subst (λ (us : Tokens). Begins define us) (sym (H.split ∙ append-nil H.front)) B

refuses-begins : (front : Tokens) (u : Lexeme) → Refuses (read false define (front ++ u ∷ [])) u → Begins define (front ++ u ∷ []) → ⊥
refuses-begins front u (why, e) (more, x, S) =
    let H = (read_lawful false define).halts (front ++ u ∷ []) (unfit why) (u ∷ []) e in
    let again : read false define (H.front ++ u ∷ more) ≡ stops (unfit why) (u ∷ more) = H.again u [] more refl in
    let read-so : read false define ((front ++ u ∷ []) ++ more) ≡ reads x [] = read-again false define ((front ++ u ∷ []) ++ more) x [] S in
    let same : (front ++ u ∷ []) ++ more ≡ H.front ++ u ∷ more = ap (λ (us : Tokens). us ++ more) H.split ∙ append_assoc H.front (u ∷ []) more in
    let both : stops (unfit why) (u ∷ more) ≡ reads x [] = sym again ∙ ap (λ (us : Tokens). read false define us) (sym same) ∙ read-so in
    cc both

none-stands : (front : Tokens) → AllTypes (λ u. Refuses (read false define (front ++ u ∷ [])) u) → TypeMayStand front → ⊥
none-stands front (a, b, c) (inl B) = refuses-begins front _ a B
none-stands front (a, b, c) (inr (inl B)) = refuses-begins front _ b B
none-stands front (a, b, c) (inr (inr B)) = refuses-begins front _ c B

-- ---- reading stops for this reason

says-why : (front rest : Tokens) (why : Reason) → read true define (front ++ rest) ≡ stops (unfit why) rest → Says (λ u. Uses (read false define (front ++ u ∷ []))) (λ u. Refuses (read false define (front ++ u ∷ [])) u) why rest → IsStopReason front rest why
says-why front [] why e is =
    (λ w S. let both : reads w [] ≡ stops (unfit why) [] = sym (read-again true define front w [] S) ∙ ap (λ (us : Tokens). read true define us) (sym (append-nil front)) ∙ e in cc both, is)
says-why front (t ∷ q) why e (inl (is, some)) = inl (some-type (λ u U. uses-begins (front ++ u ∷ []) U) some, is)
says-why front (t ∷ q) why e (inr (is, all)) = inr (none-stands front all, is)

pub unfit-why : (ts rest : Tokens) (why : Reason) → read true define ts ≡ stops (unfit why) rest → IsUnfit why ts rest
unfit-why ts rest why e = record { stops = S; because = because }
  where
    S : StopsUnfit define ts rest
    S = stops-unfit define ts why rest e

    because : IsStopReason S.front rest why
    because =
        let L = look define tells-define ts why rest ((read_lawful true define).lifts_unfit ts why rest e) in
        let front : L.front ≡ S.front = append_cancel_right L.front S.front rest (sym L.split ∙ S.split) in
        subst (λ (us : Tokens). IsStopReason us rest why) front (says-why L.front rest why (ap (λ (us : Tokens). read true define us) (sym L.split) ∙ e) L.says)

-- nothing is allowed after a whole function
pub unfit-behind : (ts : Tokens) (w : WrittenFunction) (t : Lexeme) (q : Tokens) → Spells true define w ts (t ∷ q) → IsUnfit (reason t) ts (t ∷ q)
unfit-behind ts w t q spelled = record { stops = S; because = inr (no-type, refl) }
  where
    e : read true define ts ≡ reads w (t ∷ q)
    e = read-again true define ts w (t ∷ q) spelled

    S : StopsUnfit define ts (t ∷ q)
    S = stops-behind define ts w t q e

    no-begin : (u : Lexeme) → Begins define (S.front ++ u ∷ []) → ⊥
    no-begin u (more, x, B) =
        let W = (read_lawful false define).whole ts w (t ∷ q) ((read_lawful true define).lifts ts w (t ∷ q) e) in
        let front : S.front ≡ W.front = append_cancel_right S.front W.front (t ∷ q) (sym S.split ∙ W.split) in
        let again : read false define (W.front ++ u ∷ more) ≡ reads w (u ∷ more) = W.again (u ∷ more) (inr (free-never (u ∷ more))) in
        let same : (S.front ++ u ∷ []) ++ more ≡ W.front ++ u ∷ more = append_assoc S.front (u ∷ []) more ∙ ap (λ (us : Tokens). us ++ u ∷ more) front in
        let both : reads w (u ∷ more) ≡ reads x [] = sym again ∙ ap (λ (us : Tokens). read false define us) (sym same) ∙ read-again false define ((S.front ++ u ∷ []) ++ more) x [] B in
        cc both

    no-type : TypeMayStand S.front → ⊥
    no-type (inl B) = no-begin _ B
    no-type (inr (inl B)) = no-begin _ B
    no-type (inr (inr B)) = no-begin _ B

-- ---- one reason

one-reason : (front rest : Tokens) (a b : Reason) → IsStopReason front rest a → IsStopReason front rest b → a ≡ b
one-reason front [] a b A B = A.1 ∙ sym B.1
one-reason front (t ∷ q) a b (inl A) (inl B) = A.1 ∙ sym B.1
one-reason front (t ∷ q) a b (inl A) (inr B) = absurd (B.0 A.0)
one-reason front (t ∷ q) a b (inr A) (inl B) = absurd (A.0 B.0)
one-reason front (t ∷ q) a b (inr A) (inr B) = A.1 ∙ sym B.1

-- the first token that isn't allowed is unique
pub one-unfit : (ts r s : Tokens) (a b : Reason) → IsUnfit a ts r → IsUnfit b ts s → (r ≡ s) × (a ≡ b)
one-unfit ts r s a b A B = by (prefixes-of A.stops.front B.stops.front r s (sym A.stops.split ∙ B.stops.split))
  where
    begins-with : (p q more : Tokens) (t : Lexeme) → q ≡ p ++ t ∷ more → Begins define q → Begins define (p ++ t ∷ [])
    begins-with p q more t e B = begins-before (p ++ t ∷ []) more (subst (λ (us : Tokens). Begins define us) (e ∙ sym (append_assoc p (t ∷ []) more)) B)

    by : Prefixes A.stops.front B.stops.front r s → (r ≡ s) × (a ≡ b)
    by (inl (t, more, others, e, f)) = absurd (A.stops.first t others f (begins-with A.stops.front B.stops.front more t e B.stops.begins))
    by (inr (inr (t, more, others, e, f))) = absurd (B.stops.first t others f (begins-with B.stops.front A.stops.front more t e A.stops.begins))
    by (inr (inl (e, f))) = (f, one-reason B.stops.front s a b (subst (λ (us : Tokens). IsStopReason us s a) e (subst (λ (us : Tokens). IsStopReason A.stops.front us a) f A.because)) B.because)

-- tokens of which one isn't allowed are no function
pub unfit-whole : (ts rest : Tokens) (why : Reason) (w : WrittenFunction) → IsUnfit why ts rest → read true define ts ≡ reads w [] → ⊥
unfit-whole ts rest why w U e = by rest U.stops.split U.stops.first U.because
  where
    spelled : Spells false define w ts []
    spelled = read-found false define ts w [] ((read_lawful true define).lifts ts w [] e)

    by : (left : Tokens) → ts ≡ U.stops.front ++ left → ((t : Lexeme) (others : Tokens) → left ≡ t ∷ others → Begins define (U.stops.front ++ t ∷ []) → ⊥) → IsStopReason U.stops.front left why → ⊥
    by [] split first because = because.0 w (subst (λ (us : Tokens). Spells true define w us []) (split ∙ append-nil U.stops.front) (read-found true define ts w [] e))
    by (t ∷ others) split first because =
        first t others refl (others, w, subst (λ (us : Tokens). Spells false define w us []) (split ∙ sym (append_assoc U.stops.front (t ∷ []) others)) spelled)

pub unfit-limit : (ts rest left : Tokens) (why : Reason) → IsUnfit why ts rest → read true define ts ≡ stops limit left → ⊥
unfit-limit ts rest left why U e = U.stops.keeps left (passes-limit define ts left e)
