-- What holds of reading parts, as long as one begins.
use Rattle.token_forms.proofs.Common.{◌≡◌, ℕ, zero, suc, ◌≤◌, inl, inr, Bool, true, false, List, [], ◌∷◌, ◌++◌, length, Option, refl, sym, ap, subst, ◌∙◌, append_assoc, arith, not, append-nil, length-append, Lexeme, Reason, either, Why, unfit, limit, Reading, reads, stops, and_then, Judged, none, past, found, first_of, begun, parts}
use Rattle.token_forms.proofs.Laws.{is_free, SameHead, Follows, Whole, Ends, Halts, Lawful, free-left, free-right, follows-right, same-head-at}
use Rattle.token_forms.proofs.Tokens.{judged-lifts, judged-none, judged-past}

abbrev Tokens : Type 0
Tokens = List Lexeme

abbrev Reader : Type 0 → Type 0
Reader X = Tokens → Reading X

begun-lifts : {A : Type 0} (b : Bool) (within : Bool) (go : Bool) (v : Option A) (a : A) → begun b within go v ≡ found a → begun false within go v ≡ found a
begun-lifts b within true v a e = judged-lifts b within v a e
begun-lifts b within false v a e = absurd (cc e)

begun-none : {A : Type 0} (b : Bool) (within : Bool) (go : Bool) (v : Option A) → begun b within go v ≡ none → begun false within go v ≡ none
begun-none b within true v e = judged-none b within v e
begun-none b within false v e = refl

begun-past : {A : Type 0} (b : Bool) (within : Bool) (go : Bool) (v : Option A) → begun b within go v ≡ past → (a : A) × (begun false within go v ≡ found a)
begun-past b within true v e = judged-past b within v e
begun-past b within false v e = absurd (cc e)

module _ {A S : Type 0} {o : Lexeme → Bool} (b : Bool) (goes_on : Lexeme → Bool) (begins : S → Lexeme → Option A) (within : S → Lexeme → Bool) (part part' : S → A → Reader S) (P : (s : S) (a : A) → Lawful o (part s a) (part' s a)) where
  abbrev going : ℕ → S → Reader S
  going n s ts = parts b goes_on begins within part n s ts

  abbrev free_going : ℕ → S → Reader S
  free_going n s ts = parts false goes_on begins within part' n s ts

  going-nil : (m : ℕ) (s : S) → going m s [] ≡ reads s []
  unfolding parts
  going-nil zero s = refl
  going-nil (suc m) s = refl

  going-free : (m : ℕ) (s : S) (r : Tokens) → is_free goes_on r ≡ true → going m s r ≡ reads s r
  unfolding parts
  going-free zero s r f = refl
  going-free (suc m) s [] f = refl
  going-free (suc m) s (t ∷ r) f = go (goes_on t) f
    where
      go : (x : Bool) → not x ≡ true → first_of (begun b (within s t) x (begins s t)) t r (λ a rest. and_then (part s a rest) (λ s' rest'. parts b goes_on begins within part m s' rest')) (λ rest. reads s rest) ≡ reads s (t ∷ r)
      go true e = absurd (cc e)
      go false e = refl

  going-none : (m : ℕ) (s : S) (t : Lexeme) (r : Tokens) → begun b (within s t) (goes_on t) (begins s t) ≡ none → going m s (t ∷ r) ≡ reads s (t ∷ r)
  unfolding parts
  going-none zero s t r e = refl
  going-none (suc m) s t r e = rw e refl

  lifted-free : (m : ℕ) (s : S) (r : Tokens) → is_free goes_on r ≡ true → free_going m s r ≡ reads s r
  unfolding parts
  lifted-free zero s r f = refl
  lifted-free (suc m) s [] f = refl
  lifted-free (suc m) s (t ∷ r) f = go (goes_on t) f
    where
      go : (x : Bool) → not x ≡ true → first_of (begun false (within s t) x (begins s t)) t r (λ a rest. and_then (part' s a rest) (λ s' rest'. parts false goes_on begins within part' m s' rest')) (λ rest. reads s rest) ≡ reads s (t ∷ r)
      go true e = absurd (cc e)
      go false e = refl

  record Parts_whole (s : S) (ts : Tokens) (x : S) (rest : Tokens) : Type 0 where
    front : Tokens
    split : ts ≡ front ++ rest
    again : (m : ℕ) (r : Tokens) → length (front ++ r) ≤ m → Follows (either goes_on o) rest r → going m s (front ++ r) ≡ reads x r

  ended-nil : (s x : S) (rest : Tokens) → reads s [] ≡ reads x rest → Parts_whole s [] x rest
  ended-nil s x rest e = record { front = []; split = cc e; again = λ m r h f. go m r f }
    where
      same : s ≡ x
      same = cc e

      nil : [] ≡ rest
      nil = cc e

      at-nil : (m : ℕ) (r : Tokens) → SameHead [] r → going m s r ≡ reads s r
      at-nil m [] h = going-nil m s
      at-nil m (u ∷ r) h = absurd h

      go : (m : ℕ) (r : Tokens) → Follows (either goes_on o) rest r → going m s r ≡ reads x r
      go m r (inl h) = at-nil m r (subst (λ (us : Tokens). SameHead us r) (sym nil) h) ∙ ap (λ z. reads z r) same
      go m r (inr h) = going-free m s r (free-left goes_on o r h) ∙ ap (λ z. reads z r) same

  ended-at : (s x : S) (t : Lexeme) (q rest : Tokens) → begun b (within s t) (goes_on t) (begins s t) ≡ none → reads s (t ∷ q) ≡ reads x rest → Parts_whole s (t ∷ q) x rest
  ended-at s x t q rest is e = record { front = []; split = cc e; again = λ m r h f. go m r f }
    where
      same : s ≡ x
      same = cc e

      left : t ∷ q ≡ rest
      left = cc e

      at : (m : ℕ) (r : Tokens) → SameHead (t ∷ q) r → going m s r ≡ reads s r
      at m [] h = absurd h
      at m (u ∷ r) h = subst (λ (v : Lexeme). going m s (v ∷ r) ≡ reads s (v ∷ r)) h (going-none m s t r is)

      go : (m : ℕ) (r : Tokens) → Follows (either goes_on o) rest r → going m s r ≡ reads x r
      go m r (inl h) = at m r (subst (λ (us : Tokens). SameHead us r) (sym left) h) ∙ ap (λ z. reads z r) same
      go m r (inr h) = going-free m s r (free-left goes_on o r h) ∙ ap (λ z. reads z r) same

  -- the tokens between two parts
  part-follows : (mid front rest r : Tokens) → mid ≡ front ++ rest → Follows (either goes_on o) rest r → Follows o mid (front ++ r)
  part-follows mid [] rest r split f = subst (λ (us : Tokens). Follows o us r) (sym split) (follows-right goes_on o rest r f)
  part-follows mid (t ∷ front) rest r split f = inl (subst (λ (us : Tokens). SameHead us (t ∷ (front ++ r))) (sym split) refl)

  begun-again : (m : ℕ) (s s1 : S) (a : A) (t : Lexeme) (ts rest : Tokens) → begun b (within s t) (goes_on t) (begins s t) ≡ found a → part s a ts ≡ reads s1 rest → going (suc m) s (t ∷ ts) ≡ going m s1 rest
  unfolding parts
  begun-again m s s1 a t ts rest is e = rw (is, e) refl

  parts_whole : (n : ℕ) (s : S) (ts : Tokens) (x : S) (rest : Tokens) → length ts ≤ n → going n s ts ≡ reads x rest → Parts_whole s ts x rest
  unfolding parts
  parts_whole zero s [] x rest h e = ended-nil s x rest e
  parts_whole zero s (t ∷ q) x rest h e = absurd (omega arith)
  parts_whole (suc n) s [] x rest h e = ended-nil s x rest e
  parts_whole (suc n) s (t ∷ q) x rest h e = go (λ s1 mid. parts_whole n s1 mid x rest) (begun b (within s t) (goes_on t) (begins s t)) refl e
    where
      go : ((s1 : S) (mid : Tokens) → length mid ≤ n → going n s1 mid ≡ reads x rest → Parts_whole s1 mid x rest)
          → (j : Judged A) → begun b (within s t) (goes_on t) (begins s t) ≡ j → first_of j t q (λ a rest'. and_then (part s a rest') (λ s' rest''. going n s' rest'')) (λ rest'. reads s rest') ≡ reads x rest → Parts_whole s (t ∷ q) x rest
      go rec none is e' = ended-at s x t q rest is e'
      go rec past is e' = absurd (cc e')
      go rec (found a) is e' = inner (part s a q) refl e'
        where
          inner : (z : Reading S) → part s a q ≡ z → and_then z (λ s' rest''. going n s' rest'') ≡ reads x rest → Parts_whole s (t ∷ q) x rest
          inner (stops why r) pe ee = absurd (cc ee)
          inner (reads s1 mid) pe ee =
              let Wa = (P s a).whole q s1 mid pe in
              let short : length mid ≤ n = omega (arith, ap length Wa.split, length-append Wa.front mid) in
              let Wb = rec s1 mid short ee in
              record {
                front = t ∷ (Wa.front ++ Wb.front);
                split = ap (λ (us : Tokens). t ∷ us) (Wa.split ∙ ap (λ (us : Tokens). Wa.front ++ us) Wb.split ∙ sym (append_assoc Wa.front Wb.front rest));
                again = λ m r hm f. step Wa Wb m r hm f;
              }
            where
              step : (Wa : Whole o (part s a) q s1 mid) (Wb : Parts_whole s1 mid x rest) (m : ℕ) (r : Tokens) → length (t ∷ ((Wa.front ++ Wb.front) ++ r)) ≤ m → Follows (either goes_on o) rest r → going m s (t ∷ ((Wa.front ++ Wb.front) ++ r)) ≡ reads x r
              step Wa Wb zero r hm f = absurd (omega arith)
              step Wa Wb (suc m) r hm f =
                  let e1 = Wa.again (Wb.front ++ r) (part-follows mid Wb.front rest r Wb.split f) in
                  let e2 : part s a ((Wa.front ++ Wb.front) ++ r) ≡ reads s1 (Wb.front ++ r) = rw (append_assoc Wa.front Wb.front r) e1 in
                  begun-again m s s1 a t ((Wa.front ++ Wb.front) ++ r) (Wb.front ++ r) is e2
                  ∙ Wb.again m r (omega (arith, hm, ap length (append_assoc Wa.front Wb.front r), length-append Wa.front (Wb.front ++ r))) f

  record Parts_end (s : S) (front : Tokens) : Type 0 where
    more : Tokens
    value : S
    whole : (m : ℕ) (r : Tokens) → length (front ++ (more ++ r)) ≤ m → is_free (either goes_on o) r ≡ true → free_going m s (front ++ (more ++ r)) ≡ reads value r

  record Parts_past (s : S) (front rest : Tokens) : Type 0 where
    token : Lexeme
    others : Tokens
    is : rest ≡ token ∷ others
    ends : Parts_end s (front ++ token ∷ [])

  record Parts_halt (s : S) (ts : Tokens) (why : Why) (rest : Tokens) : Type 0 where
    front : Tokens
    split : ts ≡ front ++ rest
    again : (m : ℕ) (t : Lexeme) (q r : Tokens) → length (front ++ t ∷ r) ≤ m → rest ≡ t ∷ q → going m s (front ++ t ∷ r) ≡ stops why (t ∷ r)
    ends : Parts_end s front
    past_limit : why ≡ limit → Parts_past s front rest

  parts_end : (s : S) → Parts_end s []
  parts_end s = record { more = []; value = s; whole = λ m r h f. lifted-free m s r (free-left goes_on o r f) }

  lifted-again : (m : ℕ) (s s1 : S) (a : A) (t : Lexeme) (ts rest : Tokens) → begun false (within s t) (goes_on t) (begins s t) ≡ found a → part' s a ts ≡ reads s1 rest → free_going (suc m) s (t ∷ ts) ≡ free_going m s1 rest
  unfolding parts
  lifted-again m s s1 a t ts rest is e = rw (is, e) refl

  -- in the part that has begun
  in_part : (s : S) (a : A) (t : Lexeme) (p : Tokens) → begun false (within s t) (goes_on t) (begins s t) ≡ found a → Ends o (part' s a) p → Parts_end s (t ∷ p)
  in_part s a t p is E = record { more = E.more; value = E.value; whole = λ m r h f. go m r h f }
    where
      go : (m : ℕ) (r : Tokens) → length (t ∷ (p ++ (E.more ++ r))) ≤ m → is_free (either goes_on o) r ≡ true → free_going m s (t ∷ (p ++ (E.more ++ r))) ≡ reads E.value r
      go zero r h f = absurd (omega arith)
      go (suc m) r h f = lifted-again m s E.value a t (p ++ (E.more ++ r)) r is (E.whole r (free-right goes_on o r f)) ∙ lifted-free m E.value r (free-left goes_on o r f)

  -- in a later one
  later : (s s1 : S) (a : A) (t : Lexeme) (q mid rest p : Tokens) → begun false (within s t) (goes_on t) (begins s t) ≡ found a → (W : Whole o (part s a) q s1 mid) → mid ≡ p ++ rest → Parts_end s1 p → Parts_end s (t ∷ (W.front ++ p))
  later s s1 a t q mid rest [] is W split E = record { more = []; value = s1; whole = λ m r h f. go m r h f }
    where
      go : (m : ℕ) (r : Tokens) → length (t ∷ ((W.front ++ []) ++ r)) ≤ m → is_free (either goes_on o) r ≡ true → free_going m s (t ∷ ((W.front ++ []) ++ r)) ≡ reads s1 r
      go zero r h f = absurd (omega arith)
      go (suc m) r h f =
          let e1 = (P s a).lifts _ _ _ (W.again r (inr (free-right goes_on o r f))) in
          let e2 : part' s a ((W.front ++ []) ++ r) ≡ reads s1 r = rw (append-nil W.front) e1 in
          lifted-again m s s1 a t ((W.front ++ []) ++ r) r is e2 ∙ lifted-free m s1 r (free-left goes_on o r f)
  later s s1 a t q mid rest (u ∷ p) is W split E = record { more = E.more; value = E.value; whole = λ m r h f. go m r h f }
    where
      go : (m : ℕ) (r : Tokens) → length (t ∷ ((W.front ++ u ∷ p) ++ (E.more ++ r))) ≤ m → is_free (either goes_on o) r ≡ true → free_going m s (t ∷ ((W.front ++ u ∷ p) ++ (E.more ++ r))) ≡ reads E.value r
      go zero r h f = absurd (omega arith)
      go (suc m) r h f =
          let back : Tokens = E.more ++ r in
          let e1 = (P s a).lifts _ _ _ (W.again (u ∷ (p ++ back)) (inl (subst (λ (us : Tokens). SameHead us (u ∷ (p ++ back))) (sym split) refl))) in
          let e2 : part' s a ((W.front ++ u ∷ p) ++ back) ≡ reads s1 (u ∷ (p ++ back)) = rw (append_assoc W.front (u ∷ p) back) e1 in
          lifted-again m s s1 a t ((W.front ++ u ∷ p) ++ back) (u ∷ (p ++ back)) is e2
          ∙ E.whole m r (omega (arith, h, ap length (append_assoc W.front (u ∷ p) back), length-append W.front (u ∷ (p ++ back)))) f

  begun-stops : (m : ℕ) (s : S) (a : A) (t : Lexeme) (ts rest : Tokens) (why : Why) → begun b (within s t) (goes_on t) (begins s t) ≡ found a → part s a ts ≡ stops why rest → going (suc m) s (t ∷ ts) ≡ stops why rest
  unfolding parts
  begun-stops m s a t ts rest why is e = rw (is, e) refl

  begun-limit : (m : ℕ) (s : S) (t : Lexeme) (ts : Tokens) → begun b (within s t) (goes_on t) (begins s t) ≡ past → going (suc m) s (t ∷ ts) ≡ stops limit (t ∷ ts)
  unfolding parts
  begun-limit m s t ts is = rw is refl

  parts_halts : (n : ℕ) (s : S) (ts : Tokens) (why : Why) (rest : Tokens) → length ts ≤ n → going n s ts ≡ stops why rest → Parts_halt s ts why rest
  unfolding parts
  parts_halts zero s ts why rest h e = absurd (cc e)
  parts_halts (suc n) s [] why rest h e = absurd (cc e)
  parts_halts (suc n) s (t ∷ q) why rest h e = go (λ s1 mid. parts_halts n s1 mid why rest) (begun b (within s t) (goes_on t) (begins s t)) refl e
    where
      at-limit : begun b (within s t) (goes_on t) (begins s t) ≡ past → limit ≡ why → t ∷ q ≡ rest → Parts_halt s (t ∷ q) why rest
      at-limit is why-is left =
          let stands = begun-past b (within s t) (goes_on t) (begins s t) is in
          record {
            front = [];
            split = left;
            again = λ m t' q' r hm f. go m t' q' r hm f;
            ends = parts_end s;
            past_limit = λ f. record { token = t; others = q; is = sym left; ends = in_part s stands.0 t [] stands.1 (P s stands.0).ends };
          }
        where
          go : (m : ℕ) (t' : Lexeme) (q' r : Tokens) → length (t' ∷ r) ≤ m → rest ≡ t' ∷ q' → going m s (t' ∷ r) ≡ stops why (t' ∷ r)
          go zero t' q' r hm f = absurd (omega arith)
          go (suc m) t' q' r hm f = let same : t ≡ t' = cc (left, f) in
              rw (← same) (begun-limit m s t r is ∙ ap (λ (v : Why). stops v (t ∷ r)) why-is)

      go : ((s1 : S) (mid : Tokens) → length mid ≤ n → going n s1 mid ≡ stops why rest → Parts_halt s1 mid why rest)
          → (j : Judged A) → begun b (within s t) (goes_on t) (begins s t) ≡ j → first_of j t q (λ a rest'. and_then (part s a rest') (λ s' rest''. going n s' rest'')) (λ rest'. reads s rest') ≡ stops why rest → Parts_halt s (t ∷ q) why rest
      go rec none is e' = absurd (cc e')
      go rec past is e' = at-limit is (cc e') (cc e')
      go rec (found a) is e' = inner (part s a q) refl e'
        where
          lifted : begun false (within s t) (goes_on t) (begins s t) ≡ found a
          lifted = begun-lifts b (within s t) (goes_on t) (begins s t) a is

          inner : (z : Reading S) → part s a q ≡ z → and_then z (λ s' rest''. going n s' rest'') ≡ stops why rest → Parts_halt s (t ∷ q) why rest
          inner (stops w r) pe ee = in_this (cc ee) (cc ee)
            where
              in_this : w ≡ why → r ≡ rest → Parts_halt s (t ∷ q) why rest
              in_this why-is left =
                  let H = (P s a).halts q why rest (pe ∙ ap (λ (v : Why). stops v r) why-is ∙ ap (λ (us : Tokens). stops why us) left) in
                  record {
                    front = t ∷ H.front;
                    split = ap (λ (us : Tokens). t ∷ us) H.split;
                    again = λ m t' q' r' hm f. step H m t' q' r' hm f;
                    ends = in_part s a t H.front lifted H.ends;
                    past_limit = λ f. let L = H.past_limit f in record { token = L.token; others = L.others; is = L.is; ends = in_part s a t (H.front ++ L.token ∷ []) lifted L.ends };
                  }
                where
                  step : (H : Halts o (part s a) (part' s a) q why rest) (m : ℕ) (t' : Lexeme) (q' r' : Tokens) → length (t ∷ (H.front ++ t' ∷ r')) ≤ m → rest ≡ t' ∷ q' → going m s (t ∷ (H.front ++ t' ∷ r')) ≡ stops why (t' ∷ r')
                  step H zero t' q' r' hm f = absurd (omega arith)
                  step H (suc m) t' q' r' hm f = begun-stops m s a t (H.front ++ t' ∷ r') (t' ∷ r') why is (H.again t' q' r' f)
          inner (reads s1 mid) pe ee =
              let Wa = (P s a).whole q s1 mid pe in
              let short : length mid ≤ n = omega (arith, ap length Wa.split, length-append Wa.front mid) in
              let H2 = rec s1 mid short ee in
              record {
                front = t ∷ (Wa.front ++ H2.front);
                split = ap (λ (us : Tokens). t ∷ us) (Wa.split ∙ ap (λ (us : Tokens). Wa.front ++ us) H2.split ∙ sym (append_assoc Wa.front H2.front rest));
                again = λ m t' q' r hm f. step Wa H2 m t' q' r hm f;
                ends = later s s1 a t q mid rest H2.front lifted Wa H2.split H2.ends;
                past_limit = λ f. limited Wa H2 f;
              }
            where
              limited : (Wa : Whole o (part s a) q s1 mid) (H2 : Parts_halt s1 mid why rest) → why ≡ limit → Parts_past s (t ∷ (Wa.front ++ H2.front)) rest
              limited Wa H2 f =
                  let L = H2.past_limit f in
                  let split : mid ≡ (H2.front ++ L.token ∷ []) ++ L.others = H2.split ∙ ap (λ (us : Tokens). H2.front ++ us) L.is ∙ sym (append_assoc H2.front (L.token ∷ []) L.others) in
                  record {
                    token = L.token;
                    others = L.others;
                    is = L.is;
                    ends = subst (λ (p : Tokens). Parts_end s (t ∷ p)) (sym (append_assoc Wa.front H2.front (L.token ∷ []))) (later s s1 a t q mid L.others (H2.front ++ L.token ∷ []) lifted Wa split L.ends);
                  }

              step : (Wa : Whole o (part s a) q s1 mid) (H2 : Parts_halt s1 mid why rest) (m : ℕ) (t' : Lexeme) (q' r : Tokens) → length (t ∷ ((Wa.front ++ H2.front) ++ t' ∷ r)) ≤ m → rest ≡ t' ∷ q' → going m s (t ∷ ((Wa.front ++ H2.front) ++ t' ∷ r)) ≡ stops why (t' ∷ r)
              step Wa H2 zero t' q' r hm f = absurd (omega arith)
              step Wa H2 (suc m) t' q' r hm f =
                  let e1 = Wa.again (H2.front ++ t' ∷ r) (inl (same-head-at mid H2.front q' r t' (H2.split ∙ ap (λ (us : Tokens). H2.front ++ us) f))) in
                  let e2 : part s a ((Wa.front ++ H2.front) ++ t' ∷ r) ≡ reads s1 (H2.front ++ t' ∷ r) = rw (append_assoc Wa.front H2.front (t' ∷ r)) e1 in
                  begun-again m s s1 a t ((Wa.front ++ H2.front) ++ t' ∷ r) (H2.front ++ t' ∷ r) is e2
                  ∙ H2.again m t' q' r (omega (arith, hm, ap length (append_assoc Wa.front H2.front (t' ∷ r)), length-append Wa.front (H2.front ++ t' ∷ r))) f

  parts_lift : (n : ℕ) (s : S) (ts : Tokens) (x : S) (rest : Tokens) → going n s ts ≡ reads x rest → free_going n s ts ≡ reads x rest
  unfolding parts
  parts_lift zero s ts x rest e = e
  parts_lift (suc n) s [] x rest e = e
  parts_lift (suc n) s (t ∷ q) x rest e = go (λ s1 mid. parts_lift n s1 mid x rest) (begun b (within s t) (goes_on t) (begins s t)) refl e
    where
      go : ((s1 : S) (mid : Tokens) → going n s1 mid ≡ reads x rest → free_going n s1 mid ≡ reads x rest)
          → (j : Judged A) → begun b (within s t) (goes_on t) (begins s t) ≡ j → first_of j t q (λ a rest'. and_then (part s a rest') (λ s' rest''. going n s' rest'')) (λ rest'. reads s rest') ≡ reads x rest → free_going (suc n) s (t ∷ q) ≡ reads x rest
      go rec none is e' = rw (begun-none b (within s t) (goes_on t) (begins s t) is) e'
      go rec past is e' = absurd (cc e')
      go rec (found a) is e' = inner (part s a q) refl e'
        where
          inner : (z : Reading S) → part s a q ≡ z → and_then z (λ s' rest''. going n s' rest'') ≡ reads x rest → free_going (suc n) s (t ∷ q) ≡ reads x rest
          inner (stops why r) pe ee = absurd (cc ee)
          inner (reads s1 mid) pe ee = rw (begun-lifts b (within s t) (goes_on t) (begins s t) a is, (P s a).lifts q s1 mid pe) (rec s1 mid ee)

  parts_lift_unfit : (n : ℕ) (s : S) (ts : Tokens) (reason : Reason) (rest : Tokens) → going n s ts ≡ stops (unfit reason) rest → free_going n s ts ≡ stops (unfit reason) rest
  unfolding parts
  parts_lift_unfit zero s ts reason rest e = e
  parts_lift_unfit (suc n) s [] reason rest e = e
  parts_lift_unfit (suc n) s (t ∷ q) reason rest e = go (λ s1 mid. parts_lift_unfit n s1 mid reason rest) (begun b (within s t) (goes_on t) (begins s t)) refl e
    where
      go : ((s1 : S) (mid : Tokens) → going n s1 mid ≡ stops (unfit reason) rest → free_going n s1 mid ≡ stops (unfit reason) rest)
          → (j : Judged A) → begun b (within s t) (goes_on t) (begins s t) ≡ j → first_of j t q (λ a rest'. and_then (part s a rest') (λ s' rest''. going n s' rest'')) (λ rest'. reads s rest') ≡ stops (unfit reason) rest → free_going (suc n) s (t ∷ q) ≡ stops (unfit reason) rest
      go rec none is e' = absurd (cc e')
      go rec past is e' = absurd (cc e')
      go rec (found a) is e' = inner (part s a q) refl e'
        where
          inner : (z : Reading S) → part s a q ≡ z → and_then z (λ s' rest''. going n s' rest'') ≡ stops (unfit reason) rest → free_going (suc n) s (t ∷ q) ≡ stops (unfit reason) rest
          inner (stops w r) pe ee =
              let why-is : w ≡ unfit reason = cc ee in
              let left : r ≡ rest = cc ee in
              rw (begun-lifts b (within s t) (goes_on t) (begins s t) a is, (P s a).lifts_unfit q reason rest (pe ∙ ap (λ (v : Why). stops v r) why-is ∙ ap (λ (us : Tokens). stops (unfit reason) us) left)) refl
          inner (reads s1 mid) pe ee = rw (begun-lifts b (within s t) (goes_on t) (begins s t) a is, (P s a).lifts q s1 mid pe) (rec s1 mid ee)

  pub tail_lawful : (s : S) → Lawful (either goes_on o) (λ ts. going (length ts) s ts) (λ ts. free_going (length ts) s ts)
  tail_lawful s = record {
    whole = λ ts x rest e. let W = parts_whole (length ts) s ts x rest (omega arith) e in record { front = W.front; split = W.split; again = λ r f. W.again (length (W.front ++ r)) r (omega arith) f };
    halts = λ ts why rest e. let H = parts_halts (length ts) s ts why rest (omega arith) e in record {
      front = H.front;
      split = H.split;
      again = λ t q r f. H.again (length (H.front ++ t ∷ r)) t q r (omega arith) f;
      ends = end H.front H.ends;
      past_limit = λ f. let L = H.past_limit f in record { token = L.token; others = L.others; is = L.is; ends = end (H.front ++ L.token ∷ []) L.ends };
    };
    lifts = λ ts x rest e. parts_lift (length ts) s ts x rest e;
    lifts_unfit = λ ts reason rest e. parts_lift_unfit (length ts) s ts reason rest e;
    ends = end [] (parts_end s);
  }
    where
      end : (p : Tokens) → Parts_end s p → Ends (either goes_on o) (λ ts. free_going (length ts) s ts) p
      end p E = record { more = E.more; value = E.value; whole = λ r f. E.whole (length (p ++ (E.more ++ r))) r (omega arith) f }

pub tail-empty : {A S : Type 0} {o : Lexeme → Bool} (b : Bool) (goes_on : Lexeme → Bool) (begins : S → Lexeme → Option A) (within : S → Lexeme → Bool) (part part' : S → A → Reader S) (P : (s : S) (a : A) → Lawful o (part s a) (part' s a)) (s : S) → (tail_lawful b goes_on begins within part part' P s).ends.more ≡ []
unfolding tail_lawful parts_end
tail-empty b goes_on begins within part part' P s = refl
