-- What holds of reading one form after another.
use Rattle.token_forms.proofs.Common.{◌≡◌, inl, inr, Bool, true, false, List, [], ◌∷◌, ◌++◌, length, refl, sym, ap, subst, ◌∙◌, append_assoc, arith, append-nil, Lexeme, Reason, Class, never, Why, unfit, Reading, reads, stops, and_then, Judged, none, past, found, judged, taken, one_of}
use Rattle.token_forms.proofs.Laws.{is_free, SameHead, Follows, Whole, Ends, Halts, Lawful, free-never, same-head-at}
use Rattle.token_forms.proofs.Tokens.{give_lawful, one_lawful}

abbrev Tokens : Type 0
Tokens = List Lexeme

abbrev Reader : Type 0 → Type 0
Reader X = Tokens → Reading X

-- what the second form needs after a first one that may go on
pub record Joins {A X : Type 0} {o : Lexeme → Bool} {g2 h2 : A → Reader X} (o1 : Lexeme → Bool) (Lb : (a : A) → Lawful o (g2 a) (h2 a)) : Type 0 where
  pub apart : (a : A) (ts : Tokens) (x : X) (rest : Tokens) → g2 a ts ≡ reads x rest → (W : Whole o (g2 a) ts x rest) → (r : Tokens) → Follows o rest r → Follows o1 ts (W.front ++ r)
  pub ends_free : (a : A) (r : Tokens) → is_free o r ≡ true → is_free o1 ((Lb a).ends.more ++ r) ≡ true

module _ {A X : Type 0} {o o1 : Lexeme → Bool} (g1 h1 : Reader A) (g2 h2 : A → Reader X) (La : Lawful o1 g1 h1) (Lb : (a : A) → Lawful o (g2 a) (h2 a)) (J : Joins o1 Lb) where
  join_whole : (ts : Tokens) (x : X) (rest : Tokens) → and_then (g1 ts) g2 ≡ reads x rest → Whole o (λ us. and_then (g1 us) g2) ts x rest
  join_whole ts x rest e = go (g1 ts) refl e
    where
      go : (z : Reading A) → g1 ts ≡ z → and_then z g2 ≡ reads x rest → Whole o (λ us. and_then (g1 us) g2) ts x rest
      go (reads a mid) is e' =
          let Wa = La.whole ts a mid is in
          let Wb = (Lb a).whole mid x rest e' in
          record {
            front = Wa.front ++ Wb.front;
            split = Wa.split ∙ ap (λ (us : Tokens). Wa.front ++ us) Wb.split ∙ sym (append_assoc Wa.front Wb.front rest);
            again = λ r f. let e1 = Wa.again (Wb.front ++ r) (J.apart a mid x rest e' Wb r f) in rw (append_assoc Wa.front Wb.front r, e1) (Wb.again r f);
          }
      go (stops why r) is e' = absurd (cc e')

  -- ends in the second form
  ends_after : (ts mid : Tokens) (a : A) (Wa : Whole o1 g1 ts a mid) (p : Tokens) → ((r : Tokens) → Follows o1 mid (p ++ r)) → Ends o (h2 a) p → Ends o (λ us. and_then (h1 us) h2) (Wa.front ++ p)
  ends_after ts mid a Wa p f E = record {
    more = E.more;
    value = E.value;
    whole = λ r free. let e1 = La.lifts _ _ _ (Wa.again (p ++ (E.more ++ r)) (f (E.more ++ r))) in rw (append_assoc Wa.front p (E.more ++ r), e1) (E.whole r free);
  }

  -- ends in the first form
  ends_before : (p : Tokens) → Ends o1 h1 p → Ends o (λ us. and_then (h1 us) h2) p
  ends_before p E =
      let E2 = (Lb E.value).ends in
      record {
        more = E.more ++ E2.more;
        value = E2.value;
        whole = λ r free. let e1 = E.whole (E2.more ++ r) (J.ends_free E.value r free) in rw (append_assoc E.more E2.more r, e1) (E2.whole r free);
      }

  join_halts : (ts : Tokens) (why : Why) (rest : Tokens) → and_then (g1 ts) g2 ≡ stops why rest → Halts o (λ us. and_then (g1 us) g2) (λ us. and_then (h1 us) h2) ts why rest
  join_halts ts why rest e = go (g1 ts) refl e
    where
      first-halts : (w : Why) (r : Tokens) → g1 ts ≡ stops w r → w ≡ why → r ≡ rest → Halts o (λ us. and_then (g1 us) g2) (λ us. and_then (h1 us) h2) ts why rest
      first-halts w r is why-is rest-is =
          let H = La.halts ts why rest (is ∙ ap (λ (v : Why). stops v r) why-is ∙ ap (λ (us : Tokens). stops why us) rest-is) in
          record {
            front = H.front;
            split = H.split;
            again = λ t q r' f. rw (H.again t q r' f) refl;
            ends = ends_before H.front H.ends;
            past_limit = λ f. let P = H.past_limit f in record { token = P.token; others = P.others; is = P.is; ends = ends_before (H.front ++ P.token ∷ []) P.ends };
          }

      second-ends : (mid : Tokens) (a : A) (Wa : Whole o1 g1 ts a mid) (p : Tokens) → mid ≡ p ++ rest → Ends o (h2 a) p → Ends o (λ us. and_then (h1 us) h2) (Wa.front ++ p)
      second-ends mid a Wa [] m E =
          let E2 = (Lb a).ends in
          record {
            more = E2.more;
            value = E2.value;
            whole = λ r free. let e1 = La.lifts _ _ _ (Wa.again (E2.more ++ r) (inr (J.ends_free a r free))) in rw (append-nil Wa.front, e1) (E2.whole r free);
          }
      second-ends mid a Wa (t ∷ p) m E = ends_after ts mid a Wa (t ∷ p) (λ r. inl (subst (λ (us : Tokens). SameHead us (t ∷ (p ++ r))) (sym m) refl)) E

      go : (z : Reading A) → g1 ts ≡ z → and_then z g2 ≡ stops why rest → Halts o (λ us. and_then (g1 us) g2) (λ us. and_then (h1 us) h2) ts why rest
      go (stops w r) is e' = first-halts w r is (cc e') (cc e')
      go (reads a mid) is e' =
          let Wa = La.whole ts a mid is in
          let H = (Lb a).halts mid why rest e' in
          record {
            front = Wa.front ++ H.front;
            split = Wa.split ∙ ap (λ (us : Tokens). Wa.front ++ us) H.split ∙ sym (append_assoc Wa.front H.front rest);
            again = λ t q r f. let e1 = Wa.again (H.front ++ t ∷ r) (inl (same-head-at mid H.front q r t (H.split ∙ ap (λ (us : Tokens). H.front ++ us) f))) in rw (append_assoc Wa.front H.front (t ∷ r), e1) (H.again t q r f);
            ends = second-ends mid a Wa H.front H.split H.ends;
            past_limit = λ f. let P = H.past_limit f in record {
              token = P.token;
              others = P.others;
              is = P.is;
              ends = subst (λ (p : Tokens). Ends o (λ us. and_then (h1 us) h2) p) (sym (append_assoc Wa.front H.front (P.token ∷ [])))
                  (ends_after ts mid a Wa (H.front ++ P.token ∷ []) (λ r. inl (subst (λ (us : Tokens). SameHead mid us) (sym (append_assoc H.front (P.token ∷ []) r)) (same-head-at mid H.front P.others r P.token (H.split ∙ ap (λ (us : Tokens). H.front ++ us) P.is)))) P.ends);
            };
          }

  join_lifts : (ts : Tokens) (x : X) (rest : Tokens) → and_then (g1 ts) g2 ≡ reads x rest → and_then (h1 ts) h2 ≡ reads x rest
  join_lifts ts x rest e = go (g1 ts) refl e
    where
      go : (z : Reading A) → g1 ts ≡ z → and_then z g2 ≡ reads x rest → and_then (h1 ts) h2 ≡ reads x rest
      go (reads a mid) is e' = rw (La.lifts ts a mid is) ((Lb a).lifts mid x rest e')
      go (stops why r) is e' = absurd (cc e')

  join_lifts_unfit : (ts : Tokens) (reason : Reason) (rest : Tokens) → and_then (g1 ts) g2 ≡ stops (unfit reason) rest → and_then (h1 ts) h2 ≡ stops (unfit reason) rest
  join_lifts_unfit ts reason rest e = go (g1 ts) refl e
    where
      go : (z : Reading A) → g1 ts ≡ z → and_then z g2 ≡ stops (unfit reason) rest → and_then (h1 ts) h2 ≡ stops (unfit reason) rest
      go (reads a mid) is e' = rw (La.lifts ts a mid is) ((Lb a).lifts_unfit mid reason rest e')
      go (stops why r) is e' =
          let w : why ≡ unfit reason = cc e' in
          let l : r ≡ rest = cc e' in
          rw (La.lifts_unfit ts reason rest (is ∙ ap (λ (v : Why). stops v r) w ∙ ap (λ (us : Tokens). stops (unfit reason) us) l)) refl

  pub join_lawful : Lawful o (λ ts. and_then (g1 ts) g2) (λ ts. and_then (h1 ts) h2)
  join_lawful = record { whole = join_whole; halts = join_halts; lifts = join_lifts; lifts_unfit = join_lifts_unfit; ends = ends_before [] La.ends }

-- nothing goes on with the first form
pub seq_lawful : {A X : Type 0} {o : Lexeme → Bool} (g1 h1 : Reader A) (g2 h2 : A → Reader X) → Lawful never g1 h1 → (Lb : (a : A) → Lawful o (g2 a) (h2 a)) → Lawful o (λ ts. and_then (g1 ts) g2) (λ ts. and_then (h1 ts) h2)
seq_lawful g1 h1 g2 h2 La Lb = join_lawful g1 h1 g2 h2 La Lb (record { apart = λ a ts x rest e W r f. inr (free-never (W.front ++ r)); ends_free = λ a r f. free-never ((Lb a).ends.more ++ r) })

-- ---- a form, and then one token

abbrev with_one : {A B : Type 0} → Bool → Class B → A → Reader (A × B)
with_one b c a rest = and_then (one_of b c rest) (λ x rest'. reads (a, x) rest')

with_lawful : {A B : Type 0} (b : Bool) (c : Class B) (a : A) → Lawful never (with_one b c a) (with_one false c a)
with_lawful {A} {B} b c a = seq_lawful (one_of b c) (one_of false c) (λ x rest. reads (a, x) rest) (λ x rest. reads (a, x) rest) (one_lawful b c) (λ x. give_lawful (a, x))

-- what is read in between takes a token
with-takes : {A B : Type 0} (b : Bool) (c : Class B) (a : A) (ts : Tokens) (x : A × B) (rest : Tokens) → with_one b c a ts ≡ reads x rest → (t : Lexeme) × (ts ≡ t ∷ rest)
with-takes b c a [] x rest e = absurd (cc e)
with-takes {A} {B} b c a (t ∷ q) x rest e = go (judged b (c.within t) (c.stands t)) e
  where
    go : (j : Judged B) → and_then (taken j (c.reason t) t q) (λ y rest'. reads (a, y) rest') ≡ reads x rest → (u : Lexeme) × (t ∷ q ≡ u ∷ rest)
    go none e' = absurd (cc e')
    go past e' = absurd (cc e')
    go (found y) e' = let left : q ≡ rest = cc e' in (t, ap (λ (us : Tokens). t ∷ us) left)

no-loop : (t : Lexeme) (q : Tokens) → q ≡ t ∷ q → ⊥
no-loop t q e = absurd (omega (arith, ap length e))

pub upto_lawful : {A B : Type 0} {o : Lexeme → Bool} (b : Bool) (g1 h1 : Reader A) (c : A → Class B) → ((a : A) → o (c a).sample ≡ false) → Lawful o g1 h1 → Lawful never (λ ts. and_then (g1 ts) (λ a. with_one b (c a) a)) (λ ts. and_then (h1 ts) (λ a. with_one false (c a) a))
unfolding with_lawful seq_lawful join_lawful ends_before one_lawful
upto_lawful {A} {B} {o} b g1 h1 c fits La = join_lawful g1 h1 (λ a. with_one b (c a) a) (λ a. with_one false (c a) a) La (λ a. with_lawful b (c a) a) (record { apart = apart; ends_free = λ a r f. rw (fits a) refl })
  where
    apart : (a : A) (ts : Tokens) (x : A × B) (rest : Tokens) → with_one b (c a) a ts ≡ reads x rest → (W : Whole never (with_one b (c a) a) ts x rest) → (r : Tokens) → Follows never rest r → Follows o ts (W.front ++ r)
    apart a ts x rest e W r f = go W.front W.split
      where
        go : (front : Tokens) → ts ≡ front ++ rest → Follows o ts (front ++ r)
        go [] split = let T = with-takes b (c a) a ts x rest e in absurd (no-loop T.0 rest (sym split ∙ T.1))
        go (t ∷ front) split = inl (subst (λ (us : Tokens). SameHead us (t ∷ (front ++ r))) (sym split) refl)
