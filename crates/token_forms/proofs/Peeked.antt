-- What holds of reading by the class of the first token.
use Rattle.token_forms.proofs.Common.{◌≡◌, Bool, false, List, [], ◌∷◌, ◌++◌, refl, sym, ap, Lexeme, Reason, Syntax, Class, Why, unfit, limit, Reading, reads, stops, and_then, Judged, none, past, found, judged, taken, one_of, first_of, peeked}
use Rattle.token_forms.proofs.Laws.{Whole, Ends, Halts, Lawful}
use Rattle.token_forms.proofs.Tokens.{judged-lifts, judged-none, judged-past}

abbrev Tokens : Type 0
Tokens = List Lexeme

abbrev Reader : Type 0 → Type 0
Reader X = Tokens → Reading X

module _ {A B X : Type 0} {o : Lexeme → Bool} (b : Bool) (c : Class A) (f f' : A → Reader X) (d : Class B) (g g' : B → Reader X) (F : (a : A) → Lawful o (f a) (f' a)) (G : (y : B) → Lawful o (g y) (g' y)) where
  abbrev kept : Reader X
  kept ts = peeked b c f (λ rest. and_then (one_of b d rest) g) ts

  abbrev lifted : Reader X
  lifted ts = peeked false c f' (λ rest. and_then (one_of false d rest) g') ts

  peek_ends : Ends o lifted []
  peek_ends = let E = (F c.value).ends in record { more = c.sample ∷ E.more; value = E.value; whole = λ r free. rw (c.fits) (E.whole r free) }

  -- after a token of the first class, and after one of the second
  first_ends : (t : Lexeme) (a : A) (p : Tokens) → judged false (c.within t) (c.stands t) ≡ found a → Ends o (f' a) p → Ends o lifted (t ∷ p)
  first_ends t a p is E = record { more = E.more; value = E.value; whole = λ r free. rw is (E.whole r free) }

  second_ends : (t : Lexeme) (y : B) (p : Tokens) → judged false (c.within t) (c.stands t) ≡ none → judged false (d.within t) (d.stands t) ≡ found y → Ends o (g' y) p → Ends o lifted (t ∷ p)
  second_ends t y p not-c is E = record { more = E.more; value = E.value; whole = λ r free. rw (not-c, is) (E.whole r free) }

  peek_whole : (ts : Tokens) (x : X) (rest : Tokens) → kept ts ≡ reads x rest → Whole o kept ts x rest
  peek_whole [] x rest e = absurd (cc e)
  peek_whole (t ∷ q) x rest e = go (judged b (c.within t) (c.stands t)) refl e
    where
      other : judged b (c.within t) (c.stands t) ≡ none → (j : Judged B) → judged b (d.within t) (d.stands t) ≡ j → and_then (taken j (d.reason t) t q) g ≡ reads x rest → Whole o kept (t ∷ q) x rest
      other not-c none is e' = absurd (cc e')
      other not-c past is e' = absurd (cc e')
      other not-c (found y) is e' =
          let W = (G y).whole q x rest e' in
          record { front = t ∷ W.front; split = ap (λ (us : Tokens). t ∷ us) W.split; again = λ r f. rw (not-c, is) (W.again r f) }

      go : (j : Judged A) → judged b (c.within t) (c.stands t) ≡ j → first_of j t q f (λ rest'. and_then (one_of b d rest') g) ≡ reads x rest → Whole o kept (t ∷ q) x rest
      go none is e' = other is (judged b (d.within t) (d.stands t)) refl e'
      go past is e' = absurd (cc e')
      go (found a) is e' =
          let W = (F a).whole q x rest e' in
          record { front = t ∷ W.front; split = ap (λ (us : Tokens). t ∷ us) W.split; again = λ r f. rw is (W.again r f) }

  peek_halts : (ts : Tokens) (why : Why) (rest : Tokens) → kept ts ≡ stops why rest → Halts o kept lifted ts why rest
  peek_halts [] why rest e =
      let nil : [] ≡ rest = cc e in
      let is : unfit Syntax ≡ why = cc e in
      record { front = []; split = nil; again = λ t q r f. absurd (cc (nil, f)); ends = peek_ends; past_limit = λ f. absurd (cc (is, f)) }
  peek_halts (t ∷ q) why rest e = go (judged b (c.within t) (c.stands t)) refl e
    where
      other : judged b (c.within t) (c.stands t) ≡ none → (j : Judged B) → judged b (d.within t) (d.stands t) ≡ j → and_then (taken j (d.reason t) t q) g ≡ stops why rest → Halts o kept lifted (t ∷ q) why rest
      other not-c none is e' =
          let left : t ∷ q ≡ rest = cc e' in
          let why-is : unfit (d.reason t) ≡ why = cc e' in
          record {
            front = [];
            split = left;
            again = λ t' q' r h. let same : t ≡ t' = cc (left, h) in rw (← same, not-c, is) (ap (λ (v : Why). stops v (t ∷ r)) why-is);
            ends = peek_ends;
            past_limit = λ h. absurd (cc (why-is, h));
          }
      other not-c past is e' =
          let left : t ∷ q ≡ rest = cc e' in
          let why-is : limit ≡ why = cc e' in
          let stands = judged-past b (d.within t) (d.stands t) is in
          record {
            front = [];
            split = left;
            again = λ t' q' r h. let same : t ≡ t' = cc (left, h) in rw (← same, not-c, is) (ap (λ (v : Why). stops v (t ∷ r)) why-is);
            ends = peek_ends;
            past_limit = λ h. record { token = t; others = q; is = sym left; ends = second_ends t stands.0 [] (judged-none b (c.within t) (c.stands t) not-c) stands.1 (G stands.0).ends };
          }
      other not-c (found y) is e' =
          let H = (G y).halts q why rest e' in
          let lifted-c = judged-none b (c.within t) (c.stands t) not-c in
          let lifted-d = judged-lifts b (d.within t) (d.stands t) y is in
          record {
            front = t ∷ H.front;
            split = ap (λ (us : Tokens). t ∷ us) H.split;
            again = λ t' q' r h. rw (not-c, is) (H.again t' q' r h);
            ends = second_ends t y H.front lifted-c lifted-d H.ends;
            past_limit = λ h. let P = H.past_limit h in record { token = P.token; others = P.others; is = P.is; ends = second_ends t y (H.front ++ P.token ∷ []) lifted-c lifted-d P.ends };
          }

      go : (j : Judged A) → judged b (c.within t) (c.stands t) ≡ j → first_of j t q f (λ rest'. and_then (one_of b d rest') g) ≡ stops why rest → Halts o kept lifted (t ∷ q) why rest
      go none is e' = other is (judged b (d.within t) (d.stands t)) refl e'
      go past is e' =
          let left : t ∷ q ≡ rest = cc e' in
          let why-is : limit ≡ why = cc e' in
          let stands = judged-past b (c.within t) (c.stands t) is in
          record {
            front = [];
            split = left;
            again = λ t' q' r h. let same : t ≡ t' = cc (left, h) in rw (← same, is) (ap (λ (v : Why). stops v (t ∷ r)) why-is);
            ends = peek_ends;
            past_limit = λ h. record { token = t; others = q; is = sym left; ends = first_ends t stands.0 [] stands.1 (F stands.0).ends };
          }
      go (found a) is e' =
          let H = (F a).halts q why rest e' in
          let lifted-c = judged-lifts b (c.within t) (c.stands t) a is in
          record {
            front = t ∷ H.front;
            split = ap (λ (us : Tokens). t ∷ us) H.split;
            again = λ t' q' r h. rw is (H.again t' q' r h);
            ends = first_ends t a H.front lifted-c H.ends;
            past_limit = λ h. let P = H.past_limit h in record { token = P.token; others = P.others; is = P.is; ends = first_ends t a (H.front ++ P.token ∷ []) lifted-c P.ends };
          }

  peek_lifts : (ts : Tokens) (x : X) (rest : Tokens) → kept ts ≡ reads x rest → lifted ts ≡ reads x rest
  peek_lifts [] x rest e = absurd (cc e)
  peek_lifts (t ∷ q) x rest e = go (judged b (c.within t) (c.stands t)) refl e
    where
      other : judged b (c.within t) (c.stands t) ≡ none → (j : Judged B) → judged b (d.within t) (d.stands t) ≡ j → and_then (taken j (d.reason t) t q) g ≡ reads x rest → lifted (t ∷ q) ≡ reads x rest
      other not-c none is e' = absurd (cc e')
      other not-c past is e' = absurd (cc e')
      other not-c (found y) is e' = rw (judged-none b (c.within t) (c.stands t) not-c, judged-lifts b (d.within t) (d.stands t) y is) ((G y).lifts q x rest e')

      go : (j : Judged A) → judged b (c.within t) (c.stands t) ≡ j → first_of j t q f (λ rest'. and_then (one_of b d rest') g) ≡ reads x rest → lifted (t ∷ q) ≡ reads x rest
      go none is e' = other is (judged b (d.within t) (d.stands t)) refl e'
      go past is e' = absurd (cc e')
      go (found a) is e' = rw (judged-lifts b (c.within t) (c.stands t) a is) ((F a).lifts q x rest e')

  peek_lifts_unfit : (ts : Tokens) (reason : Reason) (rest : Tokens) → kept ts ≡ stops (unfit reason) rest → lifted ts ≡ stops (unfit reason) rest
  peek_lifts_unfit [] reason rest e = e
  peek_lifts_unfit (t ∷ q) reason rest e = go (judged b (c.within t) (c.stands t)) refl e
    where
      other : judged b (c.within t) (c.stands t) ≡ none → (j : Judged B) → judged b (d.within t) (d.stands t) ≡ j → and_then (taken j (d.reason t) t q) g ≡ stops (unfit reason) rest → lifted (t ∷ q) ≡ stops (unfit reason) rest
      other not-c none is e' = rw (judged-none b (c.within t) (c.stands t) not-c, judged-none b (d.within t) (d.stands t) is) e'
      other not-c past is e' = absurd (cc e')
      other not-c (found y) is e' = rw (judged-none b (c.within t) (c.stands t) not-c, judged-lifts b (d.within t) (d.stands t) y is) ((G y).lifts_unfit q reason rest e')

      go : (j : Judged A) → judged b (c.within t) (c.stands t) ≡ j → first_of j t q f (λ rest'. and_then (one_of b d rest') g) ≡ stops (unfit reason) rest → lifted (t ∷ q) ≡ stops (unfit reason) rest
      go none is e' = other is (judged b (d.within t) (d.stands t)) refl e'
      go past is e' = absurd (cc e')
      go (found a) is e' = rw (judged-lifts b (c.within t) (c.stands t) a is) ((F a).lifts_unfit q reason rest e')

  pub peek_lawful : Lawful o kept lifted
  peek_lawful = record { whole = peek_whole; halts = peek_halts; lifts = peek_lifts; lifts_unfit = peek_lifts_unfit; ends = peek_ends }
