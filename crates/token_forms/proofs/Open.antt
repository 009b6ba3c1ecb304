-- What holds of reading a form that more may go on with, and then what may be empty.
use Rattle.token_forms.proofs.Common.{◌≡◌, inl, Bool, List, [], ◌∷◌, ◌++◌, refl, sym, subst, Lexeme, either, Reading, reads, and_then}
use Rattle.token_forms.proofs.Laws.{SameHead, Follows, Whole, Ends, Lawful, free-left, free-right, follows-left, follows-right}
use Rattle.token_forms.proofs.Tokens.{give_lawful}
use Rattle.token_forms.proofs.Joined.{join_lawful}

abbrev Tokens : Type 0
Tokens = List Lexeme

abbrev Reader : Type 0 → Type 0
Reader X = Tokens → Reading X

pub give-empty : {X : Type 0} (x : X) → (give_lawful x).ends.more ≡ []
unfolding give_lawful
give-empty x = refl

wider-ends : {X : Type 0} (p o : Lexeme → Bool) (h : Reader X) (front : Tokens) → Ends o h front → Ends (either p o) h front
wider-ends p o h front E = record { more = E.more; value = E.value; whole = λ r f. E.whole r (free-right p o r f) }

wider : {X : Type 0} (p o : Lexeme → Bool) (g h : Reader X) → Lawful o g h → Lawful (either p o) g h
wider p o g h L = record {
  whole = λ ts x rest e. let W = L.whole ts x rest e in record { front = W.front; split = W.split; again = λ r f. W.again r (follows-right p o rest r f) };
  halts = λ ts why rest e. let H = L.halts ts why rest e in record {
    front = H.front;
    split = H.split;
    again = H.again;
    ends = wider-ends p o h H.front H.ends;
    past_limit = λ f. let P = H.past_limit f in record { token = P.token; others = P.others; is = P.is; ends = wider-ends p o h (H.front ++ P.token ∷ []) P.ends };
  };
  lifts = L.lifts;
  lifts_unfit = L.lifts_unfit;
  ends = wider-ends p o h [] L.ends;
}

pub also_lawful : {A X : Type 0} {o p : Lexeme → Bool} (g1 h1 : Reader A) (g2 h2 : A → Reader X) → Lawful p g1 h1 → (Lb : (a : A) → Lawful o (g2 a) (h2 a)) → ((a : A) → (Lb a).ends.more ≡ []) → Lawful (either p o) (λ ts. and_then (g1 ts) g2) (λ ts. and_then (h1 ts) h2)
unfolding wider wider-ends
also_lawful {A} {X} {o} {p} g1 h1 g2 h2 La Lb empty = join_lawful g1 h1 g2 h2 La (λ a. wider p o (g2 a) (h2 a) (Lb a)) (record { apart = apart; ends_free = λ a r f. rw (empty a) (free-left p o r f) })
  where
    apart : (a : A) (ts : Tokens) (x : X) (rest : Tokens) → g2 a ts ≡ reads x rest → (W : Whole (either p o) (g2 a) ts x rest) → (r : Tokens) → Follows (either p o) rest r → Follows p ts (W.front ++ r)
    apart a ts x rest e W r f = go W.front W.split
      where
        go : (front : Tokens) → ts ≡ front ++ rest → Follows p ts (front ++ r)
        go [] split = subst (λ (us : Tokens). Follows p us r) (sym split) (follows-left p o rest r f)
        go (t ∷ front) split = inl (subst (λ (us : Tokens). SameHead us (t ∷ (front ++ r))) (sym split) refl)
