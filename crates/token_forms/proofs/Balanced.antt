-- Reading up to the mark that closes a bracket.
use Rattle.token_forms.proofs.Common.{◌≡◌, ℕ, ◌⊎◌, inl, inr, Bool, true, false, List, [], ◌∷◌, ◌++◌, refl, sym, ap, subst, ◌∙◌, append_assoc, Lexeme, Reason, Syntax, Bracket, nesting_of, is_same, IsBalanced, nothing, plain, nested, IsClosed, IsInnermost, same, deeper, Why, unfit, Reading, reads, stops, until_closed, LeavesOpen, StaysOpen}
use Rattle.ir_lexer.specs.declared.token.Kind.TheVariants as kind
use Rattle.token_forms.specs.declared.bracket.Bracket.TheVariants.{Round, Square, Curly}
use Rattle.token_forms.specs.declared.bracket.Nesting.{Nesting}
use Rattle.token_forms.specs.declared.bracket.Nesting.TheVariants.{Opens, Closes, Plain}

abbrev Tokens : Type 0
Tokens = List Lexeme

abbrev Nothing : Type 0
Nothing = Unit {0}

is_same-itself : (b : Bracket) → is_same b b ≡ true
is_same-itself Round = refl
is_same-itself Square = refl
is_same-itself Curly = refl

is_same-one : (c b : Bracket) → is_same c b ≡ true → c ≡ b
is_same-one Round Round e = refl
is_same-one Square Square e = refl
is_same-one Curly Curly e = refl
is_same-one Round Square e = absurd (cc e)
is_same-one Round Curly e = absurd (cc e)
is_same-one Square Round e = absurd (cc e)
is_same-one Square Curly e = absurd (cc e)
is_same-one Curly Round e = absurd (cc e)
is_same-one Curly Square e = absurd (cc e)

-- what a token does inside a bracket
abbrev Turn : Bracket → Lexeme → Type 0
Turn b t = (nesting_of t ≡ Plain) ⊎ ((c : Bracket) × (nesting_of t ≡ Opens c)) ⊎ (nesting_of t ≡ Closes b) ⊎ ((c : Bracket) × (nesting_of t ≡ Closes c) × (is_same c b ≡ false))

turn_of : (b : Bracket) (t : Lexeme) → Turn b t
turn_of b t = go (nesting_of t) refl
  where
    closes : (c : Bracket) → nesting_of t ≡ Closes c → (is : Bool) → is_same c b ≡ is → Turn b t
    closes c n true is = inr (inr (inl (n ∙ ap (λ (d : Bracket). Closes d) (is_same-one c b is))))
    closes c n false is = inr (inr (inr (c, n, is)))

    go : (n : Nesting) → nesting_of t ≡ n → Turn b t
    go Plain n = inl n
    go (Opens c) n = inr (inl (c, n))
    go (Closes c) n = closes c n (is_same c b) refl

step-plain : (b : Bracket) (outer : List Bracket) (t : Lexeme) → nesting_of t ≡ Plain → (q : Tokens) → until_closed (b ∷ outer) (t ∷ q) ≡ until_closed (b ∷ outer) q
unfolding until_closed
step-plain b outer t n q = rw n refl

step-opens : (b : Bracket) (outer : List Bracket) (t : Lexeme) (c : Bracket) → nesting_of t ≡ Opens c → (q : Tokens) → until_closed (b ∷ outer) (t ∷ q) ≡ until_closed (c ∷ b ∷ outer) q
unfolding until_closed
step-opens b outer t c n q = rw n refl

step-closes : (b : Bracket) (outer : List Bracket) (t : Lexeme) → nesting_of t ≡ Closes b → (q : Tokens) → until_closed (b ∷ outer) (t ∷ q) ≡ until_closed outer q
unfolding until_closed
step-closes b outer t n q = rw (n, is_same-itself b) refl

step-other : (b : Bracket) (outer : List Bracket) (t : Lexeme) (c : Bracket) → nesting_of t ≡ Closes c → is_same c b ≡ false → (q : Tokens) → until_closed (b ∷ outer) (t ∷ q) ≡ stops (unfit Syntax) (t ∷ q)
unfolding until_closed
step-other b outer t c n is q = rw (n, is) refl

-- ---- completion

closing_byte : Bracket → ℕ
closing_byte Round = 41
closing_byte Square = 93
closing_byte Curly = 125

closing : Bracket → Lexeme
closing b = record { kind = kind.Mark; text = closing_byte b ∷ []; at = 0; place = record { line = 1; column = 1 } }

closing-closes : (b : Bracket) → nesting_of (closing b) ≡ Closes b
unfolding closing closing_byte
closing-closes Round = refl
closing-closes Square = refl
closing-closes Curly = refl

pub all_closing : List Bracket → Tokens
all_closing [] = []
all_closing (b ∷ outer) = closing b ∷ all_closing outer

pub closed-ends : (open_brackets : List Bracket) (r : Tokens) → until_closed open_brackets (all_closing open_brackets ++ r) ≡ reads tt r
unfolding until_closed all_closing
closed-ends [] r = refl
closed-ends (b ∷ outer) r = step-closes b outer (closing b) (closing-closes b) (all_closing outer ++ r) ∙ closed-ends outer r

-- ---- what was read, and where reading stops

-- it is the same after the tokens that were read, whatever comes then
abbrev pub Read : List Bracket → Tokens → Nothing → Tokens → Type 0
Read open_brackets ts x rest = (front : Tokens) × (ts ≡ front ++ rest) × ((r : Tokens) → until_closed open_brackets (front ++ r) ≡ reads x r)

pub closed-whole : (open_brackets : List Bracket) (ts : Tokens) (x : Nothing) (rest : Tokens) → until_closed open_brackets ts ≡ reads x rest → Read open_brackets ts x rest
unfolding until_closed
closed-whole [] ts x rest e = ([], cc e, λ r. let is : (let u : Nothing = tt in u) ≡ x = cc e in ap (λ (u : Nothing). reads u r) is)
closed-whole (b ∷ outer) [] x rest e = absurd (cc e)
closed-whole (b ∷ outer) (t ∷ q) x rest e = go (λ next e'. closed-whole next q x rest e') (turn_of b t)
  where
    grown : (next : List Bracket) → ((r : Tokens) → until_closed (b ∷ outer) (t ∷ r) ≡ until_closed next r) → Read next q x rest → Read (b ∷ outer) (t ∷ q) x rest
    grown next step (front, split, again) = (t ∷ front, ap (λ (us : Tokens). t ∷ us) split, λ r. step (front ++ r) ∙ again r)

    go : ((next : List Bracket) → until_closed next q ≡ reads x rest → Read next q x rest) → Turn b t → Read (b ∷ outer) (t ∷ q) x rest
    go rec (inl n) = grown (b ∷ outer) (step-plain b outer t n) (rec (b ∷ outer) (sym (step-plain b outer t n q) ∙ e))
    go rec (inr (inl (c, n))) = grown (c ∷ b ∷ outer) (step-opens b outer t c n) (rec (c ∷ b ∷ outer) (sym (step-opens b outer t c n q) ∙ e))
    go rec (inr (inr (inl n))) = grown outer (step-closes b outer t n) (rec outer (sym (step-closes b outer t n q) ∙ e))
    go rec (inr (inr (inr (c, n, is)))) = let never : stops (unfit Syntax) (t ∷ q) ≡ reads x rest = sym (step-other b outer t c n is q) ∙ e in absurd (cc never)

-- it stops there after these tokens, whatever comes then, and they can go on
pub record Halted (open_brackets : List Bracket) (ts : Tokens) (why : Why) (rest : Tokens) : Type 0 where
  pub front : Tokens
  pub split : ts ≡ front ++ rest
  pub again : (t : Lexeme) (q r : Tokens) → rest ≡ t ∷ q → until_closed open_brackets (front ++ t ∷ r) ≡ stops why (t ∷ r)
  pub more : Tokens
  pub ends : (r : Tokens) → until_closed open_brackets (front ++ (more ++ r)) ≡ reads tt r
  pub why_is : unfit Syntax ≡ why

pub closed-halts : (open_brackets : List Bracket) (ts : Tokens) (why : Why) (rest : Tokens) → until_closed open_brackets ts ≡ stops why rest → Halted open_brackets ts why rest
unfolding until_closed
closed-halts [] ts why rest e = absurd (cc e)
closed-halts (b ∷ outer) [] why rest e =
    let nil : [] ≡ rest = cc e in
    record { front = []; split = nil; again = λ t q r f. absurd (cc (nil, f)); more = all_closing (b ∷ outer); ends = λ r. closed-ends (b ∷ outer) r; why_is = cc e }
closed-halts (b ∷ outer) (t ∷ q) why rest e = go (λ next e'. closed-halts next q why rest e') (turn_of b t)
  where
    grown : (next : List Bracket) → ((r : Tokens) → until_closed (b ∷ outer) (t ∷ r) ≡ until_closed next r) → Halted next q why rest → Halted (b ∷ outer) (t ∷ q) why rest
    grown next step H = record {
      front = t ∷ H.front;
      split = ap (λ (us : Tokens). t ∷ us) H.split;
      again = λ u q' r f. step (H.front ++ u ∷ r) ∙ H.again u q' r f;
      more = H.more;
      ends = λ r. step (H.front ++ (H.more ++ r)) ∙ H.ends r;
      why_is = H.why_is;
    }

    here : (c : Bracket) → nesting_of t ≡ Closes c → is_same c b ≡ false → (let z : Reading Nothing = stops (unfit Syntax) (t ∷ q) in z) ≡ stops why rest → Halted (b ∷ outer) (t ∷ q) why rest
    here c n is e' =
        let left : t ∷ q ≡ rest = cc e' in
        let why-is : unfit Syntax ≡ why = cc e' in
        record {
          front = [];
          split = left;
          again = λ u q' r f. let one : t ≡ u = cc (left, f) in rw (← one) (step-other b outer t c n is r ∙ ap (λ (w : Why). stops w (t ∷ r)) why-is);
          more = all_closing (b ∷ outer);
          ends = λ r. closed-ends (b ∷ outer) r;
          why_is = why-is;
        }

    go : ((next : List Bracket) → until_closed next q ≡ stops why rest → Halted next q why rest) → Turn b t → Halted (b ∷ outer) (t ∷ q) why rest
    go rec (inl n) = grown (b ∷ outer) (step-plain b outer t n) (rec (b ∷ outer) (sym (step-plain b outer t n q) ∙ e))
    go rec (inr (inl (c, n))) = grown (c ∷ b ∷ outer) (step-opens b outer t c n) (rec (c ∷ b ∷ outer) (sym (step-opens b outer t c n q) ∙ e))
    go rec (inr (inr (inl n))) = grown outer (step-closes b outer t n) (rec outer (sym (step-closes b outer t n q) ∙ e))
    go rec (inr (inr (inr (c, n, is)))) = here c n is (sym (step-other b outer t c n is q) ∙ e)

-- ---- what is read is what is spelled

-- each open bracket is closed, the innermost first
abbrev AllClosed : List Bracket → Tokens → Tokens → Type 0
AllClosed [] ts rest = ts ≡ rest
AllClosed (b ∷ outer) ts rest = (mid : Tokens) × IsClosed b ts mid × AllClosed outer mid rest

closed-found : (open_brackets : List Bracket) (ts : Tokens) (x : Nothing) (rest : Tokens) → until_closed open_brackets ts ≡ reads x rest → AllClosed open_brackets ts rest
unfolding until_closed
closed-found [] ts x rest e = cc e
closed-found (b ∷ outer) [] x rest e = absurd (cc e)
closed-found (b ∷ outer) (t ∷ q) x rest e = go (λ next e'. closed-found next q x rest e') (turn_of b t)
  where
    go : ((next : List Bracket) → until_closed next q ≡ reads x rest → AllClosed next q rest) → Turn b t → AllClosed (b ∷ outer) (t ∷ q) rest
    go rec (inl n) =
        let (mid, C, O) = rec (b ∷ outer) (sym (step-plain b outer t n q) ∙ e) in
        (mid, record { inside = t ∷ C.inside; last = C.last; split = ap (λ (us : Tokens). t ∷ us) C.split; is_balanced = plain n C.is_balanced; closes = C.closes }, O)
    go rec (inr (inl (c, n))) =
        let (mid, C, (mid', D, O)) = rec (c ∷ b ∷ outer) (sym (step-opens b outer t c n q) ∙ e) in (
          mid',
          record {
            inside = t ∷ (C.inside ++ C.last ∷ D.inside);
            last = D.last;
            split = ap (λ (us : Tokens). t ∷ us) (C.split ∙ ap (λ (us : Tokens). C.inside ++ C.last ∷ us) D.split ∙ sym (append_assoc C.inside (C.last ∷ D.inside) (D.last ∷ mid')));
            is_balanced = nested c t C.inside C.last D.inside n C.is_balanced C.closes D.is_balanced;
            closes = D.closes;
          },
          O,
        )
    go rec (inr (inr (inl n))) = (q, record { inside = []; last = t; split = refl; is_balanced = nothing; closes = n }, rec outer (sym (step-closes b outer t n q) ∙ e))
    go rec (inr (inr (inr (c, n, is)))) = let never : stops (unfit Syntax) (t ∷ q) ≡ reads x rest = sym (step-other b outer t c n is q) ∙ e in absurd (cc never)

pub balanced-found : (b : Bracket) (ts : Tokens) (x : Nothing) (rest : Tokens) → until_closed (b ∷ []) ts ≡ reads x rest → IsClosed b ts rest
balanced-found b ts x rest e = let (mid, C, last) = closed-found (b ∷ []) ts x rest e in subst (λ (us : Tokens). IsClosed b ts us) last C

-- balanced tokens leave open what was
passed-balanced : (b : Bracket) (outer : List Bracket) (inside r : Tokens) → IsBalanced inside → until_closed (b ∷ outer) (inside ++ r) ≡ until_closed (b ∷ outer) r
passed-balanced b outer [] r nothing = refl
passed-balanced b outer (t ∷ others) r (plain n B) = step-plain b outer t n (others ++ r) ∙ passed-balanced b outer others r B
passed-balanced b outer _ r (nested c first inside last behind n B m D) =
    step-opens b outer first c n ((inside ++ last ∷ behind) ++ r)
    ∙ ap (λ (us : Tokens). until_closed (c ∷ b ∷ outer) us) (append_assoc inside (last ∷ behind) r)
    ∙ passed-balanced c (b ∷ outer) inside (last ∷ (behind ++ r)) B
    ∙ step-closes c (b ∷ outer) last m (behind ++ r)
    ∙ passed-balanced b outer behind r D

pub balanced-again : (b : Bracket) (ts : Tokens) (x : Nothing) (rest : Tokens) → IsClosed b ts rest → until_closed (b ∷ []) ts ≡ reads x rest
unfolding until_closed
balanced-again b ts x rest C =
    ap (λ (us : Tokens). until_closed (b ∷ []) us) C.split
    ∙ passed-balanced b [] C.inside (C.last ∷ rest) C.is_balanced
    ∙ step-closes b [] C.last C.closes rest

-- ---- the stop

-- it is inside one of the open brackets
abbrev SomeOpen : List Bracket → Tokens → Tokens → Type 0
SomeOpen [] ts rest = ⊥
SomeOpen (b ∷ outer) ts rest = StaysOpen b ts rest ⊎ ((mid : Tokens) × IsClosed b ts mid × SomeOpen outer mid rest)

-- one more token before balanced ones
behind-plain : (b innermost : Bracket) (t : Lexeme) (inside : Tokens) → nesting_of t ≡ Plain → IsInnermost b innermost inside → IsInnermost b innermost (t ∷ inside)
behind-plain b innermost t _ n (same B) = same (plain n B)
behind-plain b innermost t _ n (deeper c before first more B m I) = deeper c (t ∷ before) first more (plain n B) m I

behind-nested : (b c innermost : Bracket) (first last : Lexeme) (before inside : Tokens) → nesting_of first ≡ Opens c → IsBalanced before → nesting_of last ≡ Closes c → IsInnermost b innermost inside → IsInnermost b innermost (first ∷ (before ++ last ∷ inside))
behind-nested b c innermost first last before inside n B m (same D) = same (nested c first before last inside n B m D)
behind-nested b c innermost first last before _ n B m (deeper d before' f inside' D m' I) =
    subst (λ (us : Tokens). IsInnermost b innermost (first ∷ us)) (append_assoc before (last ∷ before') (f ∷ inside')) (deeper d (first ∷ (before ++ last ∷ before')) f inside' (nested c first before last before' n B m D) m' I)

closed-refused : (open_brackets : List Bracket) (r : Reason) (ts rest : Tokens) → until_closed open_brackets ts ≡ stops (unfit r) rest → SomeOpen open_brackets ts rest
unfolding until_closed
closed-refused [] r ts rest e = absurd (cc e)
closed-refused (b ∷ outer) r [] rest e =
    let nil : [] ≡ rest = cc e in
    inl (record { inside = []; innermost = b; split = nil; is_innermost = same nothing; leaves_open = subst (λ (us : Tokens). LeavesOpen b us) nil tt })
closed-refused (b ∷ outer) r (t ∷ q) rest e = go (λ next e'. closed-refused next r q rest e') (turn_of b t)
  where
    here : (c : Bracket) → nesting_of t ≡ Closes c → is_same c b ≡ false → t ∷ q ≡ rest → StaysOpen b (t ∷ q) rest
    here c n is left = record {
      inside = [];
      innermost = b;
      split = left;
      is_innermost = same nothing;
      leaves_open = subst (λ (us : Tokens). LeavesOpen b us) left (c, n, λ f. let no : is_same b b ≡ false = subst (λ (d : Bracket). is_same d b ≡ false) f is in absurd (cc (no, is_same-itself b)));
    }

    go : ((next : List Bracket) → until_closed next q ≡ stops (unfit r) rest → SomeOpen next q rest) → Turn b t → SomeOpen (b ∷ outer) (t ∷ q) rest
    go rec (inl n) = by (rec (b ∷ outer) (sym (step-plain b outer t n q) ∙ e))
      where
        by : SomeOpen (b ∷ outer) q rest → SomeOpen (b ∷ outer) (t ∷ q) rest
        by (inl S) = inl (record { inside = t ∷ S.inside; innermost = S.innermost; split = ap (λ (us : Tokens). t ∷ us) S.split; is_innermost = behind-plain b S.innermost t S.inside n S.is_innermost; leaves_open = S.leaves_open })
        by (inr (mid, C, O)) = inr (mid, record { inside = t ∷ C.inside; last = C.last; split = ap (λ (us : Tokens). t ∷ us) C.split; is_balanced = plain n C.is_balanced; closes = C.closes }, O)
    go rec (inr (inl (c, n))) = by (rec (c ∷ b ∷ outer) (sym (step-opens b outer t c n q) ∙ e))
      where
        by : SomeOpen (c ∷ b ∷ outer) q rest → SomeOpen (b ∷ outer) (t ∷ q) rest
        by (inl S) = inl (record { inside = t ∷ S.inside; innermost = S.innermost; split = ap (λ (us : Tokens). t ∷ us) S.split; is_innermost = deeper c [] t S.inside nothing n S.is_innermost; leaves_open = S.leaves_open })
        by (inr (mid, C, inl S)) =
            inl (record {
              inside = t ∷ (C.inside ++ C.last ∷ S.inside);
              innermost = S.innermost;
              split = ap (λ (us : Tokens). t ∷ us) (C.split ∙ ap (λ (us : Tokens). C.inside ++ C.last ∷ us) S.split ∙ sym (append_assoc C.inside (C.last ∷ S.inside) rest));
              is_innermost = behind-nested b c S.innermost t C.last C.inside S.inside n C.is_balanced C.closes S.is_innermost;
              leaves_open = S.leaves_open;
            })
        by (inr (mid, C, inr (mid', D, O))) =
            inr (
              mid',
              record {
                inside = t ∷ (C.inside ++ C.last ∷ D.inside);
                last = D.last;
                split = ap (λ (us : Tokens). t ∷ us) (C.split ∙ ap (λ (us : Tokens). C.inside ++ C.last ∷ us) D.split ∙ sym (append_assoc C.inside (C.last ∷ D.inside) (D.last ∷ mid')));
                is_balanced = nested c t C.inside C.last D.inside n C.is_balanced C.closes D.is_balanced;
                closes = D.closes;
              },
              O,
            )
    go rec (inr (inr (inl n))) = inr (q, record { inside = []; last = t; split = refl; is_balanced = nothing; closes = n }, rec outer (sym (step-closes b outer t n q) ∙ e))
    go rec (inr (inr (inr (c, n, is)))) = inl (here c n is (let both : stops (unfit Syntax) (t ∷ q) ≡ stops (unfit r) rest = sym (step-other b outer t c n is q) ∙ e in cc both))

pub balanced-refused : (b : Bracket) (r : Reason) (ts rest : Tokens) → until_closed (b ∷ []) ts ≡ stops (unfit r) rest → StaysOpen b ts rest
balanced-refused b r ts rest e = by (closed-refused (b ∷ []) r ts rest e)
  where
    by : SomeOpen (b ∷ []) ts rest → StaysOpen b ts rest
    by (inl S) = S
    by (inr (mid, C, O)) = absurd O

-- ---- where a bracket stays open reading stops

other-bracket : (c b : Bracket) → (c ≡ b → ⊥) → is_same c b ≡ false
other-bracket c b ne = go (is_same c b) refl
  where
    go : (is : Bool) → is_same c b ≡ is → is_same c b ≡ false
    go true e = absurd (ne (is_same-one c b e))
    go false e = e

open-stops : (b : Bracket) (outer : List Bracket) (rest : Tokens) → LeavesOpen b rest → until_closed (b ∷ outer) rest ≡ stops (unfit Syntax) rest
unfolding until_closed
open-stops b outer [] L = refl
open-stops b outer (t ∷ q) (c, n, ne) = step-other b outer t c n (other-bracket c b ne) q

innermost-stops : (b innermost : Bracket) (outer : List Bracket) (inside rest : Tokens) → IsInnermost b innermost inside → LeavesOpen innermost rest → until_closed (b ∷ outer) (inside ++ rest) ≡ stops (unfit Syntax) rest
innermost-stops b _ outer inside rest (same B) L = passed-balanced b outer inside rest B ∙ open-stops b outer rest L
innermost-stops b innermost outer _ rest (deeper c before first inside B n I) L =
    ap (λ (us : Tokens). until_closed (b ∷ outer) us) (append_assoc before (first ∷ inside) rest)
    ∙ passed-balanced b outer before (first ∷ (inside ++ rest)) B
    ∙ step-opens b outer first c n (inside ++ rest)
    ∙ innermost-stops c innermost (b ∷ outer) inside rest I L

pub open-again : (b : Bracket) (ts rest : Tokens) → StaysOpen b ts rest → until_closed (b ∷ []) ts ≡ stops (unfit Syntax) rest
open-again b ts rest S = ap (λ (us : Tokens). until_closed (b ∷ []) us) S.split ∙ innermost-stops b S.innermost [] S.inside rest S.is_innermost S.leaves_open
