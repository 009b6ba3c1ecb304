-- Part of the tokens that are left, one after another.
use Rattle.ir_lexer.proofs.Common.{◌≡◌, ℕ, zero, suc, ◌<◌, ◌≤◌, List, [], ◌∷◌, ◌++◌, length, take, drop, Option, Some, None, Result, Ok, Err, refl, sym, ap, subst, ◌∙◌, arith, IsOkAnd, length-drop, LexFault, NoToken, NoMemory, Lexeme, Spot, with_front, IsNext}

-- after n of these tokens, which have been read so far
pub record IsPart (tokens part : List Lexeme) (n : ℕ) (left : Result (List Lexeme) Spot) : Type 0 where
  pub read : part ≡ take n tokens
  pub rest : left ≡ Ok (drop n tokens)

-- the tokens that a caller says are left
pub are : (count : ℕ) (left : Result (List Lexeme) Spot) → IsOkAnd left (λ tokens. count ≤ length tokens) → (tokens : List Lexeme) × (left ≡ Ok tokens) × (count ≤ length tokens)
are count (Ok tokens) h = (tokens, refl, h)
are count (Err spot) h = absurd h

pub enough : (count n : ℕ) (left : Result (List Lexeme) Spot) (tokens : List Lexeme) → IsOkAnd left (λ tokens. count ≤ length tokens) → left ≡ Ok tokens → n < count → n < length tokens
enough count n left tokens h is less = omega (arith, less, subst (λ (r : Result (List Lexeme) Spot). IsOkAnd r (λ tokens. count ≤ length tokens)) is h)

pub front-ok : (t : Lexeme) (tokens : List Lexeme) (new : Result (List Lexeme) Spot) → Ok tokens ≡ with_front (t ∷ []) new → (rest : List Lexeme) × (new ≡ Ok rest) × (tokens ≡ t ∷ rest)
front-ok t tokens (Ok rest) h = (rest, refl, cc h)
front-ok t tokens (Err spot) h = absurd (cc h)

take-more : (n : ℕ) (tokens : List Lexeme) (t : Lexeme) (rest : List Lexeme) → drop n tokens ≡ t ∷ rest → (take (suc n) tokens ≡ take n tokens ++ t ∷ []) × (drop (suc n) tokens ≡ rest)
take-more zero [] t rest is = absurd (cc is)
take-more zero (u ∷ us) t rest is = (cc is, cc is)
take-more (suc n) [] t rest is = absurd (cc is)
take-more (suc n) (u ∷ us) t rest is = let more = take-more n us t rest is in (ap (λ (xs : List Lexeme). u ∷ xs) more.0, more.1)

-- after one more
pub read_one : (tokens part : List Lexeme) (n m : ℕ) (left new : Result (List Lexeme) Spot) (t : Lexeme) → m ≡ suc n → IsPart tokens part n left
    → left ≡ with_front (t ∷ []) new → IsPart tokens (part ++ t ∷ []) m new
read_one tokens part n m left new t next so_far is =
    let rest = front-ok t (drop n tokens) new (sym so_far.rest ∙ is) in
    let more = take-more n tokens t rest.0 rest.2 in
    record {
      read = ap (λ (xs : List Lexeme). xs ++ t ∷ []) so_far.read ∙ sym more.0 ∙ ap (λ (k : ℕ). take k tokens) (sym next);
      rest = rest.1 ∙ ap (λ (xs : List Lexeme). Ok xs) (sym more.1 ∙ ap (λ (k : ℕ). drop k tokens) (sym next));
    }

-- where some are left, the next is one of them
pub is_one : (tokens part : List Lexeme) (n : ℕ) (left new : Result (List Lexeme) Spot) (r : Result (Option Lexeme) LexFault) → n < length tokens → IsPart tokens part n left
    → IsNext left r new → (t : Lexeme) × (r ≡ Ok (Some t)) × (left ≡ with_front (t ∷ []) new)
is_one tokens part n left new (Ok None) some so_far is =
    let none : drop n tokens ≡ [] = cc (so_far.rest, is.0) in
    absurd (omega (arith, some, length-drop n tokens, ap length none))
is_one tokens part n left new (Ok (Some t)) some so_far is = (t, refl, is)
is_one tokens part n left new (Err (NoToken at place)) some so_far is = absurd (cc (so_far.rest, is.0))
is_one tokens part n left new (Err NoMemory) some so_far is = absurd is.0

-- after one more that isn't kept
pub skip_one : (tokens : List Lexeme) (n m : ℕ) (left new : Result (List Lexeme) Spot) (r : Result (Option Lexeme) LexFault) → m ≡ suc n → n < length tokens
    → IsPart tokens (take n tokens) n left → IsNext left r new → IsPart tokens (take m tokens) m new
skip_one tokens n m left new r next some so_far is =
    let one = is_one tokens (take n tokens) n left new r some so_far is in
    record { read = refl; rest = (read_one tokens (take n tokens) n m left new one.0 next so_far one.2).rest }
