-- Tokens at their indices, from the classes and bytes of all.
use Rattle.read_back.proofs.Common.{◌≡◌, ℕ, suc, ◌+◌, ◌-◌, ◌<◌, ◌≤◌, true, List, [], ◌∷◌, ◌++◌, length, take, drop, map, slice_range, Option, Some, None, refl, sym, ap, ◌∙◌, append_assoc, arith, option_map, length-append, length-map, take_at, drop_at, take-append-le, take-map, drop-map, map-append, slice_get-map, Kind, Lexeme, spelled, mark_of, marks, IsBalanced, has_open, IsPiece}
use Rattle.std.proofs.Common.{slice_get}
use Rattle.read_back.proofs.CutNested.{left, Above, Nested, IsPair, opened, pair-nested, marks_behind-left, mark_by}

-- ---- one token

pub record At (tokens : List Lexeme) (place : ℕ) (kind : Kind) (text : List ℕ) : Type 0 where
  pub token : Lexeme
  pub there : slice_get tokens place ≡ Some token
  pub kind_is : token.kind ≡ kind
  pub text_is : token.text ≡ text

get_at : {A : Type 0} (front : List A) (x : A) (rest : List A) → slice_get (front ++ x ∷ rest) (length front) ≡ Some x
get_at [] x rest = refl
get_at (y ∷ front) x rest = get_at front x rest

there_is : (o : Option Lexeme) (k : Kind) (t : List ℕ) → option_map spelled o ≡ Some (k, t) → (token : Lexeme) × (o ≡ Some token) × (token.kind ≡ k) × (token.text ≡ t)
there_is None k t e = absurd cc
there_is (Some token) k t e =
    let both : (token.kind, token.text) ≡ (k, t) = cc in
    (token, refl, ap (λ (p : Kind × List ℕ). p.0) both, ap (λ (p : Kind × List ℕ). p.1) both)

pub at : (tokens : List Lexeme) (front : List (Kind × List ℕ)) (k : Kind) (t : List ℕ) (rest : List (Kind × List ℕ)) (place : ℕ) → map spelled tokens ≡ front ++ (k, t) ∷ rest → length front ≡ place → At tokens place k t
at tokens front k t rest place e len =
    let got : option_map spelled (slice_get tokens place) ≡ Some (k, t) =
    sym (slice_get-map spelled tokens place) ∙ ap (λ (l : List (Kind × List ℕ)). slice_get l place) e ∙ ap (slice_get (front ++ (k, t) ∷ rest)) (sym len) ∙ get_at front (k, t) rest in
    let found = there_is (slice_get tokens place) k t got in
    record { token = found.0; there = found.1; kind_is = found.2; text_is = found.3 }

-- ---- tokens one after another

pub range-at : (tokens : List Lexeme) (front rest : List (Kind × List ℕ)) (from place n : ℕ) → map spelled tokens ≡ front ++ rest → length front ≡ from → from + n ≡ place → map spelled (slice_range tokens from place) ≡ take n rest
range-at tokens front rest from place n e len sum =
    let count : place - from ≡ n = omega arith in
    ap (λ (k : ℕ). map spelled (take k (drop from tokens))) count ∙ sym (take-map spelled n (drop from tokens)) ∙ ap (take n) (sym (drop-map spelled from tokens))
    ∙ ap (λ (l : List (Kind × List ℕ)). take n (drop from l)) e ∙ ap (take n) (drop_at front rest from len)

by_class : (tokens : List Lexeme) → map mark_of tokens ≡ map mark_by (map spelled tokens)
by_class [] = refl
by_class (t ∷ tokens) = ap (λ (l : List ℕ). mark_of t ∷ l) (by_class tokens)

pub marks-at : (tokens : List Lexeme) (front rest : List (Kind × List ℕ)) (from place n : ℕ) → map spelled tokens ≡ front ++ rest → length front ≡ from → from + n ≡ place
    → marks tokens from place ≡ left (Some []) (take n (map mark_by rest))
unfolding marks
marks-at tokens front rest from place n e len sum =
    marks_behind-left (slice_range tokens from place) ∙ ap (left (Some [])) (by_class (slice_range tokens from place))
    ∙ ap (λ (l : List (Kind × List ℕ)). left (Some []) (map mark_by l)) (range-at tokens front rest from place n e len sum) ∙ ap (left (Some [])) (sym (take-map mark_by n rest))

-- ---- brackets

is_open : (c : ℕ) (o : Option (List ℕ)) → Above (c ∷ []) o → has_open o ≡ true
is_open c o above = ap has_open above.is

pub piece-at : (tokens : List Lexeme) (before : List (Kind × List ℕ)) (front last : Kind × List ℕ) (inner rest : List (Kind × List ℕ)) (from end : ℕ) → map spelled tokens ≡ before ++ (front ∷ (inner ++ last ∷ rest))
    → length before ≡ from → from + (length inner + 2) ≡ end → IsPair (mark_by front) (mark_by last) → Nested (map mark_by inner) → IsPiece tokens from end
piece-at tokens before front last inner rest from end e len sum pair nested = record { some = omega arith; within = within; balanced = balanced; first = first }
  where
    lens : length (map mark_by inner) ≡ length inner
    lens = length-map inner mark_by

    within : end ≤ length tokens
    within = omega (arith, sym (length-map tokens spelled) ∙ ap length e, length-append before (front ∷ (inner ++ last ∷ rest)), length-append inner (last ∷ rest))

    all : map mark_by (front ∷ (inner ++ last ∷ rest)) ≡ mark_by front ∷ (map mark_by inner ++ mark_by last ∷ map mark_by rest)
    all = ap (λ (l : List ℕ). mark_by front ∷ l) (map-append mark_by inner (last ∷ rest))

    split : mark_by front ∷ (map mark_by inner ++ mark_by last ∷ map mark_by rest) ≡ (mark_by front ∷ (map mark_by inner ++ mark_by last ∷ [])) ++ map mark_by rest
    split = ap (λ (l : List ℕ). mark_by front ∷ l) (sym (append_assoc (map mark_by inner) (mark_by last ∷ []) (map mark_by rest)))

    whole : take (length inner + 2) (map mark_by (front ∷ (inner ++ last ∷ rest))) ≡ mark_by front ∷ (map mark_by inner ++ mark_by last ∷ [])
    whole = ap (take (length inner + 2)) (all ∙ split)
        ∙ take_at (mark_by front ∷ (map mark_by inner ++ mark_by last ∷ [])) (map mark_by rest) (length inner + 2) (omega (arith, length-append (map mark_by inner) (mark_by last ∷ []), lens))

    balanced : IsBalanced tokens from end
    balanced = marks-at tokens before (front ∷ (inner ++ last ∷ rest)) from end (length inner + 2) e len sum ∙ ap (left (Some [])) whole
        ∙ (pair-nested (mark_by front) (mark_by last) (map mark_by inner) pair nested).stays []

    inside : (n : ℕ) → n ≤ length inner → left (Some []) (take (suc n) (map mark_by (front ∷ (inner ++ last ∷ rest)))) ≡ left (Some (mark_by last ∷ [])) (take n (map mark_by inner))
    inside n le =
        ap (λ (l : List ℕ). left (Some []) (take (suc n) l)) all
        ∙ opened (mark_by front) (mark_by last) [] (take n (map mark_by inner ++ mark_by last ∷ map mark_by rest)) pair
        ∙ ap (left (Some (mark_by last ∷ []))) (take-append-le n (map mark_by inner) (mark_by last ∷ map mark_by rest) (omega (arith, lens)))

    at_place : (m n : ℕ) → from + suc n ≡ m → n ≤ length inner → has_open (marks tokens from m) ≡ true
    at_place m n sum le =
        ap has_open (marks-at tokens before (front ∷ (inner ++ last ∷ rest)) from m (suc n) e len sum ∙ inside n le)
        ∙ is_open (mark_by last) (left (Some (mark_by last ∷ [])) (take n (map mark_by inner))) (nested.above (mark_by last ∷ []) n)

    first : (m : ℕ) → from < m → m < end → has_open (marks tokens from m) ≡ true
    first m lo hi = at_place m (m - from - 1) (omega arith) (omega arith)
