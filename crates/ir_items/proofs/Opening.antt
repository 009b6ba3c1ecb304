-- What is open after one more token.
use Rattle.ir_items.proofs.Common.{◌≡◌, ℕ, ◌+◌, ◌-◌, ◌<◌, ◌≤◌, true, false, List, [], ◌∷◌, ◌++◌, length, slice_range, take, drop, Option, Some, None, refl, sym, ap, ◌∙◌, inl, inr, arith, fold, is_some, slice_get, IsSomeAnd, cases_lt, take-append-drop, take-take, drop-take, drop-drop, between_more, between_none, fold_push, fold-append, slice_get_within, get_or_from_slice_get, Lexeme, mark_of, marks_after, marks_behind, marks, IsBalanced, has_open, IsInside, IsPiece}

abbrev marks_from : Option (List ℕ) → List Lexeme → Option (List ℕ)
marks_from start tokens = fold (λ open_marks t. marks_after open_marks (mark_of t)) start tokens

pub at_start : (tokens : List Lexeme) (from : ℕ) → marks tokens from from ≡ Some []
unfolding marks
at_start tokens from = ap marks_behind (between_none tokens from)

marks_more : (tokens : List Lexeme) (from place : ℕ) (t : Lexeme) → from ≤ place → slice_get tokens place ≡ Some t → marks tokens from (place + 1) ≡ marks_after (marks tokens from place) (mark_of t)
unfolding marks
marks_more tokens from place t le at =
    ap marks_behind (between_more tokens from place t le (slice_get_within tokens place t at))
    ∙ ap (λ (x : Lexeme). marks_behind (slice_range tokens from place ++ x ∷ [])) (get_or_from_slice_get tokens place t t at)
    ∙ fold_push (λ (open_marks : Option (List ℕ)) (u : Lexeme). marks_after open_marks (mark_of u)) (Some []) (slice_range tokens from place) t

take_split : (n m : ℕ) (xs : List Lexeme) → take (n + m) xs ≡ take n xs ++ take m (drop n xs)
take_split n m xs =
    sym (take-append-drop n (take (n + m) xs))
    ∙ ap (λ (ys : List Lexeme). ys ++ drop n (take (n + m) xs)) (take-take n (n + m) xs (omega arith))
    ∙ ap (λ (ys : List Lexeme). take n xs ++ ys) (drop-take n m xs)

split_range : (tokens : List Lexeme) (i k m : ℕ) → i ≤ k → k ≤ m → slice_range tokens i m ≡ slice_range tokens i k ++ slice_range tokens k m
split_range tokens i k m ik km =
    let n : m - i ≡ (k - i) + (m - k) = omega arith in
    let d : i + (k - i) ≡ k = omega arith in
    ap (λ (j : ℕ). take j (drop i tokens)) n ∙ take_split (k - i) (m - k) (drop i tokens)
    ∙ ap (λ (xs : List Lexeme). slice_range tokens i k ++ take (m - k) xs) (drop-drop (k - i) i tokens ∙ ap (λ (j : ℕ). drop j tokens) d)

-- what is open, counted from an index at depth 0
pub marks_join : (tokens : List Lexeme) (i k m : ℕ) → i ≤ k → k ≤ m → IsBalanced tokens i k → marks tokens i m ≡ marks tokens k m
unfolding marks
marks_join tokens i k m ik km balanced =
    ap marks_behind (split_range tokens i k m ik km)
    ∙ fold-append (λ (open_marks : Option (List ℕ)) (u : Lexeme). marks_after open_marks (mark_of u)) (Some []) (slice_range tokens i k) (slice_range tokens k m)
    ∙ ap (λ (start : Option (List ℕ)). marks_from start (slice_range tokens k m)) balanced

pub not_balanced : (o : Option (List ℕ)) → has_open o ≡ true → o ≡ Some [] → ⊥
not_balanced o h e = let bad : false ≡ true = (rw e at h) in cc

-- inside a bracket nothing is at depth 0
pub deeper : (tokens : List Lexeme) (i k m : ℕ) → i ≤ k → k ≤ m → IsBalanced tokens i k → has_open (marks tokens k m) ≡ true → IsBalanced tokens i m → ⊥
deeper tokens i k m ik km balanced open_here here = not_balanced (marks tokens k m) open_here (sym (marks_join tokens i k m ik km balanced) ∙ here)

pub piece_balanced : (tokens : List Lexeme) (i k e : ℕ) → i ≤ k → IsBalanced tokens i k → IsPiece tokens k e → IsBalanced tokens i e
piece_balanced tokens i k e ik balanced piece = marks_join tokens i k e ik (omega (arith, piece.some)) balanced ∙ piece.balanced

pub inside_more : (tokens : List Lexeme) (from place : ℕ) → IsInside tokens from place → has_open (marks tokens from (place + 1)) ≡ true → IsInside tokens from (place + 1)
inside_more tokens from place inside here m lt le =
    elim (cases_lt m (place + 1)) [
      | inl less ↦ inside m lt (omega arith)
      | inr same ↦ let e : m ≡ place + 1 = omega arith in rw e here
    ]

pub nonempty_open : (open_marks : List ℕ) → 0 < length open_marks → has_open (Some open_marks) ≡ true
nonempty_open [] h = absurd (omega arith)
nonempty_open (mark ∷ more) h = refl

pub marks_next : (tokens : List Lexeme) (from place mark : ℕ) (open_marks : List ℕ) (now : Option (List ℕ)) → from ≤ place → IsSomeAnd (slice_get tokens place) (λ t. mark ≡ mark_of t)
    → marks tokens from place ≡ Some open_marks → marks_after (Some open_marks) mark ≡ now → marks tokens from (place + 1) ≡ now
marks_next tokens from place mark open_marks now le marked here step = go (slice_get tokens place) refl marked
  where
    go : (o : Option Lexeme) → slice_get tokens place ≡ o → IsSomeAnd o (λ t. mark ≡ mark_of t) → marks tokens from (place + 1) ≡ now
    go None at is = absurd is
    go (Some t) at is = marks_more tokens from place t le at ∙ ap (λ (o : Option (List ℕ)). marks_after o (mark_of t)) here ∙ ap (marks_after (Some open_marks)) (sym is) ∙ step

-- ---- what is open fits

open_fits : (o : Option (List ℕ)) → has_open o ≡ true → is_some o ≡ true
open_fits None h = absurd (cc)
open_fits (Some open_marks) h = refl

pub balanced_fits : (tokens : List Lexeme) (from place : ℕ) → IsBalanced tokens from place → is_some (marks tokens from place) ≡ true
balanced_fits tokens from place balanced = ap is_some balanced

pub inside_fits : (tokens : List Lexeme) (first from place : ℕ) → first ≤ from → from ≤ place → IsBalanced tokens first from → IsInside tokens from place → is_some (marks tokens first place) ≡ true
inside_fits tokens first from place ff fp balanced inside =
    elim (cases_lt from place) [
      | inl less ↦ open_fits (marks tokens first place) (ap has_open (marks_join tokens first from place ff fp balanced) ∙ inside place less (omega arith))
      | inr same ↦ let e : place ≡ from = omega arith in rw e (balanced_fits tokens first from balanced)
    ]

-- ---- after a mark that closes what isn't open

from_none : (tokens : List Lexeme) → marks_from None tokens ≡ None
from_none [] = refl
from_none (t ∷ ts) = from_none ts

none_stays : (tokens : List Lexeme) (i k m : ℕ) → i ≤ k → k ≤ m → marks tokens i k ≡ None → marks tokens i m ≡ None
unfolding marks
none_stays tokens i k m ik km none =
    ap marks_behind (split_range tokens i k m ik km)
    ∙ fold-append (λ (open_marks : Option (List ℕ)) (u : Lexeme). marks_after open_marks (mark_of u)) (Some []) (slice_range tokens i k) (slice_range tokens k m)
    ∙ ap (λ (start : Option (List ℕ)). marks_from start (slice_range tokens k m)) none
    ∙ from_none (slice_range tokens k m)

-- what fits is before it
pub fits_before : (tokens : List Lexeme) (first place q : ℕ) → first ≤ place → marks tokens first place ≡ None → is_some (marks tokens first q) ≡ true → q < place
fits_before tokens first place q fp none fits =
    elim (cases_lt q place) [
      | inl less ↦ less
      | inr more ↦ let bad : false ≡ true = (rw (none_stays tokens first place q fp more none) at fits) in absurd (cc)
    ]

pub balanced_on : (tokens : List Lexeme) (i k m : ℕ) → i ≤ k → k ≤ m → IsBalanced tokens i k → IsBalanced tokens k m → IsBalanced tokens i m
balanced_on tokens i k m ik km one two = marks_join tokens i k m ik km one ∙ two
