-- A test of the token at an index.
use Rattle.ir_items.proofs.Common.{◌≡◌, ℕ, ◌≤◌, Bool, false, List, length, take, take_while, Option, Some, None, refl, sym, ap, arith, slice_get, IsSomeAnd, prefix_len, length-take, prefix_len-le-length, slice_get_past, Kind, Lexeme, passes, token_passes}
use Rattle.ir_lexer.proofs.Behind.{drop-run, run-le}

pub passes_kind : (tokens : List Lexeme) (test : Kind → Bool) (i : ℕ) (kind : Kind) → IsSomeAnd (slice_get tokens i) (λ t. kind ≡ t.kind) → token_passes tokens (λ t. test t.kind) i ≡ test kind
passes_kind tokens test i kind kinds = go (slice_get tokens i) kinds
  where
    go : (o : Option Lexeme) → IsSomeAnd o (λ t. kind ≡ t.kind) → passes (λ t. test t.kind) o ≡ test kind
    go (Some t) k = ap test (sym k)
    go None k = absurd k

pub passes_both : (tokens : List Lexeme) (test : Kind → List ℕ → Bool) (i : ℕ) (kind : Kind) (text : List ℕ)
    → IsSomeAnd (slice_get tokens i) (λ t. kind ≡ t.kind) → IsSomeAnd (slice_get tokens i) (λ t. text ≡ t.text) → token_passes tokens (λ t. test t.kind t.text) i ≡ test kind text
passes_both tokens test i kind text kinds texts = go (slice_get tokens i) kinds texts
  where
    go : (o : Option Lexeme) → IsSomeAnd o (λ t. kind ≡ t.kind) → IsSomeAnd o (λ t. text ≡ t.text) → passes (λ t. test t.kind t.text) o ≡ test kind text
    go (Some t) k e = rw (k, e) refl
    go None k e = absurd k

pub passes_past : (tokens : List Lexeme) (test : Lexeme → Bool) (i : ℕ) → length tokens ≤ i → token_passes tokens test i ≡ false
passes_past tokens test i le = ap (passes test) (slice_get_past tokens i le)

pub ruleset passing = (passes_kind, passes_both, passes_past)

pub take_run : (p : ℕ → Bool) (xs : List ℕ) → take (length (take_while p xs)) xs ≡ take_while p xs
take_run p xs =
    let n : length (take (prefix_len p xs) xs) ≡ prefix_len p xs = omega (arith, length-take (prefix_len p xs) xs, prefix_len-le-length p xs) in
    ap (λ (k : ℕ). take k xs) n

pub ruleset runs = (drop-run, run-le, take_run)
