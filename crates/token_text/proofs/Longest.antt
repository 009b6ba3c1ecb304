-- A token that ends where the rest begins is the longest.
use Rattle.std.proofs.Common.{◌≡◌, ℕ, zero, suc, ◌+◌, ◌<◌, ◌≤◌, true, false, List, [], ◌∷◌, ◌++◌, length, take, Option, Some, None, refl, sym, ap, ◌∙◌, arith}
use Rattle.std.proofs.lemmas.Bool.Decides.{nat_tests}
use Rattle.std.proofs.lemmas.List.{length-append, take_at}
use Rattle.ir_lexer.specs.declared.token.Kind.{Kind}
use Rattle.ir_lexer.specs.declared.token.Kind.TheVariants as kind
use Rattle.ir_lexer.specs.Spelling.{class_of}
use Rattle.ir_lexer.specs.Tokens.{longest, longest_token}
use Rattle.token_text.specs.Pieces.{is_separator, ends_token, is_separator_alone, is_ended}
use Rattle.token_text.proofs.Clean.{is_stop, is_clean, clean-append, stop-clean, long-clean, token-clean}

ends-stop : (b : ℕ) (bs : List ℕ) → ends_token (b ∷ bs) ≡ true → is_stop b ≡ true
ends-stop b bs h = grind (arith, nat_tests)

separator-stop : (b : ℕ) → is_separator b ≡ true → is_stop b ≡ true
separator-stop b h = grind (arith, nat_tests)

none_from : (o : Option Kind) → ((k : Kind) → o ≡ Some k → ⊥) → o ≡ None
none_from None h = refl
none_from (Some k) h = absurd (h k refl)

-- a token goes on with no byte that ends it
no_longer : (t : List ℕ) (c : ℕ) (more : List ℕ) → 0 < length t → is_clean false t ≡ true → is_stop c ≡ true → class_of (t ++ c ∷ more) ≡ None
no_longer [] c more some clean stop = absurd (omega arith)
no_longer (b ∷ bs) c more some clean stop = none_from _ (λ k h. dirty bs k h (clean-append false (b ∷ bs) (c ∷ more) clean ∙ stop-clean c more stop))
  where
    dirty : (bs : List ℕ) (k : Kind) → class_of (b ∷ (bs ++ c ∷ more)) ≡ Some k → is_clean false (b ∷ (bs ++ c ∷ more)) ≡ false → ⊥
    dirty [] k h f = let t = long-clean b c more k h in absurd cc
    dirty (a ∷ bs) k h f = let t = long-clean b a (bs ++ c ∷ more) k h in absurd cc

-- no mark that begins no longer token goes on
mark_alone : (b c : ℕ) (more : List ℕ) → is_separator b ≡ true → class_of (b ∷ c ∷ more) ≡ None
mark_alone b c more h = none_from _ (λ k e. let t = long-clean b c more k e in let f = stop-clean b (c ∷ more) (separator-stop b h) in absurd cc)

-- no longer prefix is a token
abbrev EndsHere : List ℕ → List ℕ → Type 0
EndsHere t rest = (c : ℕ) (more : List ℕ) (later : List ℕ) → rest ≡ c ∷ later → class_of (t ++ c ∷ more) ≡ None

pub some_bytes : (t : List ℕ) (k : Kind) → class_of t ≡ Some k → 0 < length t
some_bytes [] k h = absurd cc
some_bytes (b ∷ bs) k h = omega arith

ends_by : (t rest : List ℕ) (k : Kind) → (k ≡ kind.Mark → ⊥) → class_of t ≡ Some k → ends_token rest ≡ true → EndsHere t rest
ends_by t rest k other class ends c more later is = no_longer t c more (some_bytes t k class) (token-clean t k other class) (ends-stop c later (rw is at ends))

mark_ends : (t rest : List ℕ) → is_separator_alone t ≡ true → EndsHere t rest
mark_ends [] rest h c more later is = absurd cc
mark_ends (b ∷ []) rest h c more later is = mark_alone b c more h
mark_ends (b ∷ a ∷ bs) rest h c more later is = absurd cc

ends-here : (t rest : List ℕ) (k : Kind) → class_of t ≡ Some k → is_ended k t rest ≡ true → EndsHere t rest
ends-here t rest kind.Mark class ended = mark_ends t rest ended
ends-here t rest kind.Word class ended = ends_by t rest kind.Word (λ e. absurd cc) class ended
ends-here t rest kind.Number class ended = ends_by t rest kind.Number (λ e. absurd cc) class ended
ends-here t rest kind.Local class ended = ends_by t rest kind.Local (λ e. absurd cc) class ended
ends-here t rest kind.Global class ended = ends_by t rest kind.Global (λ e. absurd cc) class ended
ends-here t rest kind.Label class ended = ends_by t rest kind.Label (λ e. absurd cc) class ended
ends-here t rest _ class ended = absurd cc

-- a longer prefix goes on with the rest's first byte
longer_none : (t rest : List ℕ) → EndsHere t rest → (n : ℕ) → n < length rest → class_of (t ++ take (suc n) rest) ≡ None
longer_none t [] ends n h = absurd (omega arith)
longer_none t (c ∷ later) ends n h = ends c (take n later) later refl

take-longer : (t rest : List ℕ) (n : ℕ) → take (length t + n) (t ++ rest) ≡ t ++ take n rest
take-longer [] rest n = ap (λ (k : ℕ). take k rest) (omega arith)
take-longer (b ∷ bs) rest n =
    let e : length (b ∷ bs) + n ≡ suc (length bs + n) = omega arith in
    ap (λ (k : ℕ). take k (b ∷ (bs ++ rest))) e ∙ ap (λ (l : List ℕ). b ∷ l) (take-longer bs rest n)

longest_at : (t rest : List ℕ) (k : Kind) (n : ℕ) → length t ≡ n → 0 < n → class_of t ≡ Some k → longest n (t ++ rest) ≡ Some (k, length t)
unfolding longest
longest_at t rest k zero e some class = absurd (omega arith)
longest_at t rest k (suc n) e some class =
    let front : take (suc n) (t ++ rest) ≡ t = take_at t rest (suc n) e in
    let is : class_of (take (suc n) (t ++ rest)) ≡ Some k = ap class_of front ∙ class in
    rw is (ap (λ (m : ℕ). Some (k, m)) (sym e))

longest_past : (t rest : List ℕ) (k : Kind) → class_of t ≡ Some k → EndsHere t rest → (n m : ℕ) → length t + n ≡ m → n ≤ length rest → longest m (t ++ rest) ≡ Some (k, length t)
unfolding longest
longest_past t rest k class ends zero m e le = longest_at t rest k m (omega arith) (omega (arith, some_bytes t k class)) class
longest_past t rest k class ends (suc n) zero e le = absurd (omega arith)
longest_past t rest k class ends (suc n) (suc m) e le =
    let front : take (suc m) (t ++ rest) ≡ t ++ take (suc n) rest = ap (λ (j : ℕ). take j (t ++ rest)) (sym e) ∙ take-longer t rest (suc n) in
    let is : class_of (take (suc m) (t ++ rest)) ≡ None = ap class_of front ∙ longer_none t rest ends n (omega arith) in
    rw is (longest_past t rest k class ends n m (omega arith) (omega arith))

-- a token that ends where the rest begins is the longest
pub longest-ended : (t rest : List ℕ) (k : Kind) → class_of t ≡ Some k → is_ended k t rest ≡ true → longest_token (t ++ rest) ≡ Some (k, length t)
longest-ended t rest k class ended = longest_past t rest k class (ends-here t rest k class ended) (length rest) (length (t ++ rest)) (omega (arith, length-append t rest)) (omega arith)
