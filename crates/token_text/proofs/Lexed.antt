-- The text of tokens that stay apart is lexed to them.
use Rattle.std.proofs.Common.{◌≡◌, ℕ, zero, suc, ◌-◌, ◌≤◌, true, false, eqb, List, [], ◌∷◌, ◌++◌, length, take, drop, map, Some, Result, Ok, refl, ap, ◌∙◌, append_assoc, inl, inr, arith}
use Rattle.std.specs.List.{list_all}
use Rattle.std.proofs.lemmas.Bool.{cases_Bool, and_parts}
use Rattle.std.proofs.lemmas.Bool.Decides.{nat_tests}
use Rattle.std.proofs.lemmas.List.{length-append, take_at, drop_at}
use Rattle.ir_lexer.specs.declared.token.Kind.{Kind}
use Rattle.ir_lexer.specs.declared.token.Kind.TheVariants as kind
use Rattle.ir_lexer.specs.Bytes.{is_blank}
use Rattle.ir_lexer.specs.Spelling.{class_of}
use Rattle.ir_lexer.specs.Lexeme.{Lexeme}
use Rattle.ir_lexer.specs.Tokens.{longest_token, behind_blanks, Spot, with_front, with_token, tokens_of}
use Rattle.token_text.specs.Pieces.{Piece, text_of, is_separator, is_separator_alone, is_ended, AreApart}
use Rattle.token_text.specs.Laws.{spelled, TextsAreLexed}
use Rattle.token_text.proofs.Clean.{is_stop, is_clean, token-clean}
use Rattle.token_text.proofs.Longest.{some_bytes, longest-ended}

-- ---- blanks

blanks_front : (gap rest : List ℕ) → list_all is_blank gap ≡ true → behind_blanks false (gap ++ rest) ≡ behind_blanks false rest
blanks_front [] rest h = refl
blanks_front (b ∷ bs) rest h = let e = and_parts (is_blank b) (list_all is_blank bs) h in rw e.0 (blanks_front bs rest e.1)

all_blank : (last : List ℕ) → list_all is_blank last ≡ true → behind_blanks false last ≡ []
all_blank [] h = refl
all_blank (b ∷ bs) h = let e = and_parts (is_blank b) (list_all is_blank bs) h in rw e.0 (all_blank bs e.1)

-- no blanks, and no comment, begin with this byte
abbrev IsFirst : ℕ → Type 0
IsFirst b = (is_blank b ≡ false) × (eqb b 59 ≡ false)

quote_first : (b : ℕ) → eqb b 34 ≡ true → IsFirst b
quote_first b h = (grind (arith, nat_tests), grind (arith, nat_tests))

separator_first : (b : ℕ) → is_separator b ≡ true → IsFirst b
separator_first b h = (grind (arith, nat_tests), grind (arith, nat_tests))

go_first : (b : ℕ) → is_stop b ≡ false → IsFirst b
go_first b h = (grind (arith, nat_tests), grind (arith, nat_tests))

clean_first : (b : ℕ) (bs : List ℕ) → is_clean false (b ∷ bs) ≡ true → IsFirst b
clean_first b bs h =
    elim (cases_Bool (eqb b 34)) [
      | inl t ↦ quote_first b t
      | inr f ↦ elim (cases_Bool (is_stop b)) [
        | inl s ↦ let h' : false ≡ true = rw (f, s) at h in absurd cc
        | inr s ↦ go_first b s
      ]
    ]

mark_first : (b : ℕ) (bs : List ℕ) → is_separator_alone (b ∷ bs) ≡ true → IsFirst b
mark_first b [] h = separator_first b h
mark_first b (c ∷ bs) h = absurd cc

first_by : (b : ℕ) (bs : List ℕ) (k : Kind) → (k ≡ kind.Mark → ⊥) → class_of (b ∷ bs) ≡ Some k → IsFirst b
first_by b bs k other class = clean_first b bs (token-clean (b ∷ bs) k other class)

token_first : (b : ℕ) (bs rest : List ℕ) (k : Kind) → class_of (b ∷ bs) ≡ Some k → is_ended k (b ∷ bs) rest ≡ true → IsFirst b
token_first b bs rest kind.Mark class ended = mark_first b bs ended
token_first b bs rest kind.Word class ended = first_by b bs kind.Word (λ e. absurd cc) class
token_first b bs rest kind.Number class ended = first_by b bs kind.Number (λ e. absurd cc) class
token_first b bs rest kind.Local class ended = first_by b bs kind.Local (λ e. absurd cc) class
token_first b bs rest kind.Global class ended = first_by b bs kind.Global (λ e. absurd cc) class
token_first b bs rest kind.Label class ended = first_by b bs kind.Label (λ e. absurd cc) class
token_first b bs rest _ class ended = absurd cc

-- ---- one token

-- the first token, before those after it
pub record First (k : Kind) (t : List ℕ) (rest whole : Result (List Lexeme) Spot) : Type 0 where
  pub token : Lexeme
  pub before : whole ≡ with_front (token ∷ []) rest
  pub same : spelled token ≡ (k, t)

found_first : (text : List ℕ) (at : ℕ) (rest : List ℕ) (k : Kind) (len : ℕ) (behind : ℕ → Result (List Lexeme) Spot) → First k (take len rest) (behind len) (with_token text at rest (Some (k, len)) behind)
found_first text at rest k len behind = record { token = _; before = refl; same = refl }

one_token : (text t rest : List ℕ) (k : Kind) (n : ℕ) → class_of t ≡ Some k → is_ended k t rest ≡ true → First k t (tokens_of text n (behind_blanks false rest)) (tokens_of text (suc n) (behind_blanks false (t ++ rest)))
unfolding tokens_of
one_token text [] rest k n class ended = absurd cc
one_token text (b ∷ bs) rest k n class ended =
    let first = token_first b bs rest k class ended in
    let found : longest_token (b ∷ (bs ++ rest)) ≡ Some (k, length (b ∷ bs)) = longest-ended (b ∷ bs) rest k class ended in
    let behind : drop (length (b ∷ bs)) (b ∷ (bs ++ rest)) ≡ rest = drop_at (b ∷ bs) rest (length (b ∷ bs)) refl in
    let front : take (length (b ∷ bs)) (b ∷ (bs ++ rest)) ≡ b ∷ bs = take_at (b ∷ bs) rest (length (b ∷ bs)) refl in
    let here = found_first text (length text - length (b ∷ (bs ++ rest))) (b ∷ (bs ++ rest)) k (length (b ∷ bs)) (λ (len : ℕ). tokens_of text n (behind_blanks false (drop len (b ∷ (bs ++ rest))))) in
    record {
      token = here.token;
      before = rw (first.0, first.1, found) (here.before ∙ ap (λ (l : List ℕ). with_front (here.token ∷ []) (tokens_of text n (behind_blanks false l))) behind);
      same = here.same ∙ ap (λ (l : List ℕ). (k, l)) front;
    }

-- ---- all tokens

pub record Found (text : List ℕ) (n : ℕ) (pieces : List Piece) (last : List ℕ) : Type 0 where
  pub tokens : List Lexeme
  pub lexed_so : tokens_of text n (behind_blanks false (text_of pieces ++ last)) ≡ Ok tokens
  pub same : map spelled tokens ≡ map (λ (p : Piece). (p.kind, p.text)) pieces

none_left : (text : List ℕ) (n : ℕ) → tokens_of text n [] ≡ Ok []
unfolding tokens_of
none_left text zero = refl
none_left text (suc n) = refl

all_found : (text : List ℕ) (n : ℕ) (pieces : List Piece) (last : List ℕ) → length (text_of pieces ++ last) ≤ n → list_all is_blank last ≡ true → AreApart pieces last → Found text n pieces last
all_found text n [] last enough blanks apart = record {
  tokens = [];
  lexed_so = ap (tokens_of text n) (all_blank last blanks) ∙ none_left text n;
  same = refl;
}
all_found text zero (p ∷ pieces) last enough blanks apart =
    let some = some_bytes p.text p.kind apart.0.class in
    absurd (omega (arith, length-append (p.gap ++ p.text) (text_of pieces), length-append p.gap p.text, length-append ((p.gap ++ p.text) ++ text_of pieces) last))
all_found text (suc n) (p ∷ pieces) last enough blanks apart =
    let class = apart.0.class in
    let some = some_bytes p.text p.kind class in
    let whole : ((p.gap ++ p.text) ++ text_of pieces) ++ last ≡ p.gap ++ (p.text ++ (text_of pieces ++ last)) = simp append_assoc in
    let more = all_found text n pieces last (omega (arith, length-append (p.gap ++ p.text) (text_of pieces), length-append p.gap p.text, length-append ((p.gap ++ p.text) ++ text_of pieces) last, length-append (text_of pieces) last)) blanks apart.1 in
    let front : behind_blanks false (((p.gap ++ p.text) ++ text_of pieces) ++ last) ≡ behind_blanks false (p.text ++ (text_of pieces ++ last)) = ap (behind_blanks false) whole ∙ blanks_front p.gap (p.text ++ (text_of pieces ++ last)) apart.0.blanks in
    let first = one_token text p.text (text_of pieces ++ last) p.kind n class apart.0.ended in
    record {
      tokens = first.token ∷ more.tokens;
      lexed_so = ap (tokens_of text (suc n)) front ∙ first.before ∙ ap (with_front (first.token ∷ [])) more.lexed_so;
      same = ap (λ (l : List (Kind × List ℕ)). spelled first.token ∷ l) more.same ∙ ap (λ (t : Kind × List ℕ). t ∷ map (λ (p : Piece). (p.kind, p.text)) pieces) first.same;
    }

pub texts-lexed : TextsAreLexed
texts-lexed pieces last blanks apart =
    let found = all_found (text_of pieces ++ last) (length (text_of pieces ++ last)) pieces last (omega arith) blanks apart in
    record { tokens = found.tokens; lexed_so = found.lexed_so; same = found.same }
