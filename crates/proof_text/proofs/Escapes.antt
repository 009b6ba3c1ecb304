-- Reading what is printed of a word.
use Rattle.proof_text.proofs.Common.{ℕ, ◌≡◌, ◌⊎◌, ◌<◌, ◌≤◌, ◌/◌, ◌%◌, Bool, true, false, cond, List, [], ◌∷◌, ◌++◌, length, get_or, drop, All, Contains, append_assoc, append-nil, subst, sym, ap, ◌∙◌, refl, inl, inr, arith, true≢false, Option, Some, None, Bor, IfSome, MatchOption, flat_map, All-contains, Contains-append_right, nat_tests, append_cancel_right, Word, escaped, hex_byte, hex_digit, is_bare, is_plain, name_text, quoted}
use Rattle.proof_text.proofs.Splits.{here}

plain_is : (b : ℕ) → is_plain b ≡ true → b ≡ 92 → ⊥
plain_is b h e = absurd (grind (arith, nat_tests))

-- a byte between quotes is there itself, or as a backslash and its two digits
pub record Plain (text : List ℕ) (b : ℕ) (more : List ℕ) : Type 0 where
  pub first : get_or text 0 0 ≡ b
  pub other : b ≡ 92 → ⊥
  pub rest : drop 1 text ≡ more

pub record Digits (text : List ℕ) (b : ℕ) (more : List ℕ) : Type 0 where
  pub first : get_or text 0 0 ≡ 92
  pub high : get_or text 1 0 ≡ hex_digit 65 (b / 16)
  pub low : get_or text 2 0 ≡ hex_digit 65 (b % 16)
  pub rest : drop 3 text ≡ more
  pub long : 3 ≤ length text

front_by : (p : Bool) (text : List ℕ) (b : ℕ) (more : List ℕ) → is_plain b ≡ p → text ≡ cond p (b ∷ []) (92 ∷ hex_byte 65 b) ++ more → Plain text b more ⊎ Digits text b more
front_by true text b more is e = inl (record { first = ap (λ t. get_or t 0 0) e; other = plain_is b is; rest = ap (drop 1) e })
front_by false text b more is e = inr (record {
  first = ap (λ t. get_or t 0 0) e;
  high = ap (λ t. get_or t 1 0) e;
  low = ap (λ t. get_or t 2 0) e;
  rest = ap (drop 3) e;
  long = (let l = ap length e in omega arith);
})

pub front : (text : List ℕ) (b : ℕ) (more : List ℕ) → text ≡ escaped b ++ more → Plain text b more ⊎ Digits text b more
front text b more e = front_by (is_plain b) text b more refl e

-- each list of bytes that is printed as the text goes on from the bytes that were read
abbrev pub GoesOn : List ℕ → List ℕ → List ℕ → Type 0
GoesOn text read rest = (own : List ℕ) → All (λ b. b < 256) own → text ≡ flat_map escaped own → (more : List ℕ) × (own ≡ read ++ more) × (rest ≡ flat_map escaped more)

-- what the next byte is, and what is left
abbrev pub IsNext : List ℕ → ℕ → List ℕ → Type 0
IsNext text byte after = (b : ℕ) (more : List ℕ) → b < 256 → text ≡ escaped b ++ more → (byte ≡ b) × (after ≡ more)

long_escaped : (p : Bool) (b : ℕ) (more : List ℕ) → 0 < length (cond p (b ∷ []) (92 ∷ hex_byte 65 b) ++ more)
long_escaped true b more = omega arith
long_escaped false b more = omega arith

one_more : (own read : List ℕ) (rest : List ℕ) (byte : ℕ) (after : List ℕ) (more : List ℕ) → 0 < length rest → IsNext rest byte after → All (λ b. b < 256) own → own ≡ read ++ more → rest ≡ flat_map escaped more
    → (later : List ℕ) × (own ≡ (read ++ byte ∷ []) ++ later) × (after ≡ flat_map escaped later)
one_more own read rest byte after [] h next small e r = absurd (let l = ap length r in omega arith)
one_more own read rest byte after (b ∷ more) h next small e r =
    let fits = All-contains (λ x. x < 256) own b small (subst (λ xs. Contains xs b) (sym e) (Contains-append_right read (b ∷ more) b (here b more))) in
    let is = next b (flat_map escaped more) fits r in
    (more, e ∙ ap (λ x. read ++ x ∷ more) (sym is.0) ∙ sym (append_assoc read (byte ∷ []) more), is.1)

pub goes_on : (text read rest : List ℕ) (byte : ℕ) (after : List ℕ) → GoesOn text read rest → length after < length rest → IsNext rest byte after → GoesOn text (read ++ byte ∷ []) after
goes_on text read rest byte after g h next own small e =
    let on = g own small e in
    one_more own read rest byte after on.0 (omega arith) next small on.1 on.2

all_read : (own read more : List ℕ) → own ≡ read ++ more → [] ≡ flat_map escaped more → read ≡ own
all_read own read [] e r = sym (e ∙ append-nil read)
all_read own read (b ∷ more) e r = absurd (let l = ap length r in let m = long_escaped (is_plain b) b (flat_map escaped more) in omega arith)

pub was_read : (text read rest own : List ℕ) → GoesOn text read rest → rest ≡ [] → All (λ b. b < 256) own → text ≡ flat_map escaped own → read ≡ own
was_read text read rest own g z small e =
    let on = g own small e in
    all_read own read on.0 on.1 (sym z ∙ on.2)

-- ---- words

pub bare_first : (own : List ℕ) → is_bare own ≡ true → get_or own 0 0 ≡ 34 → ⊥
bare_first [] h e = absurd cc
bare_first (b ∷ bs) h e = true≢false (sym (subst (λ z. is_bare (z ∷ bs) ≡ true) e h))

by_kind : (p : Bool) (text own : List ℕ) → is_bare own ≡ p → text ≡ cond p own (quoted own) → ((is_bare own ≡ true) × (text ≡ own)) ⊎ (text ≡ 34 ∷ (flat_map escaped own ++ 34 ∷ []))
by_kind true text own is e = inl (is, e)
by_kind false text own is e = inr e

-- a word is printed as it is, or in quotes
pub word_kind : (text own : List ℕ) → text ≡ name_text (Word own) → ((is_bare own ≡ true) × (text ≡ own)) ⊎ (text ≡ 34 ∷ (flat_map escaped own ++ 34 ∷ []))
word_kind text own e = by_kind (is_bare own) text own refl e

pub same_inner : (a b : List ℕ) → 34 ∷ (a ++ 34 ∷ []) ≡ 34 ∷ (b ++ 34 ∷ []) → a ≡ b
same_inner a b e =
    let tails : a ++ 34 ∷ [] ≡ b ++ 34 ∷ [] = ap (drop 1) e in
    append_cancel_right a b (34 ∷ []) tails

-- between a quote before and one after
pub quoted_some : (text rest : List ℕ) (N : Type 0) (r : Option (Bor (List ℕ))) → text ≡ 34 ∷ rest → MatchOption r N (λ x. rest ≡ x.now ++ 34 ∷ []) → IfSome r (λ inner. text ≡ 34 ∷ (inner.now ++ 34 ∷ []))
quoted_some text rest N None t h = tt
quoted_some text rest N (Some x) t h = t ∙ ap (λ (z : List ℕ). 34 ∷ z) h
