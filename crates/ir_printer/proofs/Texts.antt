-- The text of lists of tokens, part by part.
use Rattle.ir_printer.proofs.Common.{◌≡◌, ◌<◌, ◌≤◌, ◌+◌, ℕ, List, [], ◌∷◌, ◌++◌, length, drop, get_or, refl, ap, ◌∙◌, sym, append_assoc, append-nil, at_drop_all, drop_more, codes, flat_map, flat_map-append, Piece, piece_text, text_of, word, array_pieces, closing_pieces}

pub text_of-append : (a b : List Piece) → text_of (a ++ b) ≡ text_of a ++ text_of b
text_of-append a b = flat_map-append piece_text a b

pub text_of-flat_map : {X : Type 0} (f : X → List Piece) (xs : List X) → text_of (flat_map f xs) ≡ flat_map (λ x. text_of (f x)) xs
text_of-flat_map f [] = refl
text_of-flat_map f (x ∷ xs) = text_of-append (f x) (flat_map f xs) ∙ ap (λ t. text_of (f x) ++ t) (text_of-flat_map f xs)

-- what comes before an element, of one array
abbrev pub array_text : ℕ → List ℕ
array_text n = text_of (array_pieces (n ∷ []))

pub arrays-text : (lengths : List ℕ) → text_of (array_pieces lengths) ≡ flat_map array_text lengths
arrays-text [] = refl
arrays-text (n ∷ lengths) = text_of-append (array_pieces (n ∷ [])) (array_pieces lengths) ∙ ap (λ t. array_text n ++ t) (arrays-text lengths)

abbrev pub closing_text : ℕ → List ℕ
closing_text n = codes "]"

pub closing-text : (lengths : List ℕ) → text_of (closing_pieces lengths) ≡ flat_map closing_text lengths
closing-text [] = refl
closing-text (n ∷ lengths) = ap (λ t. closing_text n ++ t) (closing-text lengths)

-- a loop that appended a text for each element has appended all of them
pub all_done : {X : Type 0} (F : X → List ℕ) (xs : List X) (i : ℕ) (out old : List ℕ) → length xs ≤ i → out ++ flat_map F (drop i xs) ≡ old ++ flat_map F xs → out ≡ old ++ flat_map F xs
all_done F xs i out old past e = sym (append-nil out) ∙ ap (λ t. out ++ t) (sym (at_drop_all (flat_map F) xs i past)) ∙ e

-- the same of tokens
pub all_texts : {X : Type 0} (f : X → List Piece) (xs : List X) (i : ℕ) (out old : List ℕ) → length xs ≤ i
    → out ++ flat_map (λ x. text_of (f x)) (drop i xs) ≡ old ++ flat_map (λ x. text_of (f x)) xs → out ≡ old ++ text_of (flat_map f xs)
all_texts f xs i out old past e = all_done (λ x. text_of (f x)) xs i out old past e ∙ ap (λ t. old ++ t) (sym (text_of-flat_map f xs))

-- and one element more
pub one_more : {X : Type 0} (F : X → List ℕ) (xs : List X) (i : ℕ) (d : X) (out new old : List ℕ) → i < length xs → new ≡ out ++ F (get_or xs i d)
    → out ++ flat_map F (drop i xs) ≡ old ++ flat_map F xs → new ++ flat_map F (drop (i + 1) xs) ≡ old ++ flat_map F xs
one_more F xs i d out new old lt is e =
    ap (λ t. t ++ flat_map F (drop (i + 1) xs)) is ∙ append_assoc out (F (get_or xs i d)) (flat_map F (drop (i + 1) xs)) ∙ ap (λ t. out ++ t) (sym (ap (flat_map F) (drop_more xs i d lt))) ∙ e

-- five texts one after another
pub five_joined : (old r1 r2 r3 r4 new a b c d e : List ℕ) → r1 ≡ old ++ a → r2 ≡ r1 ++ b → r3 ≡ r2 ++ c → r4 ≡ r3 ++ d → new ≡ r4 ++ e → new ≡ old ++ (a ++ (b ++ (c ++ (d ++ e))))
five_joined old r1 r2 r3 r4 new a b c d e h1 h2 h3 h4 h5 = h5 ∙ rw (h4, h3, h2, h1) (simp append_assoc)

-- tokens in two parts
pub two_parts : (before behind : List Piece) (old mid new : List ℕ) → mid ≡ old ++ text_of before → new ≡ mid ++ text_of behind → new ≡ old ++ text_of (before ++ behind)
two_parts before behind old mid new h k =
    k ∙ ap (λ t. t ++ text_of behind) h ∙ append_assoc old (text_of before) (text_of behind) ∙ ap (λ t. old ++ t) (sym (text_of-append before behind))

-- a word and two flags, before what follows them
pub regrouped : (result flag other object more : List Piece) (w : Piece) → result ++ w ∷ (flag ++ other ++ object ++ more) ≡ (result ++ w ∷ (flag ++ other)) ++ (object ++ more)
regrouped result flag other object more w = simp append_assoc

pub ruleset texts = (text_of-append, text_of-flat_map, arrays-text, closing-text)
