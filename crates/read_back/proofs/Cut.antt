-- The tokens of printed functions are cut into a define for each.
use Rattle.read_back.proofs.Common.{◌≡◌, ℕ, suc, ◌+◌, ◌-◌, ◌<◌, ◌≤◌, Bool, true, false, List, [], ◌∷◌, ◌++◌, length, take, map, slice_range, Option, Some, None, refl, sym, ap, ◌∙◌, subst, append_assoc, append-nil, arith, flat_map, AllByRecursion, AllZip, IsDistinct, length-append, length-map, map-append, take_at, recursion_from_All, Kind, Lexeme, same_name, Name, IrType, Int, Ptr, name_text, Define, name_of, name_at, IsCut, WrittenFunction, named_behind, entry_name, Piece, spelled, none, space, line, word, mark, global, word_if, return_text}
use Rattle.std.specs.Prelude.{codes}
use Rattle.ir_lexer.specs.declared.token.Kind.TheVariants as kind
use Rattle.ir_tree.specs.declared.name.Name.TheVariants as name
use Rattle.read_back.proofs.Written.{parameters_pieces, body_pieces, block_pieces, written_pieces}
use Rattle.read_back.proofs.Spellable.{IsName, IsSpellable}
use Rattle.read_back.proofs.CutNested.{Nested, mark_by}
use Rattle.read_back.proofs.CutPlaces.{At, range-at}
use Rattle.read_back.proofs.CutDefine.{is_head_text, IsOtherWord, define_of, DefineAt, define-at}
use Rattle.read_back.proofs.CutNames.{number-name_of, word-name_of}
use Rattle.read_back.proofs.CutMarks.{piece_mark, Closed, closed-append, body-closed, blocks-closed, parameters-closed}
use Rattle.read_back.proofs.CutDistinct.{AreNew, none-new, more-new, first-distinct}

-- a token of a text by its class and bytes
abbrev pub token_of : Piece → Kind × List ℕ
token_of p = (p.kind, p.text)

abbrev pub tokens_of : List Piece → List (Kind × List ℕ)
tokens_of ps = map (λ (p : Piece). (p.kind, p.text)) ps

-- the tokens of a printed function, whatever blanks come before it
abbrev pub function_tokens : WrittenFunction → List (Kind × List ℕ)
function_tokens w = tokens_of (written_pieces none w)

-- of functions with blanks between them
pub tokens-all : (gap : List ℕ) (w : WrittenFunction) (ws : List WrittenFunction) → tokens_of (written_pieces none w ++ flat_map (written_pieces gap) ws) ≡ flat_map function_tokens (w ∷ ws)
tokens-all gap w ws = map-append token_of (written_pieces none w) (flat_map (written_pieces gap) ws) ∙ ap (λ (l : List (Kind × List ℕ)). function_tokens w ++ l) (others ws)
  where
    others : (vs : List WrittenFunction) → tokens_of (flat_map (written_pieces gap) vs) ≡ flat_map function_tokens vs
    others [] = refl
    others (v ∷ vs) = map-append token_of (written_pieces gap v) (flat_map (written_pieces gap) vs) ∙ ap (λ (l : List (Kind × List ℕ)). function_tokens v ++ l) (others vs)

-- ---- the parts of a printed function

append_tokens : (ps qs : List Piece) → tokens_of (ps ++ qs) ≡ tokens_of ps ++ tokens_of qs
append_tokens ps qs = map-append token_of ps qs

last_part : (g o c l r : Piece) (ps qs bs : List Piece) (rest : List (Kind × List ℕ))
    → tokens_of (ps ++ g ∷ o ∷ (qs ++ c ∷ l ∷ (bs ++ r ∷ []))) ++ rest ≡ tokens_of ps ++ token_of g ∷ token_of o ∷ (tokens_of qs ++ token_of c ∷ token_of l ∷ (tokens_of bs ++ token_of r ∷ rest))
last_part g o c l r ps qs bs rest =
    let body : tokens_of (bs ++ r ∷ []) ++ rest ≡ tokens_of bs ++ token_of r ∷ rest = ap (λ (t : List (Kind × List ℕ)). t ++ rest) (append_tokens bs (r ∷ [])) ∙ append_assoc (tokens_of bs) (token_of r ∷ []) rest in
    let inner : tokens_of (qs ++ c ∷ l ∷ (bs ++ r ∷ [])) ++ rest ≡ tokens_of qs ++ token_of c ∷ token_of l ∷ (tokens_of bs ++ token_of r ∷ rest) =
    ap (λ (t : List (Kind × List ℕ)). t ++ rest) (append_tokens qs (c ∷ l ∷ (bs ++ r ∷ []))) ∙ append_assoc (tokens_of qs) (token_of c ∷ token_of l ∷ tokens_of (bs ++ r ∷ [])) rest
    ∙ ap (λ (t : List (Kind × List ℕ)). tokens_of qs ++ token_of c ∷ token_of l ∷ t) body in
    ap (λ (t : List (Kind × List ℕ)). t ++ rest) (append_tokens ps (g ∷ o ∷ (qs ++ c ∷ l ∷ (bs ++ r ∷ []))))
    ∙ append_assoc (tokens_of ps) (token_of g ∷ token_of o ∷ tokens_of (qs ++ c ∷ l ∷ (bs ++ r ∷ []))) rest
    ∙ ap (λ (t : List (Kind × List ℕ)). tokens_of ps ++ token_of g ∷ token_of o ∷ t) inner

-- the words between `define` and the name
abbrev words_tokens : WrittenFunction → List (Kind × List ℕ)
words_tokens w = tokens_of (word_if w.returns_no_undef (codes "noundef") ++ word space (return_text w.returns.of_type) ∷ [])

abbrev parameters_tokens : WrittenFunction → List (Kind × List ℕ)
parameters_tokens w = tokens_of (parameters_pieces (named_behind [] w.parameters))

abbrev body_tokens : WrittenFunction → List (Kind × List ℕ)
body_tokens w = tokens_of (body_pieces (entry_name w) w.entry ++ flat_map block_pieces w.others)

header_split : (test : Bool) (type : Option IrType) (g o : Piece) (rest : List Piece)
    → (word_if test (codes "noundef") ++ word space (return_text type) ∷ g ∷ o ∷ []) ++ rest ≡ (word_if test (codes "noundef") ++ word space (return_text type) ∷ []) ++ g ∷ o ∷ rest
header_split true type g o rest = refl
header_split false type g o rest = refl

shape : (w : WrittenFunction) (rest : List (Kind × List ℕ)) → function_tokens w ++ rest ≡ define_of (words_tokens w) (64 ∷ name_text w.name.name) (parameters_tokens w) (body_tokens w) rest
shape w rest =
    let front : List Piece = word_if w.returns_no_undef (codes "noundef") ++ word space (return_text w.returns.of_type) ∷ [] in
    let inner : List Piece = parameters_pieces (named_behind [] w.parameters) in
    let blocks : List Piece = body_pieces (entry_name w) w.entry ++ flat_map block_pieces w.others in
    let behind : List Piece = inner ++ (mark none (codes ")") ∷ mark space (codes "{") ∷ (blocks ++ mark line (codes "}") ∷ [])) in
    ap (λ (ps : List Piece). (kind.Word, codes "define") ∷ (tokens_of ps ++ rest)) (header_split w.returns_no_undef w.returns.of_type (global space w.name.name) (mark none (codes "(")) behind)
    ∙ ap (λ (t : List (Kind × List ℕ)). (kind.Word, codes "define") ∷ t)
    (last_part (global space w.name.name) (mark none (codes "(")) (mark none (codes ")")) (mark space (codes "{")) (mark line (codes "}")) front inner blocks rest)

no_type_head : (type : Option IrType) → is_head_text (return_text type) ≡ false
no_type_head None = refl
no_type_head (Some (Int w)) = refl
no_type_head (Some Ptr) = refl

other_words : (test : Bool) (type : Option IrType) → AllByRecursion IsOtherWord (tokens_of (word_if test (codes "noundef") ++ word space (return_text type) ∷ []))
other_words true type = (record { word = refl; other = refl }, (record { word = refl; other = no_type_head type }, tt))
other_words false type = (record { word = refl; other = no_type_head type }, tt)

same_marks : (ps : List Piece) → map piece_mark ps ≡ map mark_by (tokens_of ps)
same_marks [] = refl
same_marks (p ∷ ps) = ap (λ (l : List ℕ). piece_mark p ∷ l) (same_marks ps)

closed_nested : (ps : List Piece) → Closed ps → Nested (map mark_by (tokens_of ps))
closed_nested ps h = subst Nested (same_marks ps) h.nested

body_nested : (w : WrittenFunction) → Nested (map mark_by (body_tokens w))
body_nested w =
    closed_nested (body_pieces (entry_name w) w.entry ++ flat_map block_pieces w.others)
    (closed-append (body_pieces (entry_name w) w.entry) (flat_map block_pieces w.others) (body-closed (entry_name w) w.entry) (blocks-closed w.others))

parameters_nested : (w : WrittenFunction) → Nested (map mark_by (parameters_tokens w))
parameters_nested w = closed_nested (parameters_pieces (named_behind [] w.parameters)) (parameters-closed (named_behind [] w.parameters))

function_length : (w : WrittenFunction) → length (words_tokens w) + length (parameters_tokens w) + length (body_tokens w) + 6 ≡ length (function_tokens w)
function_length w =
    let behind : List (Kind × List ℕ) = (kind.Mark, codes ")") ∷ (kind.Mark, codes "{") ∷ (body_tokens w ++ (kind.Mark, codes "}") ∷ []) in
    let name : List (Kind × List ℕ) = (kind.Global, 64 ∷ name_text w.name.name) ∷ (kind.Mark, codes "(") ∷ (parameters_tokens w ++ behind) in
    let whole : length (function_tokens w ++ []) ≡ length ((kind.Word, codes "define") ∷ (words_tokens w ++ name)) = ap length (shape w []) in
    let own : length (function_tokens w ++ []) ≡ length (function_tokens w) = ap length (append-nil (function_tokens w)) in
    sum (length (words_tokens w)) (length (parameters_tokens w)) (length (body_tokens w)) (length (function_tokens w)) (length (words_tokens w ++ name)) (length (parameters_tokens w ++ behind)) (length (body_tokens w ++ (kind.Mark, codes "}") ∷ []))
    (sym own ∙ whole) (length-append (words_tokens w) name) (length-append (parameters_tokens w) behind) (length-append (body_tokens w) ((kind.Mark, codes "}") ∷ []))
  where
    sum : (a b c n x y z : ℕ) → n ≡ suc x → x ≡ a + suc (suc y) → y ≡ b + suc (suc z) → z ≡ c + suc 0 → a + b + c + 6 ≡ n
    sum a b c n x y z e f g h = omega arith

-- ---- names

name_read : (n : Name) → IsName n → name_of (name_text n) ≡ n
name_read (name.Number ds) h = number-name_of ds h.0 h.1
name_read (name.Word bytes) h = word-name_of bytes (recursion_from_All (λ (b : ℕ). b < 256) bytes h)

name_is : (tokens : List Lexeme) (place : ℕ) (n : Name) → IsName n → At tokens place kind.Global (64 ∷ name_text n) → name_at tokens place ≡ Some n
unfolding name_at
name_is tokens place n h here = rw (here.there, here.kind_is, here.text_is) (ap (λ (m : Name). Some m) (name_read n h))

-- ---- all functions

-- the define is this function: its name, and its tokens
pub record Matches (tokens : List Lexeme) (w : WrittenFunction) (d : Define) : Type 0 where
  pub named : d.name ≡ w.name.name
  pub same : map spelled (slice_range tokens d.first (d.last + 1)) ≡ function_tokens w

abbrev pub names_written : List WrittenFunction → List Name
names_written ws = map (λ (w : WrittenFunction). w.name.name) ws

-- the tokens after some defines are these functions
pub record CutsOn (tokens : List Lexeme) (defines : List Define) (ws : List WrittenFunction) : Type 0 where
  pub more : List Define
  pub cut : IsCut tokens (length tokens) (defines ++ more)
  pub each : AllZip (Matches tokens) ws more

cut_on : (tokens : List Lexeme) (before : List (Kind × List ℕ)) (defines : List Define) (ws : List WrittenFunction) (first : ℕ) → map spelled tokens ≡ before ++ flat_map function_tokens ws → length before ≡ first
    → IsCut tokens first defines → AllByRecursion IsSpellable ws → length defines + length ws ≤ 4096 → IsDistinct same_name (names_written ws) → AreNew defines (names_written ws) → CutsOn tokens defines ws
cut_on tokens before defines [] first e len cut all few distinct new = record {
  more = [];
  cut = subst (λ (ds : List Define). IsCut tokens (length tokens) ds) (sym (append-nil defines)) (subst (λ (n : ℕ). IsCut tokens n defines) whole cut);
  each = tt;
}
  where
    whole : first ≡ length tokens
    whole = sym len ∙ ap length (sym (append-nil before)) ∙ ap length (sym e) ∙ length-map tokens spelled
cut_on tokens before defines (w ∷ ws) first e len cut all few distinct new =
    let rest : List (Kind × List ℕ) = flat_map function_tokens ws in
    let end = first + length (function_tokens w) in
    let some = function_length w in
    let here : DefineAt tokens first (first + length (function_tokens w)) (64 ∷ name_text w.name.name) =
    define-at tokens before (words_tokens w) (64 ∷ name_text w.name.name) (parameters_tokens w) (body_tokens w) rest first (first + length (function_tokens w))
    (e ∙ ap (λ (l : List (Kind × List ℕ)). before ++ l) (shape w rest)) len (ap (λ (n : ℕ). first + n) some) (other_words w.returns_no_undef w.returns.of_type) (parameters_nested w) (body_nested w) in
    let d : Define = record { name = w.name.name; first = first; last = first + length (function_tokens w) - 1 } in
    let parts = first-distinct w.name.name (names_written ws) distinct in
    let next : IsCut tokens (first + length (function_tokens w)) (defines ++ d ∷ []) =
    IsCut.define cut here.define (name_is tokens here.place w.name.name all.0.name here.named) new.0 (omega arith) in
    let behind : map spelled tokens ≡ (before ++ function_tokens w) ++ rest = e ∙ sym (append_assoc before (function_tokens w) rest) in
    let on = cut_on tokens (before ++ function_tokens w) (defines ++ d ∷ []) ws (first + length (function_tokens w)) behind (length-append before (function_tokens w) ∙ ap (λ (n : ℕ). n + length (function_tokens w)) len) next all.1
    (omega (arith, length-append defines (d ∷ []))) parts.1 (more-new defines d (names_written ws) new.1 parts.0) in
    let own : map spelled (slice_range tokens first (first + length (function_tokens w) - 1 + 1)) ≡ take (length (function_tokens w)) (function_tokens w ++ rest) =
    range-at tokens before (function_tokens w ++ rest) first (first + length (function_tokens w) - 1 + 1) (length (function_tokens w)) e len (omega (arith, some)) in
    record {
      more = d ∷ on.more;
      cut = subst (λ (ds : List Define). IsCut tokens (length tokens) ds) (append_assoc defines (d ∷ []) on.more) on.cut;
      each = (record { named = refl; same = own ∙ take_at (function_tokens w) rest (length (function_tokens w)) refl }, on.each);
    }

-- the tokens are cut into these functions
pub record CutsInto (tokens : List Lexeme) (ws : List WrittenFunction) : Type 0 where
  pub defines : List Define
  pub cut : IsCut tokens (length tokens) defines
  pub each : AllZip (Matches tokens) ws defines

pub tokens-cut : (tokens : List Lexeme) (ws : List WrittenFunction) → map spelled tokens ≡ flat_map function_tokens ws → AllByRecursion IsSpellable ws → length ws ≤ 4096 → IsDistinct same_name (names_written ws)
    → CutsInto tokens ws
tokens-cut tokens ws e all few distinct =
    let on = cut_on tokens [] [] ws 0 e refl IsCut.nothing all (omega arith) distinct (none-new (names_written ws)) in
    record { defines = on.more; cut = on.cut; each = on.each }
