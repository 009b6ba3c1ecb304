-- A define, from the classes and bytes of its tokens.
use Rattle.read_back.proofs.Common.{◌≡◌, ℕ, zero, suc, ◌+◌, ◌-◌, ◌<◌, Bool, true, false, List, [], ◌∷◌, ◌++◌, length, take, map, Some, refl, sym, ap, ◌∙◌, append_assoc, arith, AllByRecursion, bytes_eq, length-append, length-map, take_at, map-append, Kind, Lexeme, spelled, is_head_word, is_head, is_define, begins_item, is_called, is_brace, IsNamed, IsDefine}
use Rattle.std.proofs.Common.{◌||◌}
use Rattle.std.specs.Prelude.{codes}
use Rattle.ir_lexer.specs.declared.token.Kind.TheVariants as kind
use Rattle.ir_items.proofs.Phases.{behind_parameters, parameters_end_balanced}
use Rattle.read_back.proofs.CutNested.{left, Nested, nothing-nested, plain-nested, mark_by}
use Rattle.read_back.proofs.CutPlaces.{At, at, marks-at, piece-at}

-- the words that begin an item
abbrev pub is_head_text : List ℕ → Bool
is_head_text text =
    bytes_eq text (codes "define") || bytes_eq text (codes "declare") || bytes_eq text (codes "source_filename") || bytes_eq text (codes "target")
    || bytes_eq text (codes "attributes") || bytes_eq text (codes "module") || bytes_eq text (codes "uselistorder") || bytes_eq text (codes "uselistorder_bb")

-- a word that begins none
pub record IsOtherWord (t : Kind × List ℕ) : Type 0 where
  pub word : t.0 ≡ kind.Word
  pub other : is_head_text t.1 ≡ false

-- ---- tests of a token

head_is : (t : Lexeme) (text : List ℕ) → t.kind ≡ kind.Word → t.text ≡ text → is_head_word t ≡ is_head_text text
head_is t text k e = rw (k, e) refl

no_head : (tokens : List Lexeme) (place : ℕ) (text : List ℕ) → At tokens place kind.Word text → is_head_text text ≡ false → begins_item tokens place ≡ false
unfolding begins_item is_head
no_head tokens place text here other =
    let head : is_head_word here.token ≡ false = head_is here.token text here.kind_is here.text_is ∙ other in
    rw (here.there, head, here.kind_is) refl

not_called : (tokens : List Lexeme) (place : ℕ) (text : List ℕ) → At tokens place kind.Word text → is_called tokens place ≡ false
unfolding is_called
not_called tokens place text here = rw (here.there, here.kind_is) refl

define_at : (tokens : List Lexeme) (place : ℕ) → At tokens place kind.Word (codes "define") → is_define tokens place ≡ true
unfolding is_define
define_at tokens place here = rw (here.there, here.kind_is, here.text_is) refl

called_at : (tokens : List Lexeme) (place : ℕ) (text : List ℕ) → At tokens place kind.Global text → At tokens (place + 1) kind.Mark (codes "(") → is_called tokens place ≡ true
unfolding is_called
called_at tokens place text here next = rw (here.there, next.there, here.kind_is, next.kind_is, next.text_is) refl

brace_at : (tokens : List Lexeme) (place : ℕ) → At tokens place kind.Mark (codes "{") → is_brace tokens place ≡ true
unfolding is_brace
brace_at tokens place here = rw (here.there, here.kind_is, here.text_is) refl

-- ---- the words before its name

record Inside (words : List (Kind × List ℕ)) (n : ℕ) : Type 0 where
  front : List (Kind × List ℕ)
  text : List ℕ
  rest : List (Kind × List ℕ)
  split : words ≡ front ++ (kind.Word, text) ∷ rest
  len : length front ≡ n
  other : is_head_text text ≡ false

pair_is : (t : Kind × List ℕ) → t.0 ≡ kind.Word → t ≡ (kind.Word, t.1)
pair_is t e = ap (λ (k : Kind). (k, t.1)) e

inside : (words : List (Kind × List ℕ)) (n : ℕ) → AllByRecursion IsOtherWord words → n < length words → Inside words n
inside [] n h lt = absurd (omega arith)
inside (t ∷ words) zero h lt = record { front = []; text = t.1; rest = words; split = ap (λ (x : Kind × List ℕ). x ∷ words) (pair_is t h.0.word); len = refl; other = h.0.other }
inside (t ∷ words) (suc n) h lt =
    let more = inside words n h.1 (omega arith) in
    record { front = t ∷ more.front; text = more.text; rest = more.rest; split = ap (λ (l : List (Kind × List ℕ)). t ∷ l) more.split; len = omega (arith, more.len); other = more.other }

word_mark : (t : Kind × List ℕ) → t.0 ≡ kind.Word → mark_by t ≡ 0
word_mark t e = rw e refl

words_nested : (words : List (Kind × List ℕ)) → AllByRecursion IsOtherWord words → Nested (map mark_by words)
words_nested [] h = nothing-nested
words_nested (t ∷ words) h = rw (word_mark t h.0.word) (plain-nested 0 (map mark_by words) refl refl (words_nested words h.1))

-- ---- the whole define

abbrev define_word : Kind × List ℕ
define_word = (kind.Word, codes "define")

behind : (before inner rest : List (Kind × List ℕ)) (x : Kind × List ℕ) (all : List (Kind × List ℕ)) → all ≡ before ++ (x ∷ (inner ++ rest)) → all ≡ (before ++ x ∷ inner) ++ rest
behind before inner rest x all e = e ∙ sym (append_assoc before (x ∷ inner) rest)

-- a word of these is at an index
record WordAt (tokens : List Lexeme) (place : ℕ) : Type 0 where
  text : List ℕ
  there : At tokens place kind.Word text
  other : is_head_text text ≡ false

word_from : (tokens : List Lexeme) (before words rest : List (Kind × List ℕ)) (first m n : ℕ) → map spelled tokens ≡ before ++ (define_word ∷ (words ++ rest)) → length before ≡ first → first + (n + 1) ≡ m → Inside words n → WordAt tokens m
word_from tokens before words rest first m n e len sum here = record {
  text = here.text;
  there = at tokens (before ++ define_word ∷ here.front) kind.Word here.text (here.rest ++ rest) m (behind before here.front ((kind.Word, here.text) ∷ (here.rest ++ rest)) define_word (map spelled tokens) whole)
      (omega (arith, length-append before (define_word ∷ here.front), here.len));
  other = here.other;
}
  where
    split : words ++ rest ≡ here.front ++ (kind.Word, here.text) ∷ (here.rest ++ rest)
    split = ap (λ (l : List (Kind × List ℕ)). l ++ rest) here.split ∙ append_assoc here.front ((kind.Word, here.text) ∷ here.rest) rest

    whole : map spelled tokens ≡ before ++ (define_word ∷ (here.front ++ (kind.Word, here.text) ∷ (here.rest ++ rest)))
    whole = e ∙ ap (λ (l : List (Kind × List ℕ)). before ++ (define_word ∷ l)) split

word_at : (tokens : List Lexeme) (before words rest : List (Kind × List ℕ)) (first m : ℕ) → map spelled tokens ≡ before ++ (define_word ∷ (words ++ rest)) → length before ≡ first → AllByRecursion IsOtherWord words
    → first < m → m < first + (length words + 1) → WordAt tokens m
word_at tokens before words rest first m e len others lo hi = word_from tokens before words rest first m (m - first - 1) e len (omega arith) (inside words (m - first - 1) others (omega arith))

named_at : (tokens : List Lexeme) (before words : List (Kind × List ℕ)) (name : List ℕ) (rest : List (Kind × List ℕ)) (first place : ℕ)
    → map spelled tokens ≡ before ++ (define_word ∷ (words ++ (kind.Global, name) ∷ (kind.Mark, codes "(") ∷ rest)) → length before ≡ first → first + (length words + 1) ≡ place
    → AllByRecursion IsOtherWord words → At tokens place kind.Global name → At tokens (place + 1) kind.Mark (codes "(") → place < length tokens → IsNamed tokens first place
named_at tokens before words name rest first place e len sum others here next within = record {
  before = record {
    word = define_at tokens first (at tokens before kind.Word (codes "define") (words ++ (kind.Global, name) ∷ (kind.Mark, codes "(") ∷ rest) first e len);
    some = omega arith;
    within = omega arith;
    no_head = λ m lo hi balanced. let w = word_at tokens before words ((kind.Global, name) ∷ (kind.Mark, codes "(") ∷ rest) first m e len others lo (omega arith) in no_head tokens m w.text w.there w.other;
    no_name = λ m lo hi balanced. let w = word_at tokens before words ((kind.Global, name) ∷ (kind.Mark, codes "(") ∷ rest) first m e len others lo (omega arith) in not_called tokens m w.text w.there;
  };
  balanced = marks-at tokens before (define_word ∷ (words ++ (kind.Global, name) ∷ (kind.Mark, codes "(") ∷ rest)) first place (length words + 1) e len sum ∙ ap (left (Some [])) front ∙ nested.stays [];
  called = called_at tokens place name here next;
}
  where
    nested : Nested (0 ∷ map mark_by words)
    nested = plain-nested 0 (map mark_by words) refl refl (words_nested words others)

    front : take (length words + 1) (map mark_by (define_word ∷ (words ++ (kind.Global, name) ∷ (kind.Mark, codes "(") ∷ rest))) ≡ 0 ∷ map mark_by words
    front =
        ap (λ (l : List ℕ). take (length words + 1) (0 ∷ l)) (map-append mark_by words ((kind.Global, name) ∷ (kind.Mark, codes "(") ∷ rest))
        ∙ take_at (0 ∷ map mark_by words) (map mark_by ((kind.Global, name) ∷ (kind.Mark, codes "(") ∷ rest)) (length words + 1) (omega (arith, length-map words mark_by))

-- its tokens: the word and others, its name, its parameters and its body, and what follows it
abbrev pub define_of : List (Kind × List ℕ) → List ℕ → List (Kind × List ℕ) → List (Kind × List ℕ) → List (Kind × List ℕ) → List (Kind × List ℕ)
define_of words name parameters body rest =
    (kind.Word, codes "define") ∷ (words ++ (kind.Global, name) ∷ (kind.Mark, codes "(") ∷ (parameters ++ (kind.Mark, codes ")") ∷ (kind.Mark, codes "{") ∷ (body ++ (kind.Mark, codes "}") ∷ rest)))

-- a define, and where its name is
pub record DefineAt (tokens : List Lexeme) (first end : ℕ) (name : List ℕ) : Type 0 where
  pub place : ℕ
  pub define : IsDefine tokens first place end
  pub named : At tokens place kind.Global name

pub define-at : (tokens : List Lexeme) (before words : List (Kind × List ℕ)) (name : List ℕ) (parameters body rest : List (Kind × List ℕ)) (first end : ℕ)
    → map spelled tokens ≡ before ++ define_of words name parameters body rest → length before ≡ first → first + (length words + length parameters + length body + 6) ≡ end
    → AllByRecursion IsOtherWord words → Nested (map mark_by parameters) → Nested (map mark_by body) → DefineAt tokens first end name
define-at tokens before words name parameters body rest first end e len sum others parameters_nested body_nested =
    let global : Kind × List ℕ = (kind.Global, name) in
    let left_mark : Kind × List ℕ = (kind.Mark, codes "(") in
    let right_mark : Kind × List ℕ = (kind.Mark, codes ")") in
    let behind_parameters_are : List (Kind × List ℕ) = (kind.Mark, codes "{") ∷ (body ++ (kind.Mark, codes "}") ∷ rest) in
    let behind_name : List (Kind × List ℕ) = left_mark ∷ (parameters ++ right_mark ∷ behind_parameters_are) in
    let words_front : List (Kind × List ℕ) = before ++ define_word ∷ words in
    let name_front : List (Kind × List ℕ) = words_front ++ global ∷ [] in
    let parameters_front : List (Kind × List ℕ) = name_front ++ left_mark ∷ (parameters ++ right_mark ∷ []) in
    let place = first + (length words + 1) in
    let body_place = first + (length words + length parameters + 4) in
    let words_len : length words_front ≡ place = omega (arith, length-append before (define_word ∷ words)) in
    let name_len : length name_front ≡ place + 1 = omega (arith, words_len, length-append words_front (global ∷ [])) in
    let parameters_len : length parameters_front ≡ body_place = omega (arith, name_len, length-append name_front (left_mark ∷ (parameters ++ right_mark ∷ [])), length-append parameters (right_mark ∷ [])) in
    let at_words : map spelled tokens ≡ words_front ++ global ∷ behind_name = behind before words (global ∷ behind_name) define_word (map spelled tokens) e in
    let at_name : map spelled tokens ≡ name_front ++ behind_name = behind words_front [] behind_name global (map spelled tokens) at_words in
    let closed : behind_name ≡ left_mark ∷ ((parameters ++ right_mark ∷ []) ++ behind_parameters_are) = ap (λ (l : List (Kind × List ℕ)). left_mark ∷ l) (sym (append_assoc parameters (right_mark ∷ []) behind_parameters_are)) in
    let at_body : map spelled tokens ≡ parameters_front ++ behind_parameters_are =
    behind name_front (parameters ++ right_mark ∷ []) behind_parameters_are left_mark (map spelled tokens) (at_name ∙ ap (λ (l : List (Kind × List ℕ)). name_front ++ l) closed) in
    let name_here = at tokens words_front kind.Global name behind_name place at_words words_len in
    let mark_here = at tokens name_front kind.Mark (codes "(") (parameters ++ right_mark ∷ behind_parameters_are) (place + 1) at_name name_len in
    let brace_here = at tokens parameters_front kind.Mark (codes "{") (body ++ (kind.Mark, codes "}") ∷ rest) body_place at_body parameters_len in
    let parameters_piece = piece-at tokens name_front left_mark right_mark parameters behind_parameters_are (place + 1) body_place at_name name_len (omega arith)
    (record { opened = refl; close_is = refl; no_other = refl; closed = refl }) parameters_nested in
    let body_piece = piece-at tokens parameters_front (kind.Mark, codes "{") (kind.Mark, codes "}") body rest body_place end at_body parameters_len (omega arith)
    (record { opened = refl; close_is = refl; no_other = refl; closed = refl }) body_nested in
    let named = named_at tokens before words name (parameters ++ right_mark ∷ behind_parameters_are) first place e len refl others name_here mark_here (omega (arith, parameters_piece.some, parameters_piece.within)) in
    record {
      place = first + (length words + 1);
      define = record {
        body = first + (length words + length parameters + 4);
        has_body = record {
          before = behind_parameters tokens first (first + (length words + 1)) (first + (length words + length parameters + 4)) named parameters_piece;
          balanced = parameters_end_balanced tokens first (first + (length words + 1)) (first + (length words + length parameters + 4)) named parameters_piece;
          brace = brace_at tokens (first + (length words + length parameters + 4)) brace_here;
        };
        closed = body_piece;
      };
      named = name_here;
    }
