-- What is left of a text begins at a position.
use Rattle.ir_lexer.proofs.Common.{◌≡◌, ℕ, ◌+◌, ◌-◌, ◌^◌, ◌<◌, ◌≤◌, cond, List, [], ◌++◌, length, take, drop, refl, sym, ap, ◌∙◌, append_assoc, arith, length-append, length-take, take-append-drop, take_at, drop_at, Place, place_behind, place_at, line-within, column-within, Here}
use Rattle.std.proofs.lemmas.List.{drop-drop}
use Rattle.std.proofs.lemmas.List.Sums.{sum_by-append, count_by-le-length}
use Rattle.std.specs.Prelude.{count_by}
use Rattle.text_places.specs.Place.{is_line_feed}

pub at_start : (text : List ℕ) (place : Place) → place ≡ place_behind [] → Here text text place
at_start text place is = record { before = []; split = refl; is = is }

-- after the bytes of a prefix
pub moved : (text rest front next : List ℕ) (len : ℕ) (place after : Place) → front ≡ take len rest → next ≡ drop len rest → ((before : List ℕ) → place ≡ place_behind before → after ≡ place_behind (before ++ front))
    → Here text rest place → Here text next after
moved text rest front next len place after front-is next-is step here =
    let whole : rest ≡ front ++ next = sym (take-append-drop len rest) ∙ ap (λ (xs : List ℕ). xs ++ drop len rest) (sym front-is) ∙ ap (λ (xs : List ℕ). front ++ xs) (sym next-is) in
    record {
      before = here.before ++ front;
      split = here.split ∙ ap (λ (xs : List ℕ). here.before ++ xs) whole ∙ sym (append_assoc here.before front next);
      is = step here.before here.is;
    }

pub line_fits : (text rest front : List ℕ) (place : Place) → length front ≤ length rest → length text < 2 ^ 63 → Here text rest place → place.line + length front < 2 ^ 64
line_fits text rest front place within short here =
    let lens : length text ≡ length here.before + length rest = ap length here.split ∙ length-append here.before rest in
    let line : place.line ≡ (place_behind here.before).line = ap (λ (p : Place). p.line) here.is in
    omega (arith, lens, line, line-within here.before)

pub column_fits : (text rest front : List ℕ) (place : Place) → length front ≤ length rest → length text < 2 ^ 63 → Here text rest place → place.column + length front < 2 ^ 64
column_fits text rest front place within short here =
    let lens : length text ≡ length here.before + length rest = ap length here.split ∙ length-append here.before rest in
    let column : place.column ≡ (place_behind here.before).column = ap (λ (p : Place). p.column) here.is in
    omega (arith, lens, column, column-within here.before)

pub here-place : (text rest : List ℕ) (place : Place) → Here text rest place → place ≡ place_at text (length text - length rest)
here-place text rest place here =
    let lens : length text ≡ length here.before + length rest = ap length here.split ∙ length-append here.before rest in
    let len : length here.before ≡ length text - length rest = omega (arith, lens) in
    here.is ∙ ap place_behind (sym (ap (take (length text - length rest)) here.split ∙ take_at here.before rest (length text - length rest) len))

pub here-drop : (text rest : List ℕ) (place : Place) → Here text rest place → drop (length text - length rest) text ≡ rest
here-drop text rest place here =
    let lens : length text ≡ length here.before + length rest = ap length here.split ∙ length-append here.before rest in
    let len : length here.before ≡ length text - length rest = omega (arith, lens) in
    ap (drop (length text - length rest)) here.split ∙ drop_at here.before rest (length text - length rest) len

-- what is left from an offset on, by the line and column there
pub here-at : (text rest : List ℕ) (at line column : ℕ) → rest ≡ drop at text → line ≡ (place_at text at).line → column ≡ (place_at text at).column → Here text rest (record { line = line; column = column })
here-at text rest at line column r l c = record {
  before = take at text;
  split = sym (take-append-drop at text) ∙ ap (λ (xs : List ℕ). take at text ++ xs) (sym r);
  is = rw (l, c) refl;
}

-- more bytes passed, and the line feeds among them
pub skipped : (text rest after : List ℕ) (place : Place) (len line column : ℕ) → len ≤ length rest → after ≡ drop len rest → line ≡ place.line + count_by is_line_feed (take len rest)
    → column ≡ (place_at text (length text - length rest + len)).column → Here text rest place → Here text after (record { line = line; column = column })
unfolding place_behind
skipped text rest after place len line column within is l c here =
    let n = length text - length rest in
    let lens : length text ≡ length here.before + length rest = ap length here.split ∙ length-append here.before rest in
    let front : length (here.before ++ take len rest) ≡ n + len = length-append here.before (take len rest) ∙ omega (arith, lens, within, length-take len rest) in
    let whole : text ≡ (here.before ++ take len rest) ++ drop len rest =
    here.split ∙ ap (λ (xs : List ℕ). here.before ++ xs) (sym (take-append-drop len rest)) ∙ sym (append_assoc here.before (take len rest) (drop len rest)) in
    let passed : take (n + len) text ≡ here.before ++ take len rest = ap (take (n + len)) whole ∙ take_at (here.before ++ take len rest) (drop len rest) (n + len) front in
    let feeds : count_by is_line_feed (here.before ++ take len rest) ≡ count_by is_line_feed here.before + count_by is_line_feed (take len rest) =
    sum_by-append (λ b. cond (is_line_feed b) 1 0) here.before (take len rest) in
    let before : place.line ≡ count_by is_line_feed here.before + 1 = ap (λ (p : Place). p.line) here.is in
    let at : after ≡ drop (n + len) text = is ∙ ap (drop len) (sym (here-drop text rest place here)) ∙ drop-drop len n text in
    let there : line ≡ (place_at text (n + len)).line = omega (arith, l, before, feeds, ap (count_by is_line_feed) passed) in
    here-at text after (n + len) line column at there c

-- the line after them is in range
pub feeds-fit : (text rest front : List ℕ) (place : Place) (feeds : ℕ) → length front ≤ length rest → length text < 2 ^ 63 → feeds ≡ count_by is_line_feed front → Here text rest place → place.line + feeds < 2 ^ 64
feeds-fit text rest front place feeds within short is here = omega (arith, is, count_by-le-length is_line_feed front, line_fits text rest front place within short here)
