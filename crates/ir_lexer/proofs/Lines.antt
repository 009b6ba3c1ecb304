-- Tokens without a line feed, and the position behind bytes without one.
use Rattle.ir_lexer.proofs.Common.{◌≡◌, ℕ, suc, ◌+◌, ◌-◌, ◌<◌, ◌≤◌, true, false, cond, eqb, List, [], ◌∷◌, ◌++◌, length, take, drop, get_or, Some, None, refl, sym, ap, ◌∙◌, inl, inr, arith, cases_Bool, lt-ltb, length-drop, take-append-drop, append_assoc, append-nil, is_name_byte, begins_name, is_lone_mark, behind, name_run, word_or_label, longer, front_token, after_named, after_plain_name, Place, place_behind, place_at, longest_token, Kind}
use Rattle.std.specs.Prelude.{count_by}
use Rattle.std.proofs.lemmas.Bool.Decides.{nat_tests}
use Rattle.std.proofs.lemmas.List.{length-take-le, take-take, drop-take}
use Rattle.std.proofs.lemmas.List.Sums.{sum_by-cons, sum_by-append}
use Rattle.std.proofs.Common.{add-zero}
use Rattle.text_places.specs.Place.{is_line_feed}
use Rattle.text_places.proofs.Moves.{moved, one_more}
use Rattle.ir_lexer.specs.declared.token.Kind.TheVariants as kind
use Rattle.ir_lexer.proofs.Behind.{run-cons, drop-run, run-le}
use Rattle.ir_lexer.proofs.Dispatch.{local-first, name-plain}
use Rattle.ir_lexer.proofs.Fuel.{found-bounds}
use Rattle.ir_lexer.proofs.Longest.{front_token-longest}

-- ---- tokens

name_no_feed : (b : ℕ) → is_name_byte b ≡ true → eqb b 10 ≡ false
name_no_feed b h = grind (arith, nat_tests)

mark_no_feed : (b : ℕ) → is_lone_mark b ≡ true → eqb b 10 ≡ false
mark_no_feed b h = grind (arith, nat_tests)

colon_no_feed : (b : ℕ) → eqb b 58 ≡ true → eqb b 10 ≡ false
colon_no_feed b h = grind (arith, nat_tests)

feeds-cons : (b : ℕ) (bs : List ℕ) → count_by is_line_feed (b ∷ bs) ≡ cond (eqb b 10) 1 0 + count_by is_line_feed bs
feeds-cons b bs = sum_by-cons (λ c. cond (is_line_feed c) 1 0) b bs

no_more : (b : ℕ) (bs : List ℕ) → eqb b 10 ≡ false → count_by is_line_feed bs ≡ 0 → count_by is_line_feed (b ∷ bs) ≡ 0
no_more b bs other none =
    let e : count_by is_line_feed (b ∷ bs) ≡ 0 + count_by is_line_feed bs = feeds-cons b bs ∙ rw other refl in
    omega (arith, e, none)

pub mark-line : (text : List ℕ) → is_lone_mark (get_or text 0 0) ≡ true → count_by is_line_feed (take 1 text) ≡ 0
mark-line [] h = refl
mark-line (b ∷ bs) h = rw (mark_no_feed b h) refl

run-line : (text : List ℕ) → count_by is_line_feed (take (name_run text) text) ≡ 0
run-line [] = refl
run-line (b ∷ bs) =
    elim (cases_Bool (is_name_byte b)) [
      | inl t ↦ let e : name_run (b ∷ bs) ≡ suc (name_run bs) = run-cons is_name_byte b bs ∙ rw t refl in
          ap (λ (n : ℕ). count_by is_line_feed (take n (b ∷ bs))) e ∙ no_more b (take (name_run bs) bs) (name_no_feed b t) (run-line bs)
      | inr f ↦ let e : name_run (b ∷ bs) ≡ 0 = run-cons is_name_byte b bs ∙ rw f refl in
          ap (λ (n : ℕ). count_by is_line_feed (take n (b ∷ bs))) e
    ]

one_longer : (n : ℕ) (rest : List ℕ) → (word_or_label (suc n) rest).1 ≡ suc ((word_or_label n rest).1)
one_longer n [] = refl
one_longer n (b ∷ bs) = elim (cases_Bool (eqb b 58)) [ inl t ↦ rw t (omega arith) | inr f ↦ rw f refl ]

pub word-line : (text : List ℕ) → count_by is_line_feed (take ((word_or_label (name_run text) (behind is_name_byte text)).1) text) ≡ 0
word-line [] = refl
word-line (b ∷ bs) =
    elim (cases_Bool (is_name_byte b)) [
      | inl t ↦ let e : name_run (b ∷ bs) ≡ suc (name_run bs) = run-cons is_name_byte b bs ∙ rw t refl in
          let same : behind is_name_byte (b ∷ bs) ≡ behind is_name_byte bs = rw t refl in
          let len : (word_or_label (name_run (b ∷ bs)) (behind is_name_byte (b ∷ bs))).1 ≡ suc ((word_or_label (name_run bs) (behind is_name_byte bs)).1) =
          ap (λ (n : ℕ). (word_or_label n (behind is_name_byte (b ∷ bs))).1) e ∙ ap (λ (r : List ℕ). (word_or_label (suc (name_run bs)) r).1) same ∙ one_longer (name_run bs) (behind is_name_byte bs) in
          ap (λ (n : ℕ). count_by is_line_feed (take n (b ∷ bs))) len ∙ no_more b (take ((word_or_label (name_run bs) (behind is_name_byte bs)).1) bs) (name_no_feed b t) (word-line bs)
      | inr f ↦ let e : name_run (b ∷ bs) ≡ 0 = run-cons is_name_byte b bs ∙ rw f refl in
          let same : behind is_name_byte (b ∷ bs) ≡ b ∷ bs = rw f refl in
          let len : (word_or_label (name_run (b ∷ bs)) (behind is_name_byte (b ∷ bs))).1 ≡ (word_or_label 0 (b ∷ bs)).1 =
          ap (λ (n : ℕ). (word_or_label n (behind is_name_byte (b ∷ bs))).1) e ∙ ap (λ (r : List ℕ). (word_or_label 0 r).1) same in
          ap (λ (n : ℕ). count_by is_line_feed (take n (b ∷ bs))) len ∙ colon b bs
    ]
  where
    colon : (b : ℕ) (bs : List ℕ) → count_by is_line_feed (take ((word_or_label 0 (b ∷ bs)).1) (b ∷ bs)) ≡ 0
    colon b bs = elim (cases_Bool (eqb b 58)) [ inl t ↦ rw (t, colon_no_feed b t) refl | inr f ↦ rw f refl ]

name_is : (b : ℕ) → begins_name b ≡ true → is_name_byte b ≡ true
name_is b h = grind (arith, nat_tests)

found_local : (total len : ℕ) (rest : List ℕ) → total - length rest ≡ len → 0 < len → longer total None kind.Local (Some rest) ≡ Some (kind.Local, len)
unfolding longer
found_local total len rest is some = rw (is, lt-ltb 0 len some) refl

pub local-plain : (rest : List ℕ) → begins_name (get_or rest 0 0) ≡ true → front_token (37 ∷ rest) ≡ Some (kind.Local, 1 + name_run rest)
unfolding after_named after_plain_name
local-plain [] h = cc
local-plain (b ∷ bs) h =
    let run : name_run (b ∷ bs) ≡ suc (name_run bs) = run-cons is_name_byte b bs ∙ rw (name_is b h) refl in
    let left : length (behind is_name_byte bs) ≡ length bs - name_run bs = ap length (sym (drop-run is_name_byte bs)) ∙ length-drop (name_run bs) bs in
    let name : after_named 37 (37 ∷ b ∷ bs) ≡ Some (behind is_name_byte bs) = name-plain (b ∷ bs) h ∙ rw h refl in
    let len : length (37 ∷ b ∷ bs) - length (behind is_name_byte bs) ≡ 1 + name_run (b ∷ bs) = omega (arith, run, left, run-le is_name_byte bs) in
    local-first (37 ∷ b ∷ bs) refl ∙ ap (longer (length (37 ∷ b ∷ bs)) None kind.Local) name ∙ found_local (length (37 ∷ b ∷ bs)) (1 + name_run (b ∷ bs)) (behind is_name_byte bs) len (omega arith)

pub local-line : (rest : List ℕ) (run : ℕ) → run ≡ name_run rest → count_by is_line_feed (take (1 + run) (37 ∷ rest)) ≡ 0
local-line rest run is =
    let e : 1 + run ≡ suc (name_run rest) = omega (arith, is) in
    ap (λ (n : ℕ). count_by is_line_feed (take n (37 ∷ rest))) e ∙ run-line rest

pub plain-longest : (text : List ℕ) (found : Kind × ℕ) → front_token text ≡ Some found → (longest_token text ≡ Some found) × (0 < found.1) × (found.1 ≤ length text)
plain-longest text found is =
    let longest : longest_token text ≡ Some found = sym (front_token-longest text) ∙ is in
    let bounds = found-bounds text found longest in
    (longest, bounds.0, bounds.1)

-- ---- positions

-- further on in the same line
abbrev pub further : Place → ℕ → Place
further place n = record { line = place.line; column = place.column + n }

pub push : (before : List ℕ) (b : ℕ) → moved (place_behind before) b ≡ place_behind (before ++ b ∷ [])
push before b = one_more (place_behind before) (b ∷ []) 0 (place_behind before) (moved (place_behind before) b) (omega arith) refl (λ start is. is ∙ ap place_behind (sym (append-nil start))) before refl

no_feed : (b n : ℕ) → cond (eqb b 10) 1 0 + n ≡ 0 → (eqb b 10 ≡ false) × (n ≡ 0)
no_feed b n h = elim (cases_Bool (eqb b 10)) [ inl t ↦ absurd (omega (arith, rw t at h)) | inr f ↦ (f, omega (arith, rw f at h)) ]

twice : (place : Place) (n : ℕ) → further (further place 1) n ≡ further place (suc n)
twice place n = let e : place.column + 1 + n ≡ place.column + suc n = omega arith in ap (λ (k : ℕ). record { line = place.line; column = k }) e

pub further-on : (bytes before : List ℕ) → count_by is_line_feed bytes ≡ 0 → place_behind (before ++ bytes) ≡ further (place_behind before) (length bytes)
further-on [] before h = ap place_behind (append-nil before) ∙ ap (λ (k : ℕ). record { line = (place_behind before).line; column = k }) (sym (add-zero (place_behind before).column))
further-on (b ∷ bs) before h =
    let o = no_feed b (count_by is_line_feed bs) (sym (feeds-cons b bs) ∙ h) in
    let one : place_behind (before ++ b ∷ []) ≡ further (place_behind before) 1 = sym (push before b) ∙ rw o.0 refl in
    ap place_behind (sym (append_assoc before (b ∷ []) bs)) ∙ further-on bs (before ++ b ∷ []) o.1 ∙ ap (λ (p : Place). further p (length bs)) one ∙ twice (place_behind before) (length bs)

-- two offsets on one line have columns that differ as they do
pub column-on : (text : List ℕ) (at to : ℕ) → at ≤ to → to ≤ length text → (place_at text at).line ≡ (place_at text to).line → (place_at text to).column ≡ (place_at text at).column + (to - at)
unfolding place_behind
column-on text at to order within same =
    let between = take (to - at) (drop at text) in
    let len : length between ≡ to - at = length-take-le (to - at) (drop at text) (omega (arith, length-drop at text)) in
    let split : take to text ≡ take at text ++ between = take-upto text at to order in
    let feeds : count_by is_line_feed (take to text) ≡ count_by is_line_feed (take at text) + count_by is_line_feed between =
    ap (count_by is_line_feed) split ∙ sum_by-append (λ b. cond (is_line_feed b) 1 0) (take at text) between in
    let on : place_behind (take at text ++ between) ≡ further (place_behind (take at text)) (length between) = further-on between (take at text) (omega (arith, feeds, same)) in
    ap (λ (xs : List ℕ). (place_behind xs).column) split ∙ ap (λ (p : Place). p.column) on ∙ ap (λ (n : ℕ). (place_at text at).column + n) len
  where
    take-upto : (xs : List ℕ) (at to : ℕ) → at ≤ to → take to xs ≡ take at xs ++ take (to - at) (drop at xs)
    take-upto xs at to h =
        let sum : to ≡ at + (to - at) = omega (arith, h) in
        let back : drop at (take to xs) ≡ take (to - at) (drop at xs) = ap (λ (n : ℕ). drop at (take n xs)) sum ∙ drop-take at (to - at) xs in
        sym (take-append-drop at (take to xs)) ∙ ap (λ (ys : List ℕ). ys ++ drop at (take to xs)) (take-take at to xs h) ∙ ap (λ (ys : List ℕ). take at xs ++ ys) back

pub place-is : (place : Place) (line column : ℕ) → line ≡ place.line → column ≡ place.column → record { line = line; column = column } ≡ place
place-is place line column l c = rw (l, c) refl
