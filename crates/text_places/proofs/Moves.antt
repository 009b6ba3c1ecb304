-- A position, one byte after another.
use Rattle.std.proofs.Common.{◌≡◌, ℕ, ◌+◌, ◌<◌, ◌≤◌, Bool, cond, not, eqb, List, [], ◌∷◌, ◌++◌, length, reverse, take, get_or, refl, sym, ap, ◌∙◌, arith, append_assoc, add_comm, add-zero, inl, inr}
use Rattle.std.specs.List.{suffix_len, prefix_len}
use Rattle.std.proofs.lemmas.Bool.{cases_Bool}
use Rattle.std.proofs.lemmas.List.{reverse-append, length-reverse, take_more}
use Rattle.std.proofs.lemmas.List.Sums.{sum_by_push, count_by-le-length, prefix_len-le-length}
use Rattle.text_places.specs.declared.place.Place.{Place}
use Rattle.text_places.specs.Place.{is_line_feed, place_behind}

suffix-push : (p : ℕ → Bool) (xs : List ℕ) (b : ℕ) → suffix_len p (xs ++ b ∷ []) ≡ cond (p b) (1 + suffix_len p xs) 0
suffix-push p xs b = ap (prefix_len p) (reverse-append xs (b ∷ []))

-- the position after one more byte
abbrev pub moved : Place → ℕ → Place
moved place b = cond (eqb b 10) (record { line = place.line + 1; column = 1 }) (record { line = place.line; column = place.column + 1 })

place_behind-push : (before : List ℕ) (b : ℕ) → moved (place_behind before) b ≡ place_behind (before ++ b ∷ [])
unfolding place_behind
place_behind-push before b =
    rw (sum_by_push (λ x. cond (is_line_feed x) 1 0) before b, suffix-push (λ x. not (is_line_feed x)) before b) (elim (cases_Bool (eqb b 10)) [
      | inl feed ↦ rw feed refl
      | inr other ↦ rw (other, add-zero, add_comm 1 (suffix_len (λ x. not (is_line_feed x)) before)) refl
    ])

pub one_more : (start : Place) (bytes : List ℕ) (i : ℕ) (here next : Place) → i < length bytes → next ≡ moved here (get_or bytes i 0)
    → ((before : List ℕ) → start ≡ place_behind before → here ≡ place_behind (before ++ take i bytes))
    → (before : List ℕ) → start ≡ place_behind before → next ≡ place_behind (before ++ take (i + 1) bytes)
one_more start bytes i here next within step so_far before is =
    step ∙ ap (λ (p : Place). moved p (get_or bytes i 0)) (so_far before is) ∙ place_behind-push (before ++ take i bytes) (get_or bytes i 0)
    ∙ ap place_behind (append_assoc before (take i bytes) (get_or bytes i 0 ∷ []) ∙ ap (λ (xs : List ℕ). before ++ xs) (sym (take_more bytes i 0 within)))

-- a position is no further than the bytes before it reach
pub line-within : (before : List ℕ) → (place_behind before).line ≤ length before + 1
unfolding place_behind
line-within before = omega (arith, count_by-le-length is_line_feed before)

pub column-within : (before : List ℕ) → (place_behind before).column ≤ length before + 1
unfolding place_behind
column-within before = omega (arith, prefix_len-le-length (λ x. not (is_line_feed x)) (reverse before), length-reverse before)
