-- Blanks and comments, one byte after another.
use Rattle.ir_lexer.proofs.Common.{◌≡◌, ℕ, ◌+◌, ◌<◌, Bool, true, false, not, eqb, List, [], ◌∷◌, ◌++◌, length, take, drop, get_or, refl, sym, ap, ◌∙◌, append_assoc, is_blank, behind_blanks, Place, place_behind}
use Rattle.std.proofs.lemmas.List.{take_more, drop_more}
use Rattle.text_places.proofs.Moves.{moved}
use Rattle.ir_lexer.proofs.Lines.{push}

-- the position after one more byte
pub one_more : (text before : List ℕ) (i : ℕ) (here next : Place) → i < length text → next ≡ moved here (get_or text i 0) → here ≡ place_behind (before ++ take i text) → next ≡ place_behind (before ++ take (i + 1) text)
one_more text before i here next lt step is =
    step ∙ ap (λ (p : Place). moved p (get_or text i 0)) is ∙ push (before ++ take i text) (get_or text i 0)
    ∙ ap place_behind (append_assoc before (take i text) (get_or text i 0 ∷ []) ∙ ap (λ (xs : List ℕ). before ++ xs) (sym (take_more text i 0 lt)))

-- a comment goes on
pub in-comment : (text : List ℕ) (i : ℕ) → i < length text → eqb (get_or text i 0) 10 ≡ false → behind_blanks true (drop (i + 1) text) ≡ behind_blanks true (drop i text)
in-comment text i lt other = sym (ap (behind_blanks true) (drop_more text i 0 lt) ∙ ap (λ (t : Bool). behind_blanks (not t) (drop (i + 1) text)) other)

-- it ends
pub ends-comment : (text : List ℕ) (i : ℕ) → i < length text → eqb (get_or text i 0) 10 ≡ true → behind_blanks false (drop (i + 1) text) ≡ behind_blanks true (drop i text)
ends-comment text i lt feed = sym (ap (behind_blanks true) (drop_more text i 0 lt) ∙ ap (λ (t : Bool). behind_blanks (not t) (drop (i + 1) text)) feed)

-- a blank
pub at-blank : (text : List ℕ) (i : ℕ) → i < length text → is_blank (get_or text i 0) ≡ true → behind_blanks false (drop (i + 1) text) ≡ behind_blanks false (drop i text)
at-blank text i lt blank = sym (ap (behind_blanks false) (drop_more text i 0 lt) ∙ rw blank refl)

-- a comment begins
pub at-comment : (text : List ℕ) (i : ℕ) → i < length text → get_or text i 0 ≡ 59 → behind_blanks true (drop i text) ≡ behind_blanks false (drop i text)
at-comment text i lt is = ap (behind_blanks true) (drop_more text i 0 lt) ∙ rw is refl ∙ sym (ap (behind_blanks false) (drop_more text i 0 lt))

-- neither
pub at-token : (text : List ℕ) (i : ℕ) → i < length text → is_blank (get_or text i 0) ≡ false → eqb (get_or text i 0) 59 ≡ false → behind_blanks false (drop i text) ≡ drop i text
at-token text i lt blank comment = ap (behind_blanks false) (drop_more text i 0 lt) ∙ rw (blank, comment) refl ∙ sym (drop_more text i 0 lt)
