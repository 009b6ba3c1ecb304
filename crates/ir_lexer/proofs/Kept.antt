-- What is kept of a token denotes it again.
use Rattle.ir_lexer.proofs.Common.{◌≡◌, ℕ, ◌+◌, ◌-◌, ◌≤◌, List, length, take, drop, refl, sym, ap, ◌∙◌, arith, length-take, length-drop, Place, place_at, line-within, Lexeme, IsMark, lexeme_of, mark_of, Position, bytes_before, IsWithin, IsToken}
use Rattle.ir_lexer.proofs.Fuel.{found-bounds}

-- the token is of these bytes of the text
pub record Bounds (text : List ℕ) (t : Lexeme) : Type 0 where
  pub within : t.at + length t.text ≤ length text
  pub line : t.place.line ≤ length text
  pub bytes : take (length t.text) (drop t.at text) ≡ t.text
  pub place : t.place ≡ place_at text t.at

pub bounds : (old : Position) (t : Lexeme) (new : Position) → IsWithin old → IsToken old t new → Bounds old.text t
bounds old t new within h =
    let found = found-bounds old.rest (t.kind, h.len) h.found in
    let len : length t.text ≡ h.len = ap length h.text ∙ omega (arith, length-take h.len old.rest, found.1) in
    let place : t.place ≡ place_at old.text t.at = h.place ∙ ap (place_at old.text) (sym h.at) in
    let rest : length old.rest ≡ length old.text - bytes_before old = ap length (sym within) ∙ length-drop (bytes_before old) old.text in
    let room : bytes_before old + h.len ≤ length old.text = omega (arith, rest, found.0, found.1) in
    let line : t.place.line ≤ length (take t.at old.text) + 1 = rw place (line-within (take t.at old.text)) in
    record {
      within = omega (arith, len, room, h.at);
      line = omega (arith, line, length-take t.at old.text, room, h.at, found.0);
      bytes = ap (λ (n : ℕ). take n (drop t.at old.text)) len ∙ ap (λ (n : ℕ). take h.len (drop n old.text)) h.at ∙ ap (take h.len) within ∙ sym h.text;
      place = place;
    }

pub lexeme-mark : (text : List ℕ) (t : Lexeme) → Bounds text t → lexeme_of text (mark_of t) ≡ t
lexeme-mark text t b = rw (b.bytes, ← b.place) refl

pub is_mark : (text : List ℕ) (t : Lexeme) → Bounds text t → IsMark text (mark_of t)
is_mark text t b = record { within = b.within; line_is = ap (λ (p : Place). p.line) b.place }
