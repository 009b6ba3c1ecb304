-- What is read at a position is the next of the tokens that are left.
use Rattle.ir_lexer.proofs.Common.{◌≡◌, ℕ, ◌-◌, ◌<◌, false, List, [], ◌∷◌, length, take, drop, Option, Some, None, Result, Ok, Err, refl, sym, ap, ◌∙◌, arith, Place, place_at, Kind, LexFault, NoToken, NoMemory, Lexeme, longest_token, behind_blanks, Spot, with_front, with_token, tokens_of, lexed, IsNext, Position, start_of, tokens_left, bytes_before, IsToken, Reads}
use Rattle.ir_lexer.proofs.Behind.{blanks-within}
use Rattle.ir_lexer.proofs.Fuel.{steps-enough, found-bounds, after-shorter}

pub lexeme_is : (t : Lexeme) (kind : Kind) (text : List ℕ) (at : ℕ) (place : Place) → t.kind ≡ kind → t.text ≡ text → t.at ≡ at → t.place ≡ place → record { kind = kind; text = text; at = at; place = place } ≡ t
lexeme_is t kind text at place k x a p = rw (← k, ← x, ← a, ← p) refl

-- the tokens of what is left, where one was found at its start
left-found : (text rest : List ℕ) (found : Kind × ℕ) → longest_token rest ≡ Some found
    → tokens_of text (length rest) rest ≡ with_front (record { kind = found.0; text = take found.1 rest; at = length text - length rest; place = place_at text (length text - length rest) } ∷ [])
    (tokens_of text (length (behind_blanks false (drop found.1 rest))) (behind_blanks false (drop found.1 rest)))
unfolding tokens_of
left-found text [] found is = let bounds = found-bounds [] found is in absurd (omega (arith, bounds.0, bounds.1))
left-found text (b ∷ bs) found is =
    let behind : ℕ → Result (List Lexeme) Spot = λ len. tokens_of text (length bs) (behind_blanks false (drop len (b ∷ bs))) in
    ap (λ (o : Option (Kind × ℕ)). with_token text (length text - length (b ∷ bs)) (b ∷ bs) o behind) is
    ∙ ap (with_front (record { kind = found.0; text = take found.1 (b ∷ bs); at = length text - length (b ∷ bs); place = place_at text (length text - length (b ∷ bs)) } ∷ [])) (steps-enough text (length bs) (length (behind_blanks false (drop found.1 (b ∷ bs)))) (behind_blanks false (drop found.1 (b ∷ bs))) (omega (arith, after-shorter (b ∷ bs) found is)) (omega arith))

pub left-token : (old : Position) (t : Lexeme) (new : Position) → IsToken old t new → tokens_left old ≡ with_front (t ∷ []) (tokens_left new)
left-token old t new h =
    left-found old.text old.rest (t.kind, h.len) h.found
    ∙ ap (λ (u : Lexeme). with_front (u ∷ []) (tokens_left (record { text = old.text; rest = behind_blanks false (drop h.len old.rest) }))) (lexeme_is t t.kind _ _ _ refl h.text h.at h.place)
    ∙ ap (λ (p : Position). with_front (t ∷ []) (tokens_left p)) (sym h.after)

left-none : (text rest : List ℕ) → 0 < length rest → longest_token rest ≡ None
    → tokens_of text (length rest) rest ≡ Err (record { at = length text - length rest; place = place_at text (length text - length rest) })
unfolding tokens_of
left-none text [] some is = absurd (omega arith)
left-none text (b ∷ bs) some is =
    ap (λ (o : Option (Kind × ℕ)). with_token text (length text - length (b ∷ bs)) (b ∷ bs) o (λ len. tokens_of text (length bs) (behind_blanks false (drop len (b ∷ bs))))) is

pub left-nil : (p : Position) → p.rest ≡ [] → tokens_left p ≡ Ok []
unfolding tokens_of
left-nil p none = ap (λ (rest : List ℕ). tokens_of p.text (length rest) rest) none

pub reads-next : (old : Position) (r : Result (Option Lexeme) LexFault) (new : Position) → Reads old r new → IsNext (tokens_left old) r (tokens_left new)
reads-next old (Ok None) new h = (left-nil old h.0, ap tokens_left h.1 ∙ left-nil old h.0)
reads-next old (Ok (Some t)) new h = left-token old t new h
reads-next old (Err (NoToken at place)) new h = (
  left-none old.text old.rest h.0.0 h.0.1 ∙ ap (λ (n : ℕ). Err (record { at = n; place = place_at old.text (bytes_before old) })) (sym h.0.2)
      ∙ ap (λ (p : Place). Err (record { at = at; place = p })) (sym h.0.3),
  ap tokens_left h.1,
)
reads-next old (Err NoMemory) new h = absurd h.0

-- all of a text's tokens are left before the first
pub left-start : (text : List ℕ) → tokens_left (start_of text) ≡ lexed text
left-start text = steps-enough text (length (behind_blanks false text)) (length text) (behind_blanks false text) (omega arith) (blanks-within text)
