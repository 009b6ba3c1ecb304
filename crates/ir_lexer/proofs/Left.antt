-- The tokens of a part that a loop has kept, and those that are left.
use Rattle.ir_lexer.proofs.Common.{◌≡◌, ℕ, ◌≤◌, List, [], ◌∷◌, ◌++◌, length, drop, map, Result, Ok, Err, refl, sym, ap, subst, ◌∙◌, arith, append_assoc, length-drop, append-nil, map-append, Mark, LexFault, NoToken, NoMemory, Fails, Stops, Lexeme, IsMark, lexeme_of, mark_of, Position, tokens_left, bytes_before, IsWithin, IsToken, Reads, Spot, with_front}
use Rattle.std.proofs.lemmas.List.Elements.{All-nil, All-push}
use Rattle.ir_lexer.proofs.Kept.{Bounds, bounds, lexeme-mark, is_mark}
use Rattle.ir_lexer.proofs.Next.{left-token, left-nil, reads-next}
use Rattle.ir_lexer.specs.Part.{IsPart}
use Rattle.ir_lexer.specs.Position.{behind}

pub front-front : (xs ys : List Lexeme) (r : Result (List Lexeme) Spot) → with_front xs (with_front ys r) ≡ with_front (xs ++ ys) r
front-front xs ys (Ok zs) = rw append_assoc refl
front-front xs ys (Err spot) = refl

front-nil : (r : Result (List Lexeme) Spot) → with_front [] r ≡ r
front-nil (Ok tokens) = refl
front-nil (Err spot) = refl

pub begins : (start : Position) → IsPart start [] start
begins start = record { same = refl; each = All-nil (IsMark start.text); whole = front-nil (tokens_left start) }

pub one_more : (start old new : Position) (marks : List Mark) (t : Lexeme) → IsWithin old → IsToken old t new → IsPart start marks old → IsPart start (marks ++ mark_of t ∷ []) new
one_more start old new marks t within found left =
    let text = start.text in
    let fits : Bounds text t = subst (λ (xs : List ℕ). Bounds xs t) left.same (bounds old t new within found) in
    let front : map (lexeme_of text) (marks ++ mark_of t ∷ []) ≡ map (lexeme_of text) marks ++ t ∷ [] =
    map-append (lexeme_of text) marks (mark_of t ∷ []) ∙ ap (λ (u : Lexeme). map (lexeme_of text) marks ++ u ∷ []) (lexeme-mark text t fits) in
    record {
      same = ap (λ (p : Position). p.text) found.after ∙ left.same;
      each = All-push (IsMark text) marks (mark_of t) left.each (is_mark text t fits);
      whole = ap (λ (xs : List Lexeme). with_front xs (tokens_left new)) front ∙ sym (front-front (map (lexeme_of text) marks) (t ∷ []) (tokens_left new))
          ∙ ap (with_front (map (lexeme_of text) marks)) (sym (left-token old t new found)) ∙ left.whole;
    }

pub is_done : (start p : Position) (marks : List Mark) → p.rest ≡ [] → IsPart start marks p → tokens_left start ≡ Ok (map (lexeme_of start.text) marks)
is_done start p marks none left =
    sym left.whole ∙ ap (with_front (map (lexeme_of start.text) marks)) (left-nil p none) ∙ ap (λ (xs : List Lexeme). Ok xs) (append-nil (map (lexeme_of start.text) marks))

stops-fails : (front : List Lexeme) (left whole : Result (List Lexeme) Spot) (fault : LexFault) → with_front front left ≡ whole → Stops left fault → Fails fault whole
stops-fails front left whole (NoToken at place) so_far is = sym so_far ∙ ap (with_front front) is
stops-fails front left whole NoMemory so_far is = tt

pub fails : (start p new : Position) (marks : List Mark) (fault : LexFault) → Reads p (Err fault) new → IsPart start marks p → Fails fault (tokens_left start)
fails start p new marks fault reads left =
    stops-fails (map (lexeme_of start.text) marks) (tokens_left p) (tokens_left start) fault left.whole (reads-next p (Err fault) new reads).0

-- a position is that of its offset
pub at-offset : (start p : Position) → p.text ≡ start.text → IsWithin p → p ≡ behind start (bytes_before p)
at-offset start p same within = rw (← same, within) refl

-- the end of a text
pub none-left : (start : Position) (n : ℕ) → length start.text ≤ n → (behind start n).rest ≡ []
none-left start n h = by (drop n start.text) (omega (arith, h, length-drop n start.text))
  where
    by : (rest : List ℕ) → length rest ≤ 0 → rest ≡ []
    by [] h = refl
    by (b ∷ bs) h = absurd (omega (arith, h))

-- a part ends at an offset
pub ends : (start p : Position) (marks : List Mark) (n : ℕ) → n ≡ bytes_before p → IsWithin p → IsPart start marks p → IsPart start marks (behind start n)
ends start p marks n is within part = subst (λ (q : Position). IsPart start marks q) (at-offset start p part.same within ∙ ap (behind start) (sym is)) part
