-- More steps than there are bytes left find no other tokens.
use Rattle.ir_lexer.proofs.Common.{◌≡◌, ℕ, zero, suc, ◌-◌, ◌<◌, ◌≤◌, false, List, [], ◌∷◌, length, take, drop, Option, Some, None, Result, refl, ap, subst, arith, IfSome, length-drop, place_at, Kind, Lexeme, longest_token, behind_blanks, Spot, with_front, with_token, tokens_of}
use Rattle.ir_lexer.proofs.Behind.{blanks-within}
use Rattle.ir_lexer.proofs.Longest.{longest-bounds}

-- what a token found is worth: at least one byte, and none that isn't there
pub found-bounds : (rest : List ℕ) (found : Kind × ℕ) → longest_token rest ≡ Some found → (0 < found.1) × (found.1 ≤ length rest)
found-bounds rest found is = subst (λ (o : Option (Kind × ℕ)). IfSome o (λ found. (0 < found.1) × (found.1 ≤ length rest))) is (longest-bounds rest)

-- fewer bytes are left after a token
pub after-shorter : (rest : List ℕ) (found : Kind × ℕ) → longest_token rest ≡ Some found → length (behind_blanks false (drop found.1 rest)) < length rest
after-shorter rest found is =
    let bounds = found-bounds rest found is in
    omega (arith, bounds.0, bounds.1, blanks-within (drop found.1 rest), length-drop found.1 rest)

same_behind : (text rest : List ℕ) (f g : List ℕ → Result (List Lexeme) Spot)
    → ((next : List ℕ) → length next < length rest → f next ≡ g next) → (o : Option (Kind × ℕ)) → longest_token rest ≡ o
    → with_token text (length text - length rest) rest o (λ len. f (behind_blanks false (drop len rest)))
    ≡ with_token text (length text - length rest) rest o (λ len. g (behind_blanks false (drop len rest)))
same_behind text rest f g same None is = refl
same_behind text rest f g same (Some found) is = ap (with_front (record { kind = found.0; text = take found.1 rest; at = length text - length rest; place = place_at text (length text - length rest) } ∷ [])) (same (behind_blanks false (drop found.1 rest)) (after-shorter rest found is))

pub steps-enough : (text : List ℕ) (n m : ℕ) (rest : List ℕ) → length rest ≤ n → length rest ≤ m → tokens_of text n rest ≡ tokens_of text m rest
unfolding tokens_of
steps-enough text zero zero rest a b = refl
steps-enough text zero (suc m) [] a b = refl
steps-enough text zero (suc m) (c ∷ cs) a b = absurd (omega arith)
steps-enough text (suc n) zero [] a b = refl
steps-enough text (suc n) zero (c ∷ cs) a b = absurd (omega arith)
steps-enough text (suc n) (suc m) [] a b = refl
steps-enough text (suc n) (suc m) (c ∷ cs) a b =
    same_behind text (c ∷ cs) (tokens_of text n) (tokens_of text m) (λ next less. steps-enough text n m next (omega (arith, less)) (omega (arith, less))) (longest_token (c ∷ cs)) refl
