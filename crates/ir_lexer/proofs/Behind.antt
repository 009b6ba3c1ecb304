-- What follows the bytes that pass.
use Rattle.ir_lexer.proofs.Common.{◌≡◌, ℕ, suc, ◌-◌, ◌≤◌, Bool, true, false, cond, not, eqb, List, [], ◌∷◌, length, drop, take_while, refl, ap, ◌∙◌, inl, inr, arith, cases_Bool, length-drop, is_blank, behind, behind_blanks}
use Rattle.std.proofs.lemmas.List.Sums.{take_while-cons}

-- how far a test passes
abbrev pub run : (ℕ → Bool) → List ℕ → ℕ
run p xs = length (take_while p xs)

pub run-cons : (p : ℕ → Bool) (x : ℕ) (xs : List ℕ) → run p (x ∷ xs) ≡ cond (p x) (suc (run p xs)) 0
run-cons p x xs =
    elim (cases_Bool (p x)) [
      | inl t ↦ ap length (take_while-cons p x xs) ∙ rw t refl
      | inr f ↦ ap length (take_while-cons p x xs) ∙ rw f refl
    ]

pub drop-run : (p : ℕ → Bool) (xs : List ℕ) → drop (length (take_while p xs)) xs ≡ behind p xs
drop-run p [] = refl
drop-run p (x ∷ xs) =
    elim (cases_Bool (p x)) [
      | inl t ↦ let e : run p (x ∷ xs) ≡ suc (run p xs) = run-cons p x xs ∙ rw t refl in
          let d : drop (run p (x ∷ xs)) (x ∷ xs) ≡ drop (suc (run p xs)) (x ∷ xs) = ap (λ (n : ℕ). drop n (x ∷ xs)) e in
          d ∙ drop-run p xs ∙ rw t refl
      | inr f ↦ let e : run p (x ∷ xs) ≡ 0 = run-cons p x xs ∙ rw f refl in
          let d : drop (run p (x ∷ xs)) (x ∷ xs) ≡ drop 0 (x ∷ xs) = ap (λ (n : ℕ). drop n (x ∷ xs)) e in
          d ∙ rw f refl
    ]

pub run-le : (p : ℕ → Bool) (xs : List ℕ) → length (take_while p xs) ≤ length xs
run-le p [] = omega arith
run-le p (x ∷ xs) =
    elim (cases_Bool (p x)) [
      | inl t ↦ let e : run p (x ∷ xs) ≡ suc (run p xs) = run-cons p x xs ∙ rw t refl in omega (arith, e, run-le p xs)
      | inr f ↦ let e : run p (x ∷ xs) ≡ 0 = run-cons p x xs ∙ rw f refl in omega (arith, e)
    ]

pub ruleset runs = (drop-run, run-le)

blanks-suffix : (inside : Bool) (xs : List ℕ) → (n : ℕ) × (n ≤ length xs) × (drop n xs ≡ behind_blanks inside xs)
blanks-suffix inside [] = (0, omega arith, refl)
blanks-suffix true (b ∷ bs) = let r = blanks-suffix (not (eqb b 10)) bs in (suc r.0, omega (arith, r.1), r.2)
blanks-suffix false (b ∷ bs) =
    elim (cases_Bool (is_blank b)) [
      | inl t ↦ let r = blanks-suffix false bs in (suc r.0, omega (arith, r.1), r.2 ∙ rw t refl)
      | inr f ↦ elim (cases_Bool (eqb b 59)) [
        | inl t ↦ let r = blanks-suffix true bs in (suc r.0, omega (arith, r.1), r.2 ∙ rw (f, t) refl)
        | inr other ↦ (0, omega arith, rw (f, other) refl)
      ]
    ]

pub blanks-within : (xs : List ℕ) → length (behind_blanks false xs) ≤ length xs
blanks-within xs = let r = blanks-suffix false xs in omega (arith, ap length r.2, length-drop r.0 xs)

pub drop-blanks : (xs : List ℕ) → drop (length xs - length (behind_blanks false xs)) xs ≡ behind_blanks false xs
drop-blanks xs =
    let r = blanks-suffix false xs in
    let n : length xs - length (behind_blanks false xs) ≡ r.0 = omega (arith, ap length r.2, length-drop r.0 xs, r.1) in
    let d : drop (length xs - length (behind_blanks false xs)) xs ≡ drop r.0 xs = ap (λ (k : ℕ). drop k xs) n in
    d ∙ r.2

pub ruleset blanks = (drop-blanks)
