-- What is left of a run of name bytes after a token.
use Rattle.ir_lexer.proofs.Common.{◌≡◌, ℕ, zero, suc, ◌-◌, ◌<◌, ◌≤◌, true, false, eqb, List, [], ◌∷◌, drop, refl, sym, ap, ◌∙◌, inl, inr, arith, cases_Bool, is_name_byte, is_blank, name_run, behind_blanks}
use Rattle.std.proofs.lemmas.Bool.Decides.{nat_tests}
use Rattle.ir_lexer.proofs.Behind.{run-cons}

name_byte_stays : (c : ℕ) → is_name_byte c ≡ true → (is_blank c ≡ false) × (eqb c 59 ≡ false)
name_byte_stays c h = grind (arith, nat_tests)

stays : (xs : List ℕ) → 0 < name_run xs → behind_blanks false xs ≡ xs
stays [] h = absurd (omega arith)
stays (c ∷ cs) h =
    elim (cases_Bool (is_name_byte c)) [
      | inl t ↦ let o = name_byte_stays c t in rw (o.0, o.1) refl
      | inr other ↦ let e : name_run (c ∷ cs) ≡ 0 = run-cons is_name_byte c cs ∙ rw other refl in absurd (omega (arith, e))
    ]

run-drop : (len : ℕ) (xs : List ℕ) → len ≤ name_run xs → name_run (drop len xs) ≡ name_run xs - len
run-drop zero xs h = omega arith
run-drop (suc len) [] h = absurd (omega arith)
run-drop (suc len) (c ∷ cs) h =
    elim (cases_Bool (is_name_byte c)) [
      | inl t ↦ let e : name_run (c ∷ cs) ≡ suc (name_run cs) = run-cons is_name_byte c cs ∙ rw t refl in omega (arith, e, run-drop len cs (omega (arith, e)))
      | inr other ↦ let e : name_run (c ∷ cs) ≡ 0 = run-cons is_name_byte c cs ∙ rw other refl in absurd (omega (arith, e))
    ]

-- what is left of the run after a token is the run of what follows it
pub run_left : (len : ℕ) (rest next : List ℕ) → next ≡ behind_blanks false (drop len rest) → 0 < name_run rest - len → name_run rest - len ≡ name_run next
run_left len rest next is left =
    let e : name_run (drop len rest) ≡ name_run rest - len = run-drop len rest (omega arith) in
    sym e ∙ ap name_run (sym (is ∙ stays (drop len rest) (omega (arith, e))))
