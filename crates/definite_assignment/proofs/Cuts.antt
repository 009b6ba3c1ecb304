-- Words cut one after another.
use Rattle.definite_assignment.proofs.Common.{ℕ, ◌+◌, ◌≡◌, ◌≢◌, ◌<◌, ◌≤◌, ◌⊎◌, inl, inr, Bool, true, false, ◌||◌, List, length, get_or, set, refl, ap, sym, ◌∙◌, arith, bit_and, get_or-set_same, get_or-set_other, set-get_or, cases_eq, cases_Bool, or_parts, or_cases}

-- the first i words are cut, the others as they were, and it is known whether one changed
pub record AreCut (old others new : List ℕ) (i : ℕ) (changed : Bool) : Type 0 where
  pub cut : (k : ℕ) → k < i → get_or new k 0 ≡ bit_and (get_or old k 0) (get_or others k 0)
  pub rest : (k : ℕ) → i ≤ k → get_or new k 0 ≡ get_or old k 0
  pub same : changed ≡ false → new ≡ old
  pub differ : changed ≡ true → (k : ℕ) × (k < i) × (get_or new k 0 ≢ get_or old k 0)

pub cut_none : (old others : List ℕ) → AreCut old others old 0 false
cut_none old others = record { cut = λ k below. absurd (omega (arith, below)); rest = λ k above. refl; same = λ e. refl; differ = λ e. cc }

pub cut_more : (old others new : List ℕ) (i : ℕ) (changed test : Bool) (word : ℕ) → i < length new → word ≡ bit_and (get_or new i 0) (get_or others i 0)
    → (test ≡ false → word ≡ get_or new i 0) → (test ≡ true → word ≡ get_or new i 0 → ⊥)
    → AreCut old others new i changed → AreCut old others (set new i word) (i + 1) (changed || test)
cut_more old others new i changed test word below is still moved done =
    record {
      cut = λ k less. at k less (cases_eq k i);
      rest = λ k above. get_or-set_other new i k word 0 (λ e. omega (arith, above, e)) ∙ done.rest k (omega (arith, above));
      same = λ e. let parts = or_parts changed test e in ap (λ w. set new i w) (still parts.1) ∙ set-get_or new i 0 ∙ done.same parts.0;
      differ = λ e. differs (cases_Bool test) (or_cases changed test e);
    }
  where
    at : (k : ℕ) → k < i + 1 → (k ≡ i) ⊎ (k ≡ i → ⊥) → get_or (set new i word) k 0 ≡ bit_and (get_or old k 0) (get_or others k 0)
    at k less (inl e) = rw e (get_or-set_same new i word 0 below ∙ is ∙ ap (λ w. bit_and w (get_or others i 0)) (done.rest i (omega arith)))
    at k less (inr away) = get_or-set_other new i k word 0 away ∙ done.cut k (omega (arith, less, away))

    here : test ≡ true → (k : ℕ) × (k < i + 1) × (get_or (set new i word) k 0 ≢ get_or old k 0)
    here t = (i, omega arith, λ e. moved t (sym (get_or-set_same new i word 0 below) ∙ e ∙ sym (done.rest i (omega arith))))

    differs : (test ≡ true) ⊎ (test ≡ false) → (changed ≡ true) ⊎ (test ≡ true) → (k : ℕ) × (k < i + 1) × (get_or (set new i word) k 0 ≢ get_or old k 0)
    differs (inl t) _ = here t
    differs (inr f) (inr t) = here t
    differs (inr f) (inl c) =
        let found : (k : ℕ) × (k < i) × (get_or new k 0 ≢ get_or old k 0) = done.differ c in
        (found.0, omega (arith, found.1), λ e. found.2 (sym (get_or-set_other new i found.0 word 0 (λ same. omega (arith, same, found.1))) ∙ e))
