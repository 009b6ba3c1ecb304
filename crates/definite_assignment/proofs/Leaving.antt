-- The names that leave a block, one after another.
use Rattle.definite_assignment.proofs.Common.{ℕ, ◌≡◌, ◌<◌, ◌⊎◌, inl, inr, Bool, true, false, List, [], ◌∷◌, ◌++◌, length, get_or, set, ap, sym, ◌∙◌, arith, length-set, IsTrue, Contains, get_or-set_same, get_or-set_other, Contains-push, Contains-push_cases, Contains-append_left, cases_eq, has_name, IsLeaving}

pub leaving_none : (s t : List Bool) → t ≡ s → IsLeaving s [] t
leaving_none s t e =
    record { places = ap length e; names = λ name. (λ h. inl (ap (λ x. has_name x name) (sym e) ∙ h), λ h. ap (λ x. has_name x name) e ∙ back name h) }
  where
    back : (name : ℕ) → IsTrue (has_name s name) ⊎ Contains [] name → IsTrue (has_name s name)
    back name (inl h) = h
    back name (inr c) = absurd (omega (arith, c.1))

pub leaving_more : (s : List Bool) (assigned : List ℕ) (t : List Bool) (name : ℕ) → IsLeaving s assigned t → name < length t → IsLeaving s (assigned ++ name ∷ []) (set t name true)
leaving_more s assigned t name leaves below =
    record { places = length-set t name true ∙ leaves.places; names = λ n. (λ h. there n (cases_eq n name) h, λ h. back n (cases_eq n name) h) }
  where
    wider : (n : ℕ) → IsTrue (has_name s n) ⊎ Contains assigned n → IsTrue (has_name s n) ⊎ Contains (assigned ++ name ∷ []) n
    wider n (inl h) = inl h
    wider n (inr c) = inr (Contains-append_left assigned (name ∷ []) n c)

    there : (n : ℕ) → (n ≡ name) ⊎ (n ≡ name → ⊥) → IsTrue (has_name (set t name true) n) → IsTrue (has_name s n) ⊎ Contains (assigned ++ name ∷ []) n
    there n (inl e) h = inr (rw e (Contains-push assigned name))
    there n (inr away) h = wider n ((leaves.names n).0 (sym (get_or-set_other t name n true false away) ∙ h))

    back : (n : ℕ) → (n ≡ name) ⊎ (n ≡ name → ⊥) → IsTrue (has_name s n) ⊎ Contains (assigned ++ name ∷ []) n → IsTrue (has_name (set t name true) n)
    back n (inl e) h = ap (λ m. get_or (set t name true) m false) e ∙ get_or-set_same t name true false below
    back n (inr away) (inl h) = get_or-set_other t name n true false away ∙ (leaves.names n).1 (inl h)
    back n (inr away) (inr c) = found (Contains-push_cases assigned name n c)
      where
        found : Contains assigned n ⊎ (name ≡ n) → IsTrue (has_name (set t name true) n)
        found (inl d) = get_or-set_other t name n true false away ∙ (leaves.names n).1 (inr d)
        found (inr e) = absurd (away (sym e))
