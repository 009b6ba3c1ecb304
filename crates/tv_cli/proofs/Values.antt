-- The values that uses give an argument, in order.
use Rattle.tv_cli.proofs.Common.{◌≡◌, ◌++◌, ◌||◌, Bool, true, false, true≢false, cond, refl, sym, ap, subst, ◌∙◌, List, [], ◌∷◌, Option, Some, None, append_assoc, append-nil, bytes_eq, bytes_eq-Decides, first_of, Range, Text, Part, number_once, text_once, option, flag, name, number_or_usual, one_of}
use Rattle.clap.specs.Takes.{is_given}
use Rattle.tv_cli.proofs.Uses.{Use, flag_value, has, rows_of_uses}
use Rattle.tv_cli.proofs.Arguments.{same}

abbrev pub used_values : Text → List Use → List Text
used_values id [] = []
used_values id (u ∷ us) = cond (bytes_eq u.0 id) (u.1 ∷ used_values id us) (used_values id us)

abbrev pub some_value : List Text → Bool
some_value [] = false
some_value (v ∷ vs) = true

abbrev pub head_value : List Text → Option Text
head_value [] = None
head_value (v ∷ vs) = Some v

pub has-values : (id : Text) (us : List Use) → has id us ≡ some_value (used_values id us)
has-values id [] = refl
has-values id (u ∷ us) = go (bytes_eq u.0 id) (has-values id us)
  where
    go : (b : Bool) → has id us ≡ some_value (used_values id us)
        → (b || has id us) ≡ some_value (cond b (u.1 ∷ used_values id us) (used_values id us))
    go true e = refl
    go false e = e

pub first_of-uses : (id : Text) (us : List Use)
    → first_of id (rows_of_uses us) ≡ head_value (used_values id us)
first_of-uses id [] = refl
first_of-uses id (u ∷ us) = go (bytes_eq u.0 id) refl (first_of-uses id us)
  where
    go : (b : Bool) → bytes_eq u.0 id ≡ b
        → first_of id (rows_of_uses us) ≡ head_value (used_values id us)
        → first_of id (rows_of_uses (u ∷ us)) ≡ head_value (used_values id (u ∷ us))
    go true e rest = rw e refl
    go false e rest = rw e rest

pub one_of-uses : (id : Text) (us : List Use)
    → one_of id (rows_of_uses us) ≡ head_value (used_values id us)
one_of-uses id [] = refl
one_of-uses id (u ∷ us) = go (bytes_eq u.0 id) refl (one_of-uses id us)
  where
    go : (b : Bool) → bytes_eq u.0 id ≡ b
        → one_of id (rows_of_uses us) ≡ head_value (used_values id us)
        → one_of id (rows_of_uses (u ∷ us)) ≡ head_value (used_values id (u ∷ us))
    go true e rest = rw e refl
    go false e rest = rw e rest

pub given-uses : (id : Text) (us : List Use) → is_given id (rows_of_uses us) ≡ has id us
given-uses id [] = refl
given-uses id (u ∷ us) = go (bytes_eq u.0 id) refl (given-uses id us)
  where
    go : (b : Bool) → bytes_eq u.0 id ≡ b → is_given id (rows_of_uses us) ≡ has id us
        → is_given id (rows_of_uses (u ∷ us)) ≡ has id (u ∷ us)
    go true e rest = rw e refl
    go false e rest = rw e rest

pub used_values-end : (id : Text) (us : List Use) (u : Use)
    → used_values id (us ++ u ∷ []) ≡ used_values id us ++ cond (bytes_eq u.0 id) (u.1 ∷ []) []
used_values-end id [] u = go (bytes_eq u.0 id)
  where
    go : (b : Bool) → cond b (u.1 ∷ []) [] ≡ cond b (u.1 ∷ []) []
    go b = refl
used_values-end id (x ∷ us) u = go (bytes_eq x.0 id) (used_values-end id us u)
  where
    go : (b : Bool)
        → used_values id (us ++ u ∷ []) ≡ used_values id us ++ cond (bytes_eq u.0 id) (u.1 ∷ []) []
        → cond b (x.1 ∷ used_values id (us ++ u ∷ [])) (used_values id (us ++ u ∷ []))
        ≡ cond b (x.1 ∷ used_values id us) (used_values id us) ++ cond (bytes_eq u.0 id) (u.1 ∷ []) []
    go true e = ap (λ vs. x.1 ∷ vs) e
    go false e = e

pub used_values-other : (id : Text) (us : List Use) (u : Use) → bytes_eq u.0 id ≡ false
    → used_values id (us ++ u ∷ []) ≡ used_values id us
used_values-other id us u e = used_values-end id us u ∙ ap (λ b. used_values id us ++ cond b (u.1 ∷ []) []) e ∙ append-nil (used_values id us)

-- ---- an option that occurs once

abbrev pub IsOnce : List Text → Type 0
IsOnce [] = Unit {0}
IsOnce (v ∷ []) = Unit {0}
IsOnce (v ∷ w ∷ vs) = ⊥

-- no argument has two
abbrev pub AreOnce : List Use → Type 0
AreOnce us = (n : Text) → IsOnce (used_values n us)

none_used : (vs : List Text) → some_value vs ≡ false → vs ≡ []
none_used [] e = refl
none_used (v ∷ vs) e = absurd (true≢false e)

pub once-more : (us : List Use) (u : Use) → AreOnce us → has u.0 us ≡ false → AreOnce (us ++ u ∷ [])
once-more us u once fresh n = subst IsOnce (sym (used_values-end n us u)) (go (bytes_eq u.0 n) refl)
  where
    go : (b : Bool) → bytes_eq u.0 n ≡ b → IsOnce (used_values n us ++ cond b (u.1 ∷ []) [])
    go true e =
        let none : used_values n us ≡ [] = subst (λ m. used_values m us ≡ []) (same u.0 n e) (none_used (used_values u.0 us) (sym (has-values u.0 us) ∙ fresh)) in
        subst (λ vs. IsOnce (vs ++ u.1 ∷ [])) (sym none) tt
    go false e = subst IsOnce (sym (append-nil (used_values n us))) (once n)

once-number : (r : Range) (vs : List Text) → IsOnce vs
    → number_or_usual r (head_value vs) ≡ number_once r (vs ++ [])
once-number r [] once = refl
once-number r (v ∷ []) once = refl
once-number r (v ∷ w ∷ vs) once = absurd once

pub number-uses : (us : List Use) → AreOnce us → (r : Range) (n : Text)
    → number_or_usual r (first_of n (rows_of_uses us)) ≡ number_once r (used_values n us ++ [])
number-uses us once r n = ap (number_or_usual r) (first_of-uses n us) ∙ once-number r (used_values n us) (once n)

once-text : (vs : List Text) → IsOnce vs → Some (head_value vs) ≡ text_once (vs ++ [])
once-text [] once = refl
once-text (v ∷ []) once = refl
once-text (v ∷ w ∷ vs) once = absurd once

pub text-uses : (us : List Use) → AreOnce us → (n : Text)
    → Some (first_of n (rows_of_uses us)) ≡ text_once (used_values n us ++ [])
text-uses us once n = ap (λ (v : Option Text). Some v) (first_of-uses n us) ∙ once-text (used_values n us) (once n)

-- ---- an option that occurs twice

abbrev pub IsTwice : List Text → Type 0
IsTwice [] = ⊥
IsTwice (v ∷ []) = ⊥
IsTwice (v ∷ w ∷ vs) = Unit {0}

pub number_once-twice : (r : Range) (vs : List Text) → IsTwice vs → number_once r vs ≡ None
number_once-twice r [] twice = absurd twice
number_once-twice r (v ∷ []) twice = absurd twice
number_once-twice r (v ∷ w ∷ vs) twice = refl

pub text_once-twice : (vs : List Text) → IsTwice vs → text_once vs ≡ None
text_once-twice [] twice = absurd twice
text_once-twice (v ∷ []) twice = absurd twice
text_once-twice (v ∷ w ∷ vs) twice = refl

pub twice-more : (vs ws : List Text) (v : Text) → some_value vs ≡ true → IsTwice (vs ++ v ∷ ws)
twice-more [] ws v e = absurd (true≢false (sym e))
twice-more (x ∷ []) ws v e = tt
twice-more (x ∷ y ∷ vs) ws v e = tt

pub same_text : (t : Text) → bytes_eq t t ≡ true
same_text t = (bytes_eq-Decides t t).1 refl

-- the values that parts give an option or a flag, in order
abbrev pub given_in : Text → List Part → List Text
given_in wanted [] = []
given_in wanted (option n v ∷ ps) = cond (bytes_eq n wanted) (v ∷ given_in wanted ps) (given_in wanted ps)
given_in wanted (flag n ∷ ps) = cond (bytes_eq n wanted) (flag_value ∷ given_in wanted ps) (given_in wanted ps)
given_in wanted (name t ∷ ps) = given_in wanted ps

-- those of uses, and of parts after them
abbrev pub all_values : List Use → List Part → Text → List Text
all_values us ps n = used_values n us ++ given_in n ps

-- and those with one more use between them
abbrev pub values_with : List Use → Use → List Part → Text → List Text
values_with us u ps n = used_values n us ++ cond (bytes_eq u.0 n) (u.1 ∷ given_in n ps) (given_in n ps)

pub values-moved : (us : List Use) (u : Use) (ps : List Part) (m : Text)
    → all_values (us ++ u ∷ []) ps m ≡ values_with us u ps m
values-moved us u ps m = ap (λ vs. vs ++ given_in m ps) (used_values-end m us u) ∙ append_assoc (used_values m us) (cond (bytes_eq u.0 m) (u.1 ∷ []) []) (given_in m ps) ∙ ap (λ vs. used_values m us ++ vs) (go (bytes_eq u.0 m))
  where
    go : (b : Bool)
        → cond b (u.1 ∷ []) [] ++ given_in m ps ≡ cond b (u.1 ∷ given_in m ps) (given_in m ps)
    go true = refl
    go false = refl
