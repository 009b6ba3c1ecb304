-- One more bit of a least model is settled.
use Rattle.sat_restarts.proofs.Common.{ℕ, ◌≡◌, ◌+◌, ◌-◌, ◌++◌, ◌⊎◌, inl, inr, Bool, true, false, List, [], ◌∷◌, length, length-append, get_or, take, arith, sym, subst, refl, ap, ◌∙◌, take-append_seam, cases_eq, true≢false, Lit, IsModel, clauses_true, values_of, Step, Refutes, refuted-false, standing-true, IsLess, Agree, IsExtended, IsSettled}
use Rattle.clause_lits.specs.declared.cnf.Cnf.{Cnf}
use Rattle.sat_restarts.proofs.Models.{model-standing, true-both, true-left, true-right}

-- the clause of one literal, of the variable of a bit
abbrev unit_of : ℕ → Bool → List (List Lit)
unit_of n sign = (record { variable = n + 1; positive = sign } ∷ []) ∷ []

unit-value : (places : List Bool) (n : ℕ) → values_of places (n + 1) ≡ get_or places n false
unit-value places n = ap (λ k. get_or places k false) (let e : n + 1 - 1 ≡ n = omega arith in e)

unit-true : (places : List Bool) (n : ℕ) (sign : Bool) → get_or places n false ≡ sign → clauses_true (values_of places) (unit_of n sign) ≡ true
unit-true places n sign e = rw (unit-value places n, e) (go sign)
  where
    go : (s : Bool) → clauses_true (λ k. s) (unit_of n s) ≡ true
    go true = refl
    go false = refl

true-unit : (places : List Bool) (n : ℕ) (sign : Bool) → clauses_true (values_of places) (unit_of n sign) ≡ true → get_or places n false ≡ sign
true-unit places n sign t = sym (unit-value places n) ∙ go sign (values_of places (n + 1)) t
  where
    go : (s b : Bool) → clauses_true (λ k. b) (unit_of n s) ≡ true → b ≡ s
    go true true t = refl
    go false false t = refl
    go true false t = absurd (true≢false (sym t))
    go false true t = absurd (true≢false (sym t))

-- the clauses before one more
pub without-last : (cs : List (List Lit)) (c : List Lit) (all : List (List Lit)) → all ≡ cs ++ c ∷ [] → take (length all - 1) all ≡ cs
without-last cs c all is =
    let long : length all - 1 ≡ length cs = omega (arith, ap (λ (ds : List (List Lit)). length ds) is, length-append cs (c ∷ [])) in
    ap (λ n. take n all) long ∙ (ap (take (length cs)) is ∙ take-append_seam cs (c ∷ []))

agree-more : (n : ℕ) (a b : List Bool) → Agree n a b → get_or a n false ≡ get_or b n false → Agree (n + 1) a b
agree-more n a b h e i lt = elim (cases_eq i n) [
  | inl is ↦ subst (λ k. get_or a k false ≡ get_or b k false) (sym is) e
  | inr ne ↦ h i (omega (arith, lt, ne))
]

agree-less : (n : ℕ) (a b : List Bool) → Agree (n + 1) a b → Agree n a b
agree-less n a b h i lt = h i (omega (arith, lt))

agree-last : (n : ℕ) (a b : List Bool) → Agree (n + 1) a b → get_or a n false ≡ get_or b n false
agree-last n a b h = h n (omega arith)

agree-both : (n : ℕ) (a b c : List Bool) → Agree n a b → Agree n b c → Agree n a c
agree-both n a b c h k i lt = h i lt ∙ k i lt

agree-back : (n : ℕ) (a b : List Bool) → Agree n a b → Agree n b a
agree-back n a b h i lt = sym (h i lt)

-- where n + 1 bits make the difference, the first n do or the last one does
less-split : (n : ℕ) (a b : List Bool) → IsLess (n + 1) a b → IsLess n a b ⊎ ((get_or a n false ≡ false) × (get_or b n false ≡ true) × Agree n a b)
less-split n a b less = elim (cases_eq less.place n) [
  | inl e ↦ inr (
    subst (λ k. get_or a k false ≡ false) e less.zero,
    subst (λ k. get_or b k false ≡ true) e less.one,
    λ i lt. less.before i (omega (arith, lt, e)),
  )
  | inr ne ↦ inl (record {
    place = less.place;
    within = omega (arith, less.within, ne);
    zero = less.zero;
    one = less.one;
    before = less.before;
  })
]

less-agree : (n : ℕ) (a b c : List Bool) → Agree n b c → IsLess n a b → IsLess n a c
less-agree n a b c h less = record {
  place = less.place;
  within = less.within;
  zero = less.zero;
  one = sym (h less.place less.within) ∙ less.one;
  before = λ i lt. less.before i lt ∙ h i (omega (arith, lt, less.within));
}

module _ (question cnf : Cnf) (n : ℕ) (values : List Bool) (settled : IsSettled question n cnf values) where
  -- another model that agrees so far is as good
  pub settled-other : (others : List Bool) → IsModel question.variables question.clauses others → Agree n others values → IsSettled question n cnf others
  settled-other others model agree = record {
    variables = settled.variables;
    model = model;
    least = λ x m less. settled.least x m (less-agree n x others values agree less);
    part = λ x m. let it = settled.part x m in (it.0, agree-both n x values others it.1 (agree-back n others values agree));
    whole = λ x m h. settled.whole x m (agree-both n x others values h agree);
  }

  -- the bit is the model's, and no model that agrees has 0 for a 1
  module _ (more : Cnf) (same : more.variables ≡ cnf.variables) (sign : Bool) (is : more.clauses ≡ cnf.clauses ++ unit_of n sign) (bit : get_or values n false ≡ sign)
      (no_less : (others : List Bool) → IsModel question.variables question.clauses others → Agree n others values → get_or others n false ≡ false → sign ≡ true → ⊥) where
    pub settled-more : IsSettled question (n + 1) more values
    settled-more = record {
      variables = same ∙ settled.variables;
      model = settled.model;
      least = λ others model less. elim (less-split n others values less) [
        | inl l ↦ settled.least others model l
        | inr at ↦ no_less others model at.2 at.0 (sym bit ∙ at.1)
      ];
      part = λ others model.
          let t : clauses_true (values_of others) (cnf.clauses ++ unit_of n sign) ≡ true = subst (λ (cs : List (List Lit)). clauses_true (values_of others) cs ≡ true) is model.1 in
          let before = settled.part others (model.0, true-left (values_of others) cnf.clauses (unit_of n sign) t) in
          let here = true-unit others n sign (true-right (values_of others) cnf.clauses (unit_of n sign) t) in
          (before.0, agree-more n others values before.1 (here ∙ sym bit));
      whole = λ others model agree.
          let before = settled.whole others model (agree-less n others values agree) in
          let here = unit-true others n sign (agree-last n others values agree ∙ bit) in
          subst (λ (cs : List (List Lit)). clauses_true (values_of others) cs ≡ true) (sym is) (true-both (values_of others) cnf.clauses (unit_of n sign) before here);
    }

  -- a bit that is 0
  pub settled-zero : (more : Cnf) → more.variables ≡ cnf.variables → more.clauses ≡ cnf.clauses ++ unit_of n false → get_or values n false ≡ false → IsSettled question (n + 1) more values
  settled-zero more same is bit = settled-more more same false is bit (λ others model agree zero one. true≢false (sym one))

  -- a bit that a model has as 0
  pub settled-found : (more : Cnf) (found : List Bool) → more.variables ≡ cnf.variables → more.clauses ≡ cnf.clauses ++ unit_of n false → IsModel more.variables more.clauses found → IsSettled question (n + 1) more found
  settled-found more found same is model =
      let t : clauses_true (values_of found) (cnf.clauses ++ unit_of n false) ≡ true = subst (λ (cs : List (List Lit)). clauses_true (values_of found) cs ≡ true) is model.1 in
      let count : length found ≡ question.variables = model.0 ∙ (same ∙ settled.variables) in
      let before = settled.part found (count, true-left (values_of found) cnf.clauses (unit_of n false) t) in
      let here = true-unit found n false (true-right (values_of found) cnf.clauses (unit_of n false) t) in
      settled-of (settled-other found before.0 before.1) here
    where
      settled-of : IsSettled question n cnf found → get_or found n false ≡ false → IsSettled question (n + 1) more found
      settled-of other bit = record {
        variables = same ∙ settled.variables;
        model = other.model;
        least = λ others m less. elim (less-split n others found less) [
          | inl l ↦ other.least others m l
          | inr at ↦ true≢false (sym at.1 ∙ bit)
        ];
        part = λ others m.
            let t : clauses_true (values_of others) (cnf.clauses ++ unit_of n false) ≡ true = subst (λ (cs : List (List Lit)). clauses_true (values_of others) cs ≡ true) is m.1 in
            let before = other.part others (m.0, true-left (values_of others) cnf.clauses (unit_of n false) t) in
            let here = true-unit others n false (true-right (values_of others) cnf.clauses (unit_of n false) t) in
            (before.0, agree-more n others found before.1 (here ∙ sym bit));
        whole = λ others m agree.
            let before = other.whole others m (agree-less n others found agree) in
            let here = unit-true others n false (agree-last n others found agree ∙ bit) in
            subst (λ (cs : List (List Lit)). clauses_true (values_of others) cs ≡ true) (sym is) (true-both (values_of others) cnf.clauses (unit_of n false) before here);
      }

  -- a bit that no model has as 0
  pub settled-one : (asked more : Cnf) (log : List Step) → asked.clauses ≡ cnf.clauses ++ unit_of n false → Refutes asked.clauses log
      → more.variables ≡ cnf.variables → more.clauses ≡ cnf.clauses ++ unit_of n true → get_or values n false ≡ true → IsSettled question (n + 1) more values
  settled-one asked more log was refuted same is bit = settled-more more same true is bit
      (λ others model agree zero one.
      let t = true-both (values_of others) cnf.clauses (unit_of n false) (settled.whole others model agree) (unit-true others n false zero) in
      refuted-false (values_of others) asked.clauses log refuted (subst (λ (cs : List (List Lit)). clauses_true (values_of others) cs ≡ true) (sym was) t))

  -- clauses that are resolved from them
  pub settled-extended : (more : Cnf) → IsExtended cnf more → IsSettled question n more values
  settled-extended more extended = record {
    variables = extended.variables ∙ settled.variables;
    model = settled.model;
    least = settled.least;
    part = λ others model.
        settled.part others
        (model-standing question.variables cnf.clauses extended.steps others
        (subst (λ (cs : List (List Lit)). IsModel question.variables cs others) extended.clauses model));
    whole = λ others model agree.
        subst (λ (cs : List (List Lit)). clauses_true (values_of others) cs ≡ true) (sym extended.clauses)
        (standing-true (values_of others) cnf.clauses extended.steps extended.sound (settled.whole others model agree));
  }

-- no steps, or some
pub extended_none : (cnf : Cnf) → IsExtended cnf cnf
extended_none cnf = record {
  variables = refl;
  steps = [];
  sound = λ i lt. absurd (omega (arith, lt));
  clauses = sym (append-none cnf.clauses);
}
  where
    append-none : (cs : List (List Lit)) → cs ++ [] ≡ cs
    append-none [] = refl
    append-none (c ∷ cs) = ap (λ (ds : List (List Lit)). c ∷ ds) (append-none cs)

-- nothing is settled at first
pub settled-none : (question cnf : Cnf) (values : List Bool) → cnf.variables ≡ question.variables → cnf.clauses ≡ question.clauses → IsModel question.variables question.clauses values
    → IsSettled question 0 cnf values
settled-none question cnf values same is model = record {
  variables = same;
  model = model;
  least = λ others m less. absurd (omega (arith, less.within));
  part = λ others m. (subst (λ (cs : List (List Lit)). IsModel question.variables cs others) is m, λ i lt. absurd (omega (arith, lt)));
  whole = λ others m agree. subst (λ (cs : List (List Lit)). clauses_true (values_of others) cs ≡ true) (sym is) m.1;
}
