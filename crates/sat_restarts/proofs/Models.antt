-- Models of clauses and of those that are learned from them.
use Rattle.sat_restarts.proofs.Common.{ℕ, ◌≡◌, ◌++◌, Bool, true, List, [], ◌∷◌, map, refl, and_from, and_parts, Lit, IsModel, clause_true, clauses_true, values_of, Step, standing}

pub true-left : (v : ℕ → Bool) (cs ds : List (List Lit)) → clauses_true v (cs ++ ds) ≡ true → clauses_true v cs ≡ true
true-left v [] ds t = refl
true-left v (c ∷ cs) ds t =
    let parts = and_parts (clause_true v c) (clauses_true v (cs ++ ds)) t in
    and_from (clause_true v c) (clauses_true v cs) parts.0 (true-left v cs ds parts.1)

pub true-right : (v : ℕ → Bool) (cs ds : List (List Lit)) → clauses_true v (cs ++ ds) ≡ true → clauses_true v ds ≡ true
true-right v [] ds t = t
true-right v (c ∷ cs) ds t = true-right v cs ds (and_parts (clause_true v c) (clauses_true v (cs ++ ds)) t).1

pub true-both : (v : ℕ → Bool) (cs ds : List (List Lit)) → clauses_true v cs ≡ true → clauses_true v ds ≡ true → clauses_true v (cs ++ ds) ≡ true
true-both v [] ds t u = u
true-both v (c ∷ cs) ds t u =
    let parts = and_parts (clause_true v c) (clauses_true v cs) t in
    and_from (clause_true v c) (clauses_true v (cs ++ ds)) parts.0 (true-both v cs ds parts.1 u)

module _ (variables : ℕ) (clauses : List (List Lit)) (log : List Step) where
  pub model-standing : (values : List Bool) → IsModel variables (standing clauses log) values → IsModel variables clauses values
  model-standing values model = (model.0, true-left (values_of values) clauses (map (λ (s : Step). s.clause) log) model.1)
