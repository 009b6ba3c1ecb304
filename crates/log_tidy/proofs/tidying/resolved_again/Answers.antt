-- A step of an empty clause is by itself a refutation.
use Rattle.log_tidy.proofs.Common.{◌≡◌, ◌++◌, ◌∷◌, ◌∙◌, [], List, Some, ap, subst, sym, get_or_from_slice_get, Lit, Step, RefutesCarefully}
use Rattle.log_tidy.proofs.Adding.{alone-carefully}
use Rattle.log_tidy.proofs.tidying.resolved_again.Goals as goal

pub returns-in_ok-push-in-Some : goal.returns-in_ok-push-in-Some
returns-in_ok-push-in-Some c =
    let clauses = c.args.clauses.now in
    let index = c.in-Some.index in
    let clause = c.index-clauses-index.result in
    let none : clause ≡ [] = c.index-clauses-index.is ∙ get_or_from_slice_get clauses index [] clause c.in-Some.ensures in
    let step = c.in_ok-alone-in-Some.field-0 in
    subst (λ (ss : List Step). RefutesCarefully clauses ss) (sym (c.in_ok-push-in-Some.ensures.ok ∙ ap (λ (ss : List Step). ss ++ step ∷ []) (c.from_vec-kept.ensures ∙ c.new.ensures.items)))
    (alone-carefully clauses index clause step (c.in-Some.ensures ∙ ap (λ (x : List Lit). Some x) (sym none)) none c.in_ok-alone-in-Some.ensures)
