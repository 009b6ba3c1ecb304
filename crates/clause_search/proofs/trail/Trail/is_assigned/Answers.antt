use Rattle.clause_search.proofs.Common.{◌∙◌, sym}
use Rattle.clause_search.proofs.Placing.{assigned-some}
use Rattle.clause_search.proofs.trail.Trail.is_assigned.Goals as goal

pub returns : goal.returns
returns c =
    let told = assigned-some c.args.self.now c.args.variable c.place_of.result c.place_of.ensures.place in
    (λ t. told.0 (sym c.is_some.ensures ∙ t), λ a. c.is_some.ensures ∙ told.1 a)
