-- What is left keeps its positions and decisions.
use Rattle.clause_search.proofs.Common.{◌∙◌, List, take, sym, subst, ap, take-map, Mark, entries_of, ArePlaced, AreLast}
use Rattle.clause_search.proofs.Placing.{placed-take, last-take}
use Rattle.clause_search.proofs.trail.Trail.truncate.Goals as goal

pub invariant_of-self : goal.invariant_of-self
invariant_of-self c =
    let marks = c.self.inside.marks.items in
    let cut = c.truncate.ensures.items in
    subst (λ (ms : List Mark). ArePlaced (entries_of ms) c.self.inside.places.items × AreLast ms) (sym cut)
    (placed-take marks c.self.inside.places.items c.args.place c.self.invariant.0, last-take marks c.args.place c.self.invariant.1)

pub returns : goal.returns
returns c =
    ap entries_of c.truncate.ensures.items
    ∙ (sym (take-map (λ (z : Mark). z.entry) c.args.place c.self.inside.marks.items) ∙ ap (take c.args.place) c.self.view_is)
