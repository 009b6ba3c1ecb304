use Rattle.clause_search.proofs.Common.{◌≤◌, length, List, sym, subst, Entry, IsLastBelow}
use Rattle.clause_search.proofs.Placing.{last-at}
use Rattle.clause_search.proofs.trail.Trail.decision_before.Goals as goal

pub returns : goal.returns
returns c =
    let within = subst (λ (es : List Entry). c.args.place ≤ length es) (sym c.self.view_is) c.requires in
    subst (λ (es : List Entry). IsLastBelow es c.index.result.now.last c.args.place) c.self.view_is
    (last-at c.self.inside.marks.items c.args.place c.index.result.now c.self.invariant.1 c.if-place-eq0.false within c.index.ensures)
