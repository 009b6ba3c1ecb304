-- The new entry has its position, and its last decision.
use Rattle.clause_search.proofs.Common.{◌≡◌, ◌∙◌, List, ℕ, Some, length, inl, inr, sym, ap, subst, length-map, Entry, Mark, IsUnassigned, IsLastBelow, entries_of, ArePlaced, AreLast}
use Rattle.clause_search.proofs.Placing.{placed-put, placed-push, last-push}
use Rattle.clause_search.proofs.trail.Trail.push.Goals as goal
use Rattle.clause_search.proofs.trail.Trail.push.Goals.{then-entry-eq0, else-entry-eq0}

pub invariant_of-self-in_err-push : goal.invariant_of-self-in_err-push
invariant_of-self-in_err-push c =
    let marks = c.self.inside.marks.items in
    let free = subst (λ (es : List Entry). IsUnassigned es c.args.entry.literal.variable) (sym c.self.view_is) c.requires in
    let placed = placed-put (entries_of marks) c.self.inside.places.items c.put_place.new.places.items c.args.entry.literal.variable free
    c.in_ok-put_place.ensures.kept c.self.invariant.0 in
    subst (λ (ms : List Mark). ArePlaced (entries_of ms) c.put_place.new.places.items × AreLast ms) (sym c.in_err-push.ensures.items) (placed, c.self.invariant.1)

pub invariant_of-self-2 : goal.invariant_of-self-2
invariant_of-self-2 c =
    let marks = c.self.inside.marks.items in
    let mark : Mark = record { entry = c.args.entry; last = c.if-entry-eq0.last } in
    let free = subst (λ (es : List Entry). IsUnassigned es c.args.entry.literal.variable) (sym c.self.view_is) c.requires in
    let placed = placed-put (entries_of marks) c.self.inside.places.items c.put_place.new.places.items c.args.entry.literal.variable free
    c.in_ok-put_place.ensures.kept c.self.invariant.0 in
    let count : c.len-place.result ≡ length marks = c.len-place.ensures ∙ (sym (ap length c.self.view_is) ∙ length-map marks (λ (z : Mark). z.entry)) in
    let told = c.in_ok-put_place.ensures.ok ∙ ap Some count in
    subst (λ (ms : List Mark). ArePlaced (entries_of ms) c.put_place.new.places.items × AreLast ms) (sym c.in_ok-push.ensures.items) (
      placed-push marks c.put_place.new.places.items mark placed told,
      last-push marks mark c.self.invariant.1 (elim c.if-entry-eq0.branch [
        | then-entry-eq0 w ↦ inl (w.if-entry-eq0.true, w.last-is ∙ ap Some count)
        | else-entry-eq0 w ↦ inr (
          w.if-entry-eq0.false,
          rw w.last-is (subst (λ (es : List Entry). IsLastBelow es w.decision_before-last.result (length marks)) (sym c.self.view_is)
              (subst (λ (k : ℕ). IsLastBelow c.args.self.now w.decision_before-last.result k) count w.decision_before-last.ensures)),
        )
      ]),
    )
