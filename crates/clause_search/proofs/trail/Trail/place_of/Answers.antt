-- The variable's position is out of date where another one is there, or none.
use Rattle.clause_search.proofs.Common.{Some, None, List, length, subst, refl, slice_get_read, Entry, IsPlaceOf}
use Rattle.clause_search.proofs.Placing.{place-past, place-unmarked, place-other, place-marked}
use Rattle.clause_search.proofs.trail.Trail.place_of.Goals as goal

pub returns-in_err-place-clause-place : goal.returns-in_err-place-clause-place
returns-in_err-place-clause-place c =
    let past = rw c.deref.ensures.value at c.in_err-place.ensures.lookup.3 in
    rw c.from_residual.ensures (subst (λ (es : List Entry). IsPlaceOf es c.args.variable None) c.self.view_is
    (place-past c.self.inside.marks.items c.self.inside.places.items c.self.invariant.0 c.args.variable past))

pub returns-in_err-mark-clause-place : goal.returns-in_err-mark-clause-place
returns-in_err-mark-clause-place c =
    let place = c.in_ok-place.field-0.now in
    let found = rw c.deref.ensures.value at c.in_ok-place.ensures.lookup in
    let told = slice_get_read c.self.inside.places.items (length c.self.inside.places.items) c.args.variable place refl found.3.0 found.1 in
    let past = rw c.deref-2.ensures.value at c.in_err-mark.ensures.lookup.3 in
    rw c.from_residual-in_err-mark.ensures (subst (λ (es : List Entry). IsPlaceOf es c.args.variable None) c.self.view_is
    (place-unmarked c.self.inside.marks.items c.self.inside.places.items c.self.invariant.0 c.args.variable place told past))

pub returns-then-mark-variable-clause-place : goal.returns-then-mark-variable-clause-place
returns-then-mark-variable-clause-place c =
    let place = c.in_ok-place.field-0.now in
    let found = rw c.deref-2.ensures.value at c.in_ok-mark.ensures.lookup in
    let here = slice_get_read c.self.inside.marks.items (length c.self.inside.marks.items) place c.in_ok-mark.mark.now refl found.3.0 found.1 in
    subst (λ (es : List Entry). IsPlaceOf es c.args.variable (Some place)) c.self.view_is
    (place-marked c.self.inside.marks.items c.self.inside.places.items c.self.invariant.0 c.args.variable place c.in_ok-mark.mark.now here c.if-mark-variable.true)

pub returns-else-mark-variable-clause-place : goal.returns-else-mark-variable-clause-place
returns-else-mark-variable-clause-place c =
    let place = c.in_ok-place.field-0.now in
    let found = rw c.deref.ensures.value at c.in_ok-place.ensures.lookup in
    let told = slice_get_read c.self.inside.places.items (length c.self.inside.places.items) c.args.variable place refl found.3.0 found.1 in
    let mark = rw c.deref-2.ensures.value at c.in_ok-mark.ensures.lookup in
    let here = slice_get_read c.self.inside.marks.items (length c.self.inside.marks.items) place c.in_ok-mark.mark.now refl mark.3.0 mark.1 in
    subst (λ (es : List Entry). IsPlaceOf es c.args.variable None) c.self.view_is
    (place-other c.self.inside.marks.items c.self.inside.places.items c.self.invariant.0 c.args.variable place c.in_ok-mark.mark.now told here c.if-mark-variable.false)
