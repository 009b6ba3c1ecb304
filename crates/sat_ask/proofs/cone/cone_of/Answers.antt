-- What the term at an index names comes before it, and is marked with it.
use Rattle.sat_ask.proofs.Common.{◌≡◌, ◌∙◌, ◌+◌, ◌-◌, ◌<◌, ◌≤◌, Bool, true, false, List, [], ap, arith, get_or, length, subst, sym, Term, IsWithin, operands, IsCone, within-more}
use Rattle.bv_terms.specs.declared.term.Term.TheVariants as term
use Rattle.sat_ask.proofs.Marking.{got-at, length-marked, mark-step, within-at, written-back}
use Rattle.sat_ask.proofs.cone.cone_of.Goals as goal

pub mark_operands-requires : goal.mark_operands-requires
mark_operands-requires c =
    let terms = c.args.terms.now in
    let j = c.loop-place.place - 1 in
    let lt : j < length terms = omega (arith, c.loop-place-test.true, c.loop-place.auto.place, ap length c.as_slice-all.ensures.value) in
    let room : 0 + j ≤ length c.deref_mut-then-index.result.now = omega (arith, lt, ap length c.deref_mut-then-index.ensures.value, c.loop-place.invariant.long) in
    subst (λ (ts : List Term). IsWithin (length c.deref_mut-then-index.result.now) (get_or ts j (term.Constant 0 0))) (sym c.as_slice-all.ensures.value)
    (within-more (0 + j) (length c.deref_mut-then-index.result.now) (get_or terms j (term.Constant 0 0)) room (within-at [] terms j (term.Constant 0 0) c.as_slice-all.ensures.fit lt))

pub loop-place-preserved-then-index : goal.loop-place-preserved-then-index
loop-place-preserved-then-index c =
    let terms = c.args.terms.now in
    let j = c.loop-place.place - 1 in
    let t = get_or c.as_slice-all.result.now j (term.Constant 0 0) in
    let most : c.loop-place.place ≤ length terms = omega (arith, c.loop-place.auto.place, ap length c.as_slice-all.ensures.value) in
    let room : j < length c.loop-place.used.items = omega (arith, most, c.loop-place-test.true, c.loop-place.invariant.long) in
    let own : get_or c.loop-place.used.items j false ≡ true = got-at c.loop-place.used.items j c.index.result.now false c.index.ensures room ∙ c.if-index.true in
    let long : c.loop-place.used.len ≡ length c.mark_operands.new.used = omega (arith, c.deref_mut-then-index.ensures.len, ap length c.mark_operands.ensures, length-marked c.deref_mut-then-index.result.now (operands t)) in
    subst (λ (us : List Bool). IsCone terms c.args.goal j us) (sym (written-back c.loop-place.used.len c.mark_operands.new.used c.loop-place.used.items long))
    (mark-step terms c.args.goal c.loop-place.place c.loop-place.used.items c.deref_mut-then-index.result.now c.mark_operands.new.used c.as_slice-all.result.now (term.Constant 0 0) c.as_slice-all.ensures.fit
    c.as_slice-all.ensures.value c.loop-place-test.true most c.deref_mut-then-index.ensures.value own c.mark_operands.ensures c.loop-place.invariant)
