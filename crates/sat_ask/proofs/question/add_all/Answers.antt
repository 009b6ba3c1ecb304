-- Each term of the order is a variable, which has its bits after the others.
use Rattle.sat_ask.proofs.Common.{◌≡◌, ◌∙◌, List, Some, ap, arith, get_or, map, slice_get, subst, sym, take, ◌+◌, get_or_from_slice_get, slice_get-get_or, TermId, Variable, GateId, Blasted, variables_of}
use Rattle.bv_terms.specs.declared.term.Term.TheVariants as term
use Rattle.sat_ask.proofs.Orders.{add-more, variable-place}
use Rattle.sat_ask.proofs.question.add_all.Goals as goal
use Rattle.sat_ask.proofs.question.add_all.Goals.{in-Variable+in_ok-add, in_default}

pub bounds : goal.bounds
bounds c = variable-place c.args.terms.now c.args.order.now c.as_slice.result.now c.loop-a.a-index (record { index = 0 }) c.as_slice.ensures.value c.requires.order c.loop-a-test.true

pub offset_bounds-as_slice-a : goal.offset_bounds-as_slice-a
offset_bounds-as_slice-a c =
    let lt = variable-place c.args.terms.now c.args.order.now c.as_slice.result.now c.loop-a.a-index (record { index = 0 }) c.as_slice.ensures.value c.requires.order c.loop-a-test.true in
    omega (arith, lt, c.as_slice.type_inv.1)

pub loop-a-preserved : goal.loop-a-preserved
loop-a-preserved c =
    let terms = c.args.terms.now in
    let d : TermId = record { index = 0 } in
    let a : TermId = get_or c.args.order.now c.loop-a.a-index d in
    let var = c.requires.order c.loop-a.a-index d c.loop-a-test.true in
    let place = variable-place terms c.args.order.now c.as_slice.result.now c.loop-a.a-index d c.as_slice.ensures.value c.requires.order c.loop-a-test.true in
    elim c.match-as_slice-a.branch [
      | in-Variable+in_ok-add w ↦
          let at : slice_get terms a.index ≡ Some (term.Variable w.in-Variable.number w.in-Variable.width) =
          ap (λ ts. slice_get ts a.index) (sym c.as_slice.ensures.value) ∙ (slice_get-get_or c.as_slice.result.now a.index (term.Constant 0 0) place ∙ ap Some w.in-Variable.is) in
          subst (λ (b : Blasted). map (λ (e : Variable × List GateId). e.0) b.table ≡ variables_of terms (take (c.loop-a.a-index + 1) c.args.order.now)) (sym w.blast-is)
          (add-more terms c.args.order.now c.as_slice.ensures.distinct c.requires.order c.requires.different c.loop-a.blast.table w.add.new.self.table c.loop-a.a-index a w.in-Variable.number w.in-Variable.width
          (slice_get-get_or c.args.order.now c.loop-a.a-index d c.loop-a-test.true) at c.loop-a.invariant w.in_ok-add.ensures.added)
      | in_default w ↦
          absurd (w.in_default.not-Variable var.0 var.1 (ap (λ ts. get_or ts a.index (term.Constant 0 0)) c.as_slice.ensures.value ∙ get_or_from_slice_get terms a.index (term.Variable var.0 var.1) (term.Constant 0 0) var.2))
    ]
