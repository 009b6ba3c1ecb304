-- What the gate at an index names comes before it, and is marked with it.
use Rattle.gates.proofs.Common.{◌≡◌, ◌∙◌, ◌+◌, ◌-◌, ◌<◌, ◌≤◌, All, Bool, true, false, List, ap, arith, get_or, length, subst, sym, ℕ, Zero, IsCone, operands, IsFit}
use Rattle.std.proofs.Common.{slice_set}
use Rattle.gates.proofs.FactLemmas.{fit-at}
use Rattle.gates.proofs.Marks.{cone-start, got-at, length-marked, mark-step, operands-below, resized, written-back}
use Rattle.gates.proofs.cone.cone_of.Goals as goal

pub loop-place-init : goal.loop-place-init
loop-place-init c =
    let n = length c.args.gates.now in
    let is = resized n c.new-needed.result.len c.new-needed.result.items c.resize.new.self.items c.new-needed.ensures.items c.new-needed.ensures.len c.in_ok-resize.ensures.items in
    cone-start c.args.gates.now c.args.out.index _ c.requires.out (ap (λ (xs : List Bool). slice_set xs c.args.out.index true) is)

pub mark_operands-requires : goal.mark_operands-requires
mark_operands-requires c =
    let j = c.loop-place.place - 1 in
    let g = get_or c.args.gates.now j Zero in
    let lt : j < length c.args.gates.now = omega (arith, c.loop-place-test.true, c.loop-place.auto.place) in
    let room : j < length c.deref_mut.result.now = omega (arith, lt, ap length c.deref_mut.ensures.value, c.loop-place.invariant.long) in
    let zero_more : 0 + j ≡ j = omega arith in
    let below : All (λ k. k < j) (operands g) = operands-below j g (subst (λ (n : ℕ). IsFit n g) zero_more (fit-at 0 c.args.gates.now j Zero c.requires.fit lt)) in
    λ k d l. omega (arith, below k d l, room)

pub loop-place-preserved-then-index : goal.loop-place-preserved-then-index
loop-place-preserved-then-index c =
    let j = c.loop-place.place - 1 in
    let g = get_or c.args.gates.now j Zero in
    let most : c.loop-place.place ≤ length c.args.gates.now = omega (arith, c.loop-place.auto.place) in
    let room : j < length c.loop-place.needed.items = omega (arith, most, c.loop-place-test.true, c.loop-place.invariant.long) in
    let own : get_or c.loop-place.needed.items j false ≡ true = got-at c.loop-place.needed.items j c.index.result.now false c.index.ensures room ∙ c.if-index.true in
    let long : c.loop-place.needed.len ≡ length c.mark_operands.new.needed = omega (arith, c.deref_mut.ensures.len, ap length c.mark_operands.ensures, length-marked c.deref_mut.result.now (operands g)) in
    subst (λ (us : List Bool). IsCone c.args.gates.now c.args.out.index j us) (sym (written-back c.loop-place.needed.len c.mark_operands.new.needed c.loop-place.needed.items long))
    (mark-step c.args.gates.now c.args.out.index c.loop-place.place c.loop-place.needed.items c.deref_mut.result.now c.mark_operands.new.needed Zero c.requires.fit
    c.loop-place-test.true most c.deref_mut.ensures.value own c.mark_operands.ensures c.loop-place.invariant)
