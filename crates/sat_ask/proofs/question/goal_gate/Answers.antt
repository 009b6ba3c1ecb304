-- One more term, where the goal is made of it, has its bits; in the end the goal has its one.
use Rattle.sat_ask.proofs.Common.{◌≡◌, ◌∙◌, ◌<◌, arith, ap, length, refl, []}
use Rattle.bv_terms.specs.declared.term.Term.TheVariants as term
use Rattle.sat_ask.proofs.Building.{built-goal, built-next, built_none, known-at, stood-at}
use Rattle.sat_ask.proofs.Marking.{got-at}
use Rattle.sat_ask.proofs.question.goal_gate.Goals as goal

pub loop-place-init : goal.loop-place-init
loop-place-init c = (built_none c.args.terms.now c.in_ok-used.used.items c.args.blast.now c.new-bits.result.items c.new-bits.ensures.items c.as_slice-term-items.ensures.fit, refl)

pub bits_of-requires-clause-stood : goal.bits_of-requires-clause-stood
bits_of-requires-clause-stood c =
    let lt : c.loop-place.place < length c.args.terms.now = omega (arith, c.loop-place-test.true, ap length c.as_slice-term-items.ensures.value) in
    stood-at c.args.terms.now c.args.goal c.in_ok-used.used.items c.loop-place.blast c.loop-place.bits.items c.loop-place.place c.loop-place.invariant.0 (term.Constant 0 0)
    c.as_slice-term-items.result.now c.deref.result.now c.as_slice-term-items.ensures.value c.deref.ensures.value lt c.in_ok-used.ensures c.index.result.now c.index.ensures

pub bits_of-requires-clause-known : goal.bits_of-requires-clause-known
bits_of-requires-clause-known c =
    let lt : c.loop-place.place < length c.args.terms.now = omega (arith, c.loop-place-test.true, ap length c.as_slice-term-items.ensures.value) in
    known-at c.args.terms.now c.args.goal c.in_ok-used.used.items c.loop-place.blast c.loop-place.bits.items c.loop-place.place c.loop-place.invariant.0 (term.Constant 0 0)
    c.as_slice-term-items.result.now c.deref.result.now c.as_slice-term-items.ensures.value c.deref.ensures.value lt c.in_ok-used.ensures
    c.args.blast.now.table c.index.result.now c.as_slice-term-items.ensures.fit c.loop-place.invariant.1 c.requires.known c.index.ensures

pub loop-place-preserved : goal.loop-place-preserved
loop-place-preserved c =
    let lt : c.loop-place.place < length c.args.terms.now = omega (arith, c.loop-place-test.true, ap length c.as_slice-term-items.ensures.value) in (
      built-next c.args.terms.now c.args.goal c.in_ok-used.used.items c.loop-place.blast c.loop-place.bits.items c.loop-place.place c.loop-place.invariant.0 (term.Constant 0 0)
          c.as_slice-term-items.result.now c.deref.result.now c.as_slice-term-items.ensures.value c.deref.ensures.value lt c.in_ok-used.ensures
          c.bits_of.new.blast c.push.new.self.items c.in_ok-digits.digits c.index.result.now c.index.ensures c.bits_of.ensures.follows (λ trees on stood fit. c.in_ok-digits.ensures.stands trees on stood fit) c.in_ok-push.ensures.items,
      c.bits_of.ensures.table ∙ c.loop-place.invariant.1,
    )

pub returns-clause-gate : goal.returns-clause-gate
returns-clause-gate c =
    let whole : c.loop-place.place ≡ length c.args.terms.now = omega (arith, c.loop-place-test.false, c.loop-place.auto.place-end, ap length c.as_slice-term-items.ensures.value) in
    let room : c.args.goal.index < length c.loop-place.bits.items = omega (arith, whole, c.loop-place.invariant.0.long, c.requires.goal.within) in
    built-goal c.args.terms.now c.args.goal c.in_ok-used.used.items c.loop-place.blast c.loop-place.bits.items c.loop-place.place c.index-2.result.now c.get.result.now whole c.loop-place.invariant.0 c.in_ok-used.ensures
    c.requires.goal.within c.requires.goal.wide (got-at c.loop-place.bits.items c.args.goal.index c.index-2.result.now [] c.index-2.ensures room) c.get.ensures
