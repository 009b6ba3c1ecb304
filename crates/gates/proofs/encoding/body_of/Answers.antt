-- The clauses of the gate of one more variable.
use Rattle.gates.proofs.Common.{get_or, ◌≡◌, ◌<◌, ◌+◌, subst, ℕ, arith, length, Zero, IsFit}
use Rattle.gates.proofs.FactLemmas.{fit-at, facts-more, gate_place}
use Rattle.gates.proofs.Named.{number-ranged}
use Rattle.gates.proofs.encoding.body_of.Goals as goal

pub push_gate-requires-clause-fit : goal.push_gate-requires-clause-fit
push_gate-requires-clause-fit c =
    let i = get_or c.args.gate_of.now c.loop-place.place-index 0 in
    let z : 0 + i ≡ i = omega arith in
    subst (λ (n : ℕ). IsFit n (get_or c.args.gates.now i Zero)) z (fit-at 0 c.args.gates.now i Zero c.requires.fit (c.requires.numbering.forth c.loop-place.place-index (omega arith)).0)

pub loop-place-preserved : goal.loop-place-preserved
loop-place-preserved c =
    let i = get_or c.args.gate_of.now c.loop-place.place-index 0 in
    let lt : i < length c.args.gates.now = (c.requires.numbering.forth c.loop-place.place-index (omega arith)).0 in (
      c.in_ok-push_gate.ensures.within (length c.args.gate_of.now) (number-ranged (length c.args.gates.now) c.args.number.now c.args.gate_of.now c.requires.numbering) c.loop-place.invariant.0,
      λ v.
          let was = c.loop-place.invariant.1 v in
          let step = c.in_ok-push_gate.ensures.says v in
          let more = facts-more v c.args.number.now c.args.gates.now c.args.gate_of.now c.loop-place.place-index _ (gate_place c.args.gates.now i Zero lt) in
          (λ h. let s = step.0 h in more.0 (was.0 s.0, s.1), λ h. let m = more.1 h in step.1 (was.1 m.0, m.1)),
    )
