-- A needed gate that has no variable gets the next one.
use Rattle.gates.proofs.Common.{◌≡◌, ◌<◌, ◌∙◌, true, false, length, arith, sym, get_or}
use Rattle.gates.proofs.FactLemmas.{input_within}
use Rattle.gates.proofs.Marks.{got-at}
use Rattle.gates.proofs.Named.{part-add, part-none, part-skip, part-whole}
use Rattle.gates.proofs.numbering.numbering_of.Goals as goal
use Rattle.gates.proofs.numbering.numbering_of.Goals.{then-index+then-index-eq0+in_ok-add, else-index, else-index-via-then-index+else-index-eq0, else-index-via-else-index}

pub named_first-requires-clause-within : goal.named_first-requires-clause-within
named_first-requires-clause-within c = λ k d lt. input_within c.args.gates.now _ c.requires.fit (c.requires.order k d lt).input

pub loop-place-init : goal.loop-place-init
loop-place-init c = part-none (length c.args.gates.now) c.in_ok-numbering.numbering.number.items c.in_ok-numbering.numbering.gate_of.items c.args.order.now c.in_ok-needed.needed.items c.in_ok-numbering.ensures

pub loop-place-preserved : goal.loop-place-preserved
loop-place-preserved c =
    let count = length c.args.gates.now in
    let needed = c.in_ok-needed.needed.items in
    let number = c.loop-place.numbering.number.items in
    let gate_of = c.loop-place.numbering.gate_of.items in
    let lt : c.loop-place.place < count = omega arith in
    let room : c.loop-place.place < length needed = omega (arith, lt, c.in_ok-needed.ensures.long) in
    let long : c.loop-place.place < length number = omega (arith, lt, c.loop-place.invariant.numbering.numbered) in
    let mark = got-at needed c.loop-place.place c.index.result.now false c.index.ensures room in
    elim c.if-index.branch [
      | then-index+then-index-eq0+in_ok-add w ↦
          let none : get_or number c.loop-place.place 0 ≡ 0 = got-at number c.loop-place.place w.index-then-index.result.now 0 w.index-then-index.ensures long ∙ w.if-index-eq0.true in
          rw (w.numbering-is, w.in_ok-add.ensures.number, w.in_ok-add.ensures.gates)
          (part-add count number gate_of c.args.order.now needed c.loop-place.place c.loop-place.invariant lt (mark ∙ w.if-index.true) none)
      | else-index w ↦
          rw w.numbering-is (part-skip count number gate_of c.args.order.now needed c.loop-place.place c.loop-place.invariant (λ m. elim w.else-index.branch [
            | else-index-via-then-index+else-index-eq0 w' ↦
                let own = got-at number c.loop-place.place w'.index-then-index.result.now 0 w'.index-then-index.ensures long in
                let has : 0 < get_or number c.loop-place.place 0 = omega (arith, own, w'.if-index-eq0.false) in
                has
            | else-index-via-else-index w' ↦ absurd (let off : true ≡ false = sym m ∙ (mark ∙ w'.if-index.false) in let z : ⊥ = cc in z)
          ]))
    ]

pub returns : goal.returns
returns c =
    part-whole c.args.gates.now c.args.out.index c.args.order.now c.in_ok-needed.needed.items c.loop-place.numbering.number.items c.loop-place.numbering.gate_of.items c.loop-place.place c.requires.fit c.requires.order c.requires.out
    c.in_ok-needed.ensures (omega arith) c.loop-place.invariant
