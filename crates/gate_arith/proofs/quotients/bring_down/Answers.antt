use Rattle.gate_arith.proofs.Common.{◌<◌, [], drop, length, ap, arith, ◌∙◌, take_rest}
use Rattle.gate_arith.proofs.Digits.{gates_later, gates_push}
use Rattle.gate_arith.proofs.Steps.{step-is}
use Rattle.gate_arith.proofs.quotients.bring_down.Goals as goal

pub returns-clause-made : goal.returns-clause-made
returns-clause-made c =
    let before2 = gates_later c.args.circuit.now c.constant.new.self c.args.before.now c.in_ok-zero.ensures.kept.longer c.requires.before in
    let divisor2 = gates_later c.args.circuit.now c.constant.new.self c.args.divisor.now c.in_ok-zero.ensures.kept.longer c.requires.divisor in
    let next2 : c.args.next.index < length c.constant.new.self = omega (arith, c.requires.next, c.in_ok-zero.ensures.kept.longer) in
    step-is c.args.circuit.now c.constant.new.self c.minus.new.circuit c.choose.new.circuit c.args.before.now c.args.divisor.now c.in_ok-whole.whole.items c.in_ok-wide.wide.items
    c.in_ok-less.less.digits.items c.in_ok-chosen.chosen.items c.in_ok-left.left.items c.args.next c.in_ok-zero.zero c.in_ok-less.less.carry c.requires.alike c.requires.before c.requires.next c.requires.divisor
    c.in_ok-zero.ensures.kept c.in_ok-zero.ensures.made (c.in_ok-whole.ensures c.constant.new.self before2 (gates_push c.constant.new.self [] c.args.next (λ i d lt. absurd (omega arith)) next2))
    (c.in_ok-wide.ensures c.constant.new.self (gates_push c.constant.new.self [] c.in_ok-zero.zero (λ i d lt. absurd (omega arith)) c.in_ok-zero.ensures.made.within) divisor2)
    c.in_ok-less.ensures.kept (rw (c.deref.ensures.value, c.deref-2.ensures.value) at c.in_ok-less.ensures.made)
    c.in_ok-chosen.ensures.kept (rw (c.deref-3.ensures.value, c.deref-4.ensures.value) at c.in_ok-chosen.ensures.made)
    (c.in_ok-left.ensures.items ∙ (take_rest c.deref-5.result.now 1 ∙ ap (drop 1) c.deref-5.ensures.value))

pub minus-requires-clause-alike : goal.minus-requires-clause-alike
minus-requires-clause-alike c =
    let before2 = gates_later c.args.circuit.now c.constant.new.self c.args.before.now c.in_ok-zero.ensures.kept.longer c.requires.before in
    let divisor2 = gates_later c.args.circuit.now c.constant.new.self c.args.divisor.now c.in_ok-zero.ensures.kept.longer c.requires.divisor in
    let next2 : c.args.next.index < length c.constant.new.self = omega (arith, c.requires.next, c.in_ok-zero.ensures.kept.longer) in
    let whole = c.in_ok-whole.ensures c.constant.new.self before2 (gates_push c.constant.new.self [] c.args.next (λ i d lt. absurd (omega arith)) next2) in
    let wide = c.in_ok-wide.ensures c.constant.new.self (gates_push c.constant.new.self [] c.in_ok-zero.zero (λ i d lt. absurd (omega arith)) c.in_ok-zero.ensures.made.within) divisor2 in
    rw (c.deref.ensures.value, c.deref-2.ensures.value) (omega (arith, whole.long, wide.long, c.requires.alike))

pub minus-requires-clause-b : goal.minus-requires-clause-b
minus-requires-clause-b c =
    let divisor2 = gates_later c.args.circuit.now c.constant.new.self c.args.divisor.now c.in_ok-zero.ensures.kept.longer c.requires.divisor in
    let wide = c.in_ok-wide.ensures c.constant.new.self (gates_push c.constant.new.self [] c.in_ok-zero.zero (λ i d lt. absurd (omega arith)) c.in_ok-zero.ensures.made.within) divisor2 in
    rw c.deref-2.ensures.value wide.within
