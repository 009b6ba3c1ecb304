-- The variables of a gate and its operands are among all.
use Rattle.gates.proofs.Common.{ap, arith, Lit}
use Rattle.gates.proofs.Clauses.{OnOk-then}
use Rattle.gates.proofs.encoding.push_gate.Goals as goal

pub returns-in-And-clause-within : goal.returns-in-And-clause-within
returns-in-And-clause-within c = OnOk-then c.push_and.result _ _ c.push_and.ensures.within (λ h. λ n all within. h n
    (omega (arith, c.plain_literal-own.ensures.variable, all c.args.place))
    (omega (arith, c.literal_of.ensures.variable, all c.in-And.a.index))
    (omega (arith, c.literal_of-in-And.ensures.variable, all c.in-And.b.index))
    within)

pub returns-in-Xor-clause-within : goal.returns-in-Xor-clause-within
returns-in-Xor-clause-within c = OnOk-then c.push_choose.result _ _ c.push_choose.ensures.within (λ h. λ n all within. h n
    (omega (arith, c.plain_literal-own.ensures.variable, all c.args.place))
    (omega (arith, c.plain_literal-test.ensures.variable, all c.in-Xor.a))
    (omega (arith, c.plain_literal-same.ensures.variable, all c.in-Xor.b, ap (λ (l : Lit). l.variable) c.opposite-in-Xor.ensures))
    (omega (arith, c.plain_literal-same.ensures.variable, all c.in-Xor.b))
    within)

pub returns-in-Choose-clause-within : goal.returns-in-Choose-clause-within
returns-in-Choose-clause-within c = OnOk-then c.push_choose-in-Choose.result _ _ c.push_choose-in-Choose.ensures.within (λ h. λ n all within. h n
    (omega (arith, c.plain_literal-own.ensures.variable, all c.args.place))
    (omega (arith, c.plain_literal.ensures.variable, all c.in-Choose.test))
    (omega (arith, c.plain_literal-in-Choose.ensures.variable, all c.in-Choose.first))
    (omega (arith, c.literal_of-in-Choose.ensures.variable, all c.in-Choose.second.index))
    within)
