use Rattle.points.proofs.Common.{arith}
use Rattle.points.proofs.Values.{next_number, next_poison, last_poison, next_pointer_value, next_poison_pointer, last_poison_pointer}
use Rattle.points.proofs.value_steps.next_value.Goals as goal

pub returns-then-n-end : goal.returns-then-n-end
returns-then-n-end c = rw (c.in-Int.is, c.in-Num.is) (next_number c.args.layout.now c.in-Int.width c.in-Num.n (let value = c.end.ensures.value in omega (arith, value)))

pub returns-else-n-end : goal.returns-else-n-end
returns-else-n-end c =
    let fits = rw (c.in-Int.is, c.in-Num.is) at c.requires in
    rw (c.in-Int.is, c.in-Num.is) (next_poison c.args.layout.now c.in-Int.width c.in-Num.n (let value = c.end.ensures.value in omega (arith, value)) fits)

pub returns-in-Some : goal.returns-in-Some
returns-in-Some c = rw (c.in-Ptr.is, c.in-Ptr-value-2.is) (next_pointer_value c.args.layout.now c.in-Ptr-value-2.pointer c.in-Some.next c.in-Some.ensures.0 c.in-Some.ensures.1)

pub returns-in-None : goal.returns-in-None
returns-in-None c = rw (c.in-Ptr.is, c.in-Ptr-value-2.is) (next_poison_pointer c.args.layout.now c.in-Ptr-value-2.pointer (omega arith) c.in-None.ensures)

pub returns-in-Poison : goal.returns-in-Poison
returns-in-Poison c = rw (c.in-Int.is, c.in-Poison.is) (last_poison c.args.layout.now c.in-Int.width)

pub returns-in-Poison-value : goal.returns-in-Poison-value
returns-in-Poison-value c = rw (c.in-Ptr.is, c.in-Poison-value.is) (last_poison_pointer c.args.layout.now (omega arith))
