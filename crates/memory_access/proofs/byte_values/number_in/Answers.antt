use Rattle.memory_access.proofs.Common.{◌≡◌, suc, ◌-◌, ◌+◌, length, sym, arith}
use Rattle.memory_access.proofs.ByteLists.{number_of-more, number_of-part, number_of-poison, number_of-none, number-below, number-room}
use Rattle.memory_access.proofs.byte_values.number_in.Goals as goal

pub overflow_mul-number : goal.overflow_mul-number
overflow_mul-number c =
    let room = number-room c.loop-i.number (length c.args.bytes.now - c.loop-i.i) c.loop-i.invariant.small (omega arith) in
    record { fits = omega (arith, room) }

pub overflow_add-number : goal.overflow_add-number
overflow_add-number c =
    let room = number-room c.loop-i.number (length c.args.bytes.now - c.loop-i.i) c.loop-i.invariant.small (omega arith) in
    record { fits = omega (arith, room) }

pub loop-i-preserved : goal.loop-i-preserved
loop-i-preserved c =
    let at : c.loop-i.i - 1 + 1 ≡ c.loop-i.i = omega arith in
    let more : suc (length c.args.bytes.now - c.loop-i.i) ≡ length c.args.bytes.now - (c.loop-i.i - 1) = omega arith in
    record {
      within = omega arith;
      number = number_of-more c.args.bytes.now (c.loop-i.i - 1) c.in-Bits.byte c.in-Bits.mask c.loop-i.number (omega arith) c.in-Bits.is c.if-mask-ne0.false (rw at c.loop-i.invariant.number);
      small = rw (← more) (number-below c.in-Bits.byte c.loop-i.number (length c.args.bytes.now - c.loop-i.i) (omega arith) c.loop-i.invariant.small);
    }

pub returns-then-mask-ne0 : goal.returns-then-mask-ne0
returns-then-mask-ne0 c = sym (number_of-none c.args.bytes.now (c.loop-i.i - 1) (number_of-poison c.args.bytes.now (c.loop-i.i - 1) c.in-Bits.byte c.in-Bits.mask (omega arith) c.in-Bits.is c.if-mask-ne0.true))

pub returns-in-Part : goal.returns-in-Part
returns-in-Part c = sym (number_of-none c.args.bytes.now (c.loop-i.i - 1) (number_of-part c.args.bytes.now (c.loop-i.i - 1) c.in-Part.field-0 c.in-Part.field-1 (omega arith) c.in-Part.is))
