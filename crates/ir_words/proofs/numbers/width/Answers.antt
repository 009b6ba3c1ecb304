use Rattle.ir_words.proofs.Common.{◌^◌, sym, ◌∙◌, arith, value_of}
use Rattle.ir_words.proofs.Widths.{width_of-bits, width_of-past, width_of-out, some_below-is}
use Rattle.ir_words.proofs.numbers.width.Goals as goal

pub returns-in_default : goal.returns-in_default
returns-in_default c = width_of-past (value_of c.args.digits.now) c.in_default.ensures

pub returns-then-bits-lt1 : goal.returns-then-bits-lt1
returns-then-bits-lt1 c = width_of-out (value_of c.args.digits.now) c.in-Some.bits c.in-Some.ensures (λ low high. omega (arith, c.if-bits-lt1.true))

pub returns-then-bits-gt64 : goal.returns-then-bits-gt64
returns-then-bits-gt64 c = width_of-out (value_of c.args.digits.now) c.in-Some.bits c.in-Some.ensures (λ low high. omega (arith, c.if-bits-gt64.true))

pub returns : goal.returns
returns c = sym (width_of-bits (value_of c.args.digits.now) c.of.result (c.of.ensures ∙ some_below-is (2 ^ 64) (value_of c.args.digits.now) c.in-Some.bits c.in-Some.ensures))
