use Rattle.std.proofs.Common.{arith}
use Rattle.known_values.proofs.Cuts.{pow-le}
use Rattle.known_values.proofs.numbers.extended.Goals as goal

pub overflow_sub-result : goal.overflow_sub-result
overflow_sub-result c = omega (arith, c.ones.ensures, c.ones-then-has_sign.ensures, pow-le c.args.from c.args.width c.requires.wider)
