use Rattle.std.proofs.Common.{◌≡◌, take}
use Rattle.gate_arith.specs.Numbers.{number_of}
use Rattle.answer_order.proofs.reading.number_of.Given as goal

abbrev pub invariant-loop-digit : goal.invariant-loop-digit
invariant-loop-digit l = l.number ≡ number_of (take l.digit-index l.digits)
