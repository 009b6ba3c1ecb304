use Rattle.ir_words.proofs.Common.{◌≡◌, ◌^◌, ◌<◌, drop, value_of, value_after}
use Rattle.ir_words.proofs.numbers.number.Given as goal

abbrev pub invariant-loop-digit : goal.invariant-loop-digit
invariant-loop-digit l = record {
  so_far : value_after l.value (drop l.digit-index l.digits) ≡ value_of l.digits;
  fits : l.value < 2 ^ 64;
}
