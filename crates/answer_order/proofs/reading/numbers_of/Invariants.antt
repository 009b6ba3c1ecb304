use Rattle.std.proofs.Common.{◌≡◌, ◌++◌, length, drop}
use Rattle.answer_order.specs.Fronts.{AreWidths, numbers_of, total}
use Rattle.answer_order.proofs.reading.numbers_of.Given as goal

abbrev pub invariant-loop-width : goal.invariant-loop-width
invariant-loop-width l = record {
  widths : AreWidths (drop l.width-index l.widths);
  long : length l.rest ≡ total (drop l.width-index l.widths);
  read : l.numbers.items ++ numbers_of (drop l.width-index l.widths) l.rest ≡ numbers_of l.widths l.digits;
}
