use Rattle.ir_printer.proofs.Common.{◌≡◌, drop, ◌++◌, ◌∷◌, flat_map}
use Rattle.ir_printer.proofs.Texts.{array_text}
use Rattle.ir_printer.proofs.accesses.push_arrays.Given as goal

abbrev pub invariant-loop-length : goal.invariant-loop-length
invariant-loop-length l = l.out.items ++ flat_map array_text (drop l.length-index l.lengths) ≡ l.fn.out.items ++ flat_map array_text l.lengths
