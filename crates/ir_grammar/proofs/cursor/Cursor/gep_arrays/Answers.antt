use Rattle.ir_grammar.proofs.Common.{arrays, gep_arrays}
use Rattle.ir_grammar.proofs.cursor.Cursor.gep_arrays.Goals as goal

pub returns : goal.returns
unfolding gep_arrays arrays
returns c = rw c.gep_flags.ensures (rw c.no_items.ensures at c.arrays.ensures)
