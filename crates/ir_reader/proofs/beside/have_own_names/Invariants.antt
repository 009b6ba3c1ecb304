use Rattle.ir_reader.proofs.Different.{OwnNames}
use Rattle.ir_reader.proofs.beside.have_own_names.Given as goal

abbrev pub invariant-loop-entry : goal.invariant-loop-entry
invariant-loop-entry l = OwnNames l.entries l.entry-index l.names
