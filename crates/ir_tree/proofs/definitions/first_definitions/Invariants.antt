use Rattle.ir_tree.proofs.Common.{◌≡◌, length, AreFirst}
use Rattle.ir_tree.proofs.definitions.first_definitions.Given as goal

abbrev pub invariant-loop-n : goal.invariant-loop-n
invariant-loop-n l = record {
  len : length l.table.items ≡ l.names;
  first : AreFirst l.sites l.n l.table.items;
}
