use Rattle.ir_printer.proofs.Common.{◌≡◌, drop, ◌++◌, false, text_of, accepted, functions_pieces, has_any}
use Rattle.ir_printer.proofs.modules.push_functions.Given as goal

abbrev pub invariant-loop-entry : goal.invariant-loop-entry
invariant-loop-entry l = record {
  any : has_any l.any (accepted (drop l.entry-index l.entries)) ≡ has_any false (accepted l.entries);
  text : l.out.items ++ text_of (functions_pieces l.any (accepted (drop l.entry-index l.entries))) ≡ l.fn.out.items ++ text_of (functions_pieces false (accepted l.entries));
}
