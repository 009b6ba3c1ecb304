use Rattle.ir_printer.proofs.Common.{◌≡◌, ◌-◌, fold, with_name, made_names, result_names}
use Rattle.ir_printer.proofs.making.push_names.Given as goal

abbrev pub invariant-loop-i : goal.invariant-loop-i
invariant-loop-i l = fold with_name l.names (result_names (l.insts - l.i) l.i) ≡ made_names l.insts
