use Rattle.ir_printer.proofs.Common.{◌≡◌, ◌++◌, ◌-◌, made_entries}
use Rattle.ir_printer.proofs.making.module_of.Given as goal

abbrev pub invariant-loop-k : goal.invariant-loop-k
invariant-loop-k l =
    l.entries.items ++ made_entries l.in_target l.insts (l.functions - l.k) l.k l.generator.state ≡ made_entries l.in_target l.insts l.functions 0 l.initial.generator.state
