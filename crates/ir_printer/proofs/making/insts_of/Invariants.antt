use Rattle.ir_printer.proofs.Common.{◌≡◌, ◌++◌, ◌*◌, ◌-◌, made_insts, state_behind}
use Rattle.ir_printer.proofs.making.insts_of.Given as goal

abbrev pub invariant-loop-i : goal.invariant-loop-i
invariant-loop-i l = record {
  made : l.made.items ++ made_insts l.in_target (l.insts - l.i) l.i l.generator.state ≡ made_insts l.in_target l.insts 0 l.fn.generator.state;
  state : state_behind (4 * (l.insts - l.i)) l.generator.state ≡ state_behind (4 * l.insts) l.fn.generator.state;
}
