use Rattle.choice_interp.proofs.Common.{◌≡◌, drop, length, exit_insts}
use Rattle.choice_interp.proofs.rerun.run_insts.Given as goal

abbrev pub invariant-loop-inst : goal.invariant-loop-inst
invariant-loop-inst l = record {
  insts : l.inst-items ≡ l.block.insts;
  rest : exit_insts l.no_undef (drop l.inst-index l.block.insts) l.block.terminator l.tape l.machine ≡ exit_insts l.no_undef l.block.insts l.block.terminator l.tape l.fn.machine;
  registers : length l.machine.registers ≡ length l.fn.machine.registers;
  turn : l.machine.turn ≡ l.fn.machine.turn;
}
