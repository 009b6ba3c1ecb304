use Rattle.choice_interp.proofs.Common.{◌≡◌, length, drop, assign_all}
use Rattle.choice_interp.proofs.flow.assign_phis.Given as goal

abbrev pub invariant-loop-i : goal.invariant-loop-i
invariant-loop-i l = record {
  rest : assign_all (drop l.i l.phis) (drop l.i l.values) l.machine ≡ assign_all l.phis l.values l.fn.machine;
  registers : length l.machine.registers ≡ length l.fn.machine.registers;
  memory : l.machine.memory ≡ l.fn.machine.memory;
  turn : l.machine.turn ≡ l.fn.machine.turn;
}
