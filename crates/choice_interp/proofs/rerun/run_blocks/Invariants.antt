use Rattle.choice_interp.proofs.Common.{◌≡◌, length, ◌-◌, ◌+◌, ◌*◌, run_turns}
use Rattle.choice_interp.proofs.Ways.{IsOnTheWay}
use Rattle.choice_interp.proofs.rerun.run_blocks.Given as goal

abbrev pub invariant-loop-at : goal.invariant-loop-at
invariant-loop-at l = record {
  way : IsOnTheWay l.f l.tape l.jumps l.at l.machine (run_turns l.f l.tape l.turns 0 l.fn.machine);
  turn : l.machine.turn + l.jumps ≡ l.turns;
  registers : length l.machine.registers ≡ length l.fn.machine.registers;
}

abbrev pub decreases-loop-at : goal.decreases-loop-at
decreases-loop-at l = l.jumps * (length l.blocks + 1) + (length l.blocks - l.at)
