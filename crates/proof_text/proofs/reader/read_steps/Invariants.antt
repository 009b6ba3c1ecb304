use Rattle.proof_text.proofs.Common.{◌≡◌, ◌-◌, All, length, map, IsStepOver, step_line, Moves, Steps}
use Rattle.proof_text.proofs.reader.read_steps.Given as goal

abbrev pub invariant-loop-index : goal.invariant-loop-index
invariant-loop-index l = record {
  count : length l.all ≡ l.index;
  fit : All (IsStepOver l.variables) l.all;
  moves : Moves (Steps l.variables l.count) l.fn.lines (map step_line l.all) (Steps l.variables (l.count - l.index)) l.lines;
}
