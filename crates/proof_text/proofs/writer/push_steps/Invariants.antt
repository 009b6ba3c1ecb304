use Rattle.proof_text.proofs.Common.{◌≡◌, ◌++◌, map, take, ended, step_line}
use Rattle.proof_text.proofs.writer.push_steps.Given as goal

abbrev pub invariant-loop-step : goal.invariant-loop-step
invariant-loop-step l = l.out.items ≡ l.fn.out.items ++ ended (map step_line (take l.step-index l.steps))
