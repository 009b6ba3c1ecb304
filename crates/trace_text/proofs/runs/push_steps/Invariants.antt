use Rattle.std.proofs.Common.{◌≡◌, ◌++◌, drop}
use Rattle.trace_text.specs.TraceText.{step_texts}
use Rattle.trace_text.proofs.runs.push_steps.Given as goal

abbrev pub invariant-loop-step : goal.invariant-loop-step
invariant-loop-step l = l.out.items ++ step_texts l.f l.choices (drop l.step-index l.steps) ≡ l.fn.out.items ++ step_texts l.f 0 l.steps
