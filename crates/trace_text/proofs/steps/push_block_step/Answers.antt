use Rattle.std.proofs.Common.{append-nil, sym}
use Rattle.trace_text.proofs.steps.push_block_step.Goals as goal

pub returns-in-Some : goal.returns-in-Some
returns-in-Some c = rw c.in-Some.ensures.found c.push_step_of.ensures

pub returns-in-None : goal.returns-in-None
returns-in-None c = rw c.in-None.ensures.none (sym (append-nil c.args.out.now.items))
