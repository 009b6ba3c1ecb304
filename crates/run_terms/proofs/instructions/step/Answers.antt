use Rattle.run_terms.proofs.Stepping.{steps_on}
use Rattle.run_terms.proofs.instructions.step.Goals as goal

pub returns-in_ok-step_binary-in-Binary-clause-steps : goal.returns-in_ok-step_binary-in-Binary-clause-steps
returns-in_ok-step_binary-in-Binary-clause-steps c = rw c.in-Binary.is (steps_on c.in_ok-step_binary-in-Binary.ensures.steps (λ g at here. tt))

pub returns-in_ok-step_icmp-in-Icmp-clause-steps : goal.returns-in_ok-step_icmp-in-Icmp-clause-steps
returns-in_ok-step_icmp-in-Icmp-clause-steps c = rw c.in-Icmp.is (steps_on c.in_ok-step_icmp-in-Icmp.ensures.steps (λ g at here. tt))

pub returns-in_ok-step_cast-in-Cast-clause-steps : goal.returns-in_ok-step_cast-in-Cast-clause-steps
returns-in_ok-step_cast-in-Cast-clause-steps c = rw c.in-Cast.is (steps_on c.in_ok-step_cast-in-Cast.ensures.steps (λ g at here. tt))

pub returns-in_ok-step_select-in-Select-clause-steps : goal.returns-in_ok-step_select-in-Select-clause-steps
returns-in_ok-step_select-in-Select-clause-steps c = rw c.in-Select.is (steps_on c.in_ok-step_select-in-Select.ensures.steps (λ g at here. tt))

pub returns-in_ok-step_freeze-in-Freeze-clause-steps : goal.returns-in_ok-step_freeze-in-Freeze-clause-steps
returns-in_ok-step_freeze-in-Freeze-clause-steps c = rw c.in-Freeze.is (steps_on c.in_ok-step_freeze-in-Freeze.ensures.steps (λ g at here. here.1))

pub returns-in_ok-step_memory-in-Alloca-clause-steps : goal.returns-in_ok-step_memory-in-Alloca-clause-steps
returns-in_ok-step_memory-in-Alloca-clause-steps c = steps_on c.in_ok-step_memory-in-Alloca.ensures.steps (λ g at here. here.0)
