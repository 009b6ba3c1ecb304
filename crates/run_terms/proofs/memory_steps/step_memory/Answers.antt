use Rattle.run_terms.proofs.Common.{◌∙◌, ℕ, ap, sym, on_ok_weaker, Local, block_name, local_number, local_named}
use Rattle.run_terms.proofs.Stepping.{steps_on}
use Rattle.run_terms.proofs.memory_steps.step_memory.Goals as goal

pub returns-in_ok-block-in-Alloca-clause-steps : goal.returns-in_ok-block-in-Alloca-clause-steps
returns-in_ok-block-in-Alloca-clause-steps c = rw c.in-Alloca.is
    (on_ok_weaker c.step_alloca.result (λ so. steps_on (so c.in-Alloca.number) (λ g visit turn same.
    ap (block_name g.given) (c.in_ok-block-in-Alloca.ensures ∙ ap (λ (n : ℕ). local_number n c.args.turn c.in-Alloca.number) same)
    ∙ (local_named g.given c.args.turn c.in-Alloca.number (rw c.in-Alloca.is at c.requires.number) ∙ ap (λ (t : ℕ). Local t c.in-Alloca.number) (sym turn)))) c.step_alloca.ensures.steps)

pub returns-in-Load-clause-steps : goal.returns-in-Load-clause-steps
returns-in-Load-clause-steps c = rw c.in-Load.is (on_ok_weaker c.step_load.result (λ so. steps_on so (λ g visit turn. tt)) c.step_load.ensures.steps)

pub returns-in-Store-clause-steps : goal.returns-in-Store-clause-steps
returns-in-Store-clause-steps c = rw c.in-Store.is (on_ok_weaker c.step_store.result (λ so. steps_on so (λ g visit turn. tt)) c.step_store.ensures.steps)

pub returns-in-GetElementPtr-clause-steps : goal.returns-in-GetElementPtr-clause-steps
returns-in-GetElementPtr-clause-steps c = rw c.in-GetElementPtr.is (on_ok_weaker c.step_gep.result (λ so. steps_on (so _ (sym c.as_slice.ensures)) (λ g visit turn. tt)) c.step_gep.ensures.steps)
