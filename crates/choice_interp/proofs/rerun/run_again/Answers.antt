use Rattle.choice_interp.proofs.Common.{◌≡◌, List, Bool, true, false, sym, ap, ◌∙◌, Value, Machine, Ub, ended, run_turns, breaks_noundef, run_broken, run_unbroken}
use Rattle.ir_tree.specs.declared.tree.Parameter.{Parameter}
use Rattle.choice_interp.proofs.Endings.{left_freed}
use Rattle.choice_interp.proofs.rerun.run_again.Goals as goal

-- what the test answers of slices is so of the lists
args_break : {ps qs : List Parameter} {vs ws : List Value} {answer holds : Bool} → ps ≡ qs → vs ≡ ws → answer ≡ breaks_noundef ps vs → answer ≡ holds → breaks_noundef qs ws ≡ holds
args_break e f is holds = rw (← e, ← f, ← is) holds

pub returns-then-breaks_no_undef-clause-run : goal.returns-then-breaks_no_undef-clause-run
returns-then-breaks_no_undef-clause-run c =
    let broken : breaks_noundef c.args.f.now.parameters c.args.input.now.args ≡ true = args_break c.as_slice.ensures c.as_slice-2.ensures c.breaks_no_undef.ensures c.if-breaks_no_undef.true in
    run_broken c.args.f.now c.args.bounds.now c.args.input.now c.args.tape.now broken ∙ ap (λ (m : Machine). ended Ub m) (sym c.in_ok-begin.ensures.value)

pub returns-clause-run : goal.returns-clause-run
returns-clause-run c =
    let f = c.args.f.now in
    let sound : breaks_noundef f.parameters c.args.input.now.args ≡ false = args_break c.as_slice.ensures c.as_slice-2.ensures c.breaks_no_undef.ensures c.if-breaks_no_undef.false in
    run_unbroken f c.args.bounds.now c.args.input.now c.args.tape.now sound
    ∙ ap (λ (m : Machine). run_turns f c.args.tape.now c.args.bounds.now.turns 0 m) (sym c.in_ok-begin.ensures.value) ∙ c.in_ok-ending.ensures.run
    ∙ left_freed c.in_ok-ending.ending c.run_blocks.new.machine c.free_locals.new.memory c.free_locals.ensures
