use Rattle.run_trace.proofs.Common.{List, drop, refl, sym, ap, ◌∙◌, Value, values_of, words_since, value_of_exit, block_of_exit, taken_by_exit}
use Rattle.run_trace.proofs.Terminators.{taken_by-exit_with}
use Rattle.run_trace.proofs.ends.end_step.Goals as goal

pub returns : goal.returns
returns c = λ f tape m k is.
    let n = c.args.machine.now in
    let leaving = c.args.leaving.now in
    record {
      block = refl;
      turn = is.turn;
      site = refl;
      operands =
          c.in_ok-values.ensures ∙ ap (λ (rs : List Value). values_of rs c.as_slice-2.result.now) (c.as_slice.ensures ∙ is.registers)
          ∙ ap (values_of m.registers) (c.as_slice-2.ensures ∙ c.in_ok-operands.ensures);
      result = c.value_of_exit.ensures n ∙ ap value_of_exit (sym is.exit);
      taken =
          c.in_ok-words_after.ensures ∙ ap (λ i. drop i n.taken) is.read ∙ ap (words_since m) (sym (taken_by-exit_with leaving.left n))
          ∙ ap (λ x. words_since m (taken_by_exit x)) (sym is.exit);
      to = is.to ∙ ap (block_of_exit f) (sym is.exit);
      location = refl;
      reason = c.end_reason.ensures f tape m k is;
    }
