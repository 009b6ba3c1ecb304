-- An argument for each parameter so far.
use Rattle.pair_questions.proofs.Common.{◌≡◌, ◌++◌, take, flat_map, Extends, AreArgs, args_widths, arg_ids}
use Rattle.pair_questions.proofs.Extending.{Grows}
use Rattle.pair_questions.proofs.inputs.arg_variables.Given as goal

abbrev pub invariant-loop-parameter : goal.invariant-loop-parameter
invariant-loop-parameter l = record {
  kept : Extends l.fn.terms l.terms;
  args : AreArgs l.terms (take l.parameter-index l.parameters) l.args.items;
  order : Grows l.fn.terms l.terms l.fn.order.items l.order.items (args_widths (take l.parameter-index l.parameters));
  ids : l.order.items ≡ l.fn.order.items ++ flat_map arg_ids l.args.items;
}
