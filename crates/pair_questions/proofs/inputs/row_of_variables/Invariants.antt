-- So many variables so far.
use Rattle.pair_questions.proofs.Common.{◌≡◌, ◌≤◌, ◌++◌, length, replicate, Extends, IsTerm, Each}
use Rattle.pair_questions.proofs.Extending.{Grows}
use Rattle.pair_questions.proofs.inputs.row_of_variables.Given as goal

abbrev pub invariant-loop-variable : goal.invariant-loop-variable
invariant-loop-variable l = record {
  within : l._variable ≤ l.count;
  kept : Extends l.fn.terms l.terms;
  count : length l.row.items ≡ l._variable;
  row : Each (IsTerm l.terms l.width) l.row.items;
  order : Grows l.fn.terms l.terms l.fn.order.items l.order.items (replicate l._variable l.width);
  ids : l.order.items ≡ l.fn.order.items ++ l.row.items;
}
