use Rattle.ir_numbering.proofs.Common.{◌≡◌, [], into_iter_items, named_behind}
use Rattle.ir_numbering.proofs.numbering.named_parameters.Given as goal

abbrev pub invariant-loop-parameter : goal.invariant-loop-parameter
invariant-loop-parameter l = named_behind l.all.items (into_iter_items l.parameter-iterator) ≡ named_behind [] l.fn.parameters
