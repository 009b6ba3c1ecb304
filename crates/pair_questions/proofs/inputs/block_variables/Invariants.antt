-- This number of bytes so far.
use Rattle.pair_questions.proofs.Common.{◌≡◌, ◌≤◌, ◌++◌, length, flat_map, Extends, Each, IsByteTerms, places_widths, byte_ids}
use Rattle.pair_questions.proofs.Extending.{Grows}
use Rattle.pair_questions.proofs.inputs.block_variables.Given as goal

abbrev pub invariant-loop-place : goal.invariant-loop-place
invariant-loop-place l = record {
  within : l._place ≤ l.bytes;
  kept : Extends l.fn.terms l.terms;
  count : length l.places.items ≡ l._place;
  places : Each (IsByteTerms l.terms) l.places.items;
  order : Grows l.fn.terms l.terms l.fn.order.items l.order.items (places_widths l._place);
  ids : l.order.items ≡ l.fn.order.items ++ flat_map byte_ids l.places.items;
}
