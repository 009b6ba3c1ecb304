-- So many blocks so far.
use Rattle.pair_questions.proofs.Common.{◌≡◌, ◌≤◌, ◌++◌, length, flat_map, Extends, Each, IsBlockTerms, blocks_widths, byte_ids}
use Rattle.pair_questions.proofs.Extending.{Grows}
use Rattle.pair_questions.proofs.inputs.blocks_variables.Given as goal

abbrev pub invariant-loop-block : goal.invariant-loop-block
invariant-loop-block l = record {
  within : l._block ≤ l.layout.blocks;
  kept : Extends l.fn.terms l.terms;
  count : length l.places.items ≡ l._block;
  places : Each (IsBlockTerms l.layout.bytes l.terms) l.places.items;
  order : Grows l.fn.terms l.terms l.fn.order.items l.order.items (blocks_widths l.layout l._block);
  ids : l.order.items ≡ l.fn.order.items ++ flat_map (flat_map byte_ids) l.places.items;
}
