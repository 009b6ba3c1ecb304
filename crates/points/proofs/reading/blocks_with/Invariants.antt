use Rattle.points.proofs.Common.{◌≡◌, ◌+◌, ◌++◌, drop, blocks_from, HaveBlocks}
use Rattle.points.proofs.reading.blocks_with.Given as goal

abbrev pub invariant-loop-i : goal.invariant-loop-i
invariant-loop-i l = record {
  enough : HaveBlocks l.layout (drop l.i l.sizes) l.rest;
  read : l.blocks.items ++ blocks_from l.layout (l.i + 1) (drop l.i l.sizes) l.rest ≡ blocks_from l.layout 1 l.sizes l.digits;
}
