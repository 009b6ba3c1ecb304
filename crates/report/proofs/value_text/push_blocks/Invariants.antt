use Rattle.std.proofs.Common.{◌≡◌, drop, ◌++◌}
use Rattle.std.specs.List.{flat_map}
use Rattle.report.specs.Text.{block_line}
use Rattle.report.proofs.value_text.push_blocks.Given as goal

abbrev pub invariant-loop-block : goal.invariant-loop-block
invariant-loop-block l = l.out.items ++ flat_map (block_line l.label) (drop l.block-index l.blocks) ≡ l.fn.out.items ++ flat_map (block_line l.label) l.blocks
