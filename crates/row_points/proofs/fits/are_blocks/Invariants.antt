use Rattle.std.proofs.Common.{◌+◌, drop}
use Rattle.points.specs.Code.{BlocksFit}
use Rattle.row_points.proofs.fits.are_blocks.Given as goal

abbrev pub invariant-loop-place : goal.invariant-loop-place
invariant-loop-place l = BlocksFit l.layout (l.place + 1) (drop l.place l.blocks) → BlocksFit l.layout 1 l.blocks
