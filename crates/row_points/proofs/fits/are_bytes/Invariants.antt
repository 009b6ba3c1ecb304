use Rattle.std.proofs.Common.{length}
use Rattle.points.specs.Code.{BytesFit}
use Rattle.row_points.proofs.fits.are_bytes.Given as goal

abbrev pub invariant-loop-rest : goal.invariant-loop-rest
invariant-loop-rest l = BytesFit l.layout l.rest → BytesFit l.layout l.fn.bytes

abbrev pub decreases-loop-rest : goal.decreases-loop-rest
decreases-loop-rest l = length l.rest
