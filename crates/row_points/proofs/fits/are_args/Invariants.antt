use Rattle.std.proofs.Common.{length}
use Rattle.points.specs.Code.{ArgsFit}
use Rattle.row_points.proofs.fits.are_args.Given as goal

abbrev pub invariant-loop-types : goal.invariant-loop-types
invariant-loop-types l = ArgsFit l.layout l.types l.values → ArgsFit l.layout l.fn.parameters l.fn.args

abbrev pub decreases-loop-types : goal.decreases-loop-types
decreases-loop-types l = length l.types
