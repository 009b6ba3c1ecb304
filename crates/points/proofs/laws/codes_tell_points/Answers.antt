use Rattle.points.proofs.Decoded.{codes_tell_points}
use Rattle.points.proofs.laws.codes_tell_points.Goals as goal

pub returns : goal.returns
returns c = codes_tell_points
