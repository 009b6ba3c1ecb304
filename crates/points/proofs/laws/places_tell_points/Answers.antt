use Rattle.points.proofs.Same.{places_tell_points}
use Rattle.points.proofs.laws.places_tell_points.Goals as goal

pub returns : goal.returns
returns c = places_tell_points
