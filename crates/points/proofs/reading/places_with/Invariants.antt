use Rattle.points.proofs.Cursor.{AreToRead}
use Rattle.points.proofs.reading.places_with.Given as goal

abbrev pub invariant-loop-place : goal.invariant-loop-place
invariant-loop-place l = AreToRead l.room l._place l.places.items l.rest l.digits
