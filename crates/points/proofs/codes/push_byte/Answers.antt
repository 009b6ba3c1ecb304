use Rattle.points.proofs.Common.{rules}
use Rattle.points.proofs.codes.push_byte.Goals as goal

pub returns-in_ok-extend_from_slice-in-Part : goal.returns-in_ok-extend_from_slice-in-Part
returns-in_ok-extend_from_slice-in-Part c = λ layout. rw (c.in-Part.is, ← c.name_number.ensures layout) (search rules)
