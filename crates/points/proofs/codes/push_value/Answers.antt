use Rattle.points.proofs.Common.{rules}
use Rattle.points.proofs.codes.push_value.Goals as goal

pub returns-in_ok-extend_from_slice-in-Ptr-Ptr : goal.returns-in_ok-extend_from_slice-in-Ptr-Ptr
returns-in_ok-extend_from_slice-in-Ptr-Ptr c = λ layout. rw (c.in-Ptr-Ptr.is-0, c.in-Ptr-Ptr.is-1, ← c.name_number.ensures layout) (search rules)
