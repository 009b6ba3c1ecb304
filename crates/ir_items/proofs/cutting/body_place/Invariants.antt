use Rattle.ir_items.proofs.Common.{ℕ, ◌-◌, length, IsBalanced, BeforeBody}
use Rattle.ir_items.proofs.cutting.body_place.Given as goal

abbrev pub invariant-loop-place : goal.invariant-loop-place
invariant-loop-place l = (first name : ℕ) → BeforeBody l.tokens first name l.fn.behind → IsBalanced l.tokens first l.fn.behind → BeforeBody l.tokens first name l.place × IsBalanced l.tokens first l.place

abbrev pub decreases-loop-place : goal.decreases-loop-place
decreases-loop-place l = length l.tokens - l.place
