use Rattle.ir_items.proofs.Common.{◌-◌, length, IsBalanced, OtherGoesOn}
use Rattle.ir_items.proofs.cutting.other_end.Given as goal

abbrev pub invariant-loop-place : goal.invariant-loop-place
invariant-loop-place l = record {
  goes_on : OtherGoesOn l.tokens l.first l.place;
  balanced : IsBalanced l.tokens l.first l.place;
}

abbrev pub decreases-loop-place : goal.decreases-loop-place
decreases-loop-place l = length l.tokens - l.place
