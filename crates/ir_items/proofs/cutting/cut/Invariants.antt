use Rattle.ir_items.proofs.Common.{◌≡◌, ◌≤◌, ◌-◌, length, map, IsCut}
use Rattle.ir_items.proofs.cutting.cut.Given as goal

abbrev pub invariant-loop-at : goal.invariant-loop-at
invariant-loop-at l = record {
  cut : IsCut l.tokens l.at l.defines.items;
  within : l.at ≤ length l.tokens;
  few : length l.defines.items ≤ 4096;
  names : l.names ≡ map (λ d. d.name) l.defines.items;
}

abbrev pub decreases-loop-at : goal.decreases-loop-at
decreases-loop-at l = length l.tokens - l.at
