use Rattle.std.proofs.Common.{◌≡◌, ◌≤◌}
use Rattle.lowering.specs.Lowered.{most_leaves}
use Rattle.lowering.proofs.stack_names.stack_height.Given as goal

abbrev pub invariant-loop-name : goal.invariant-loop-name
invariant-loop-name l = record {
  most : l.most ≡ most_leaves l.plan.f.now l.name;
  fits : l.most ≤ 255;
}
