use Rattle.points.proofs.Common.{◌≡◌, ◌++◌, drop, Layout, args_code}
use Rattle.points.proofs.codes.push_args.Given as goal

abbrev pub invariant-loop-i : goal.invariant-loop-i
invariant-loop-i l = (layout : Layout) → l.code.items ++ args_code layout (drop l.i l.parameters) (drop l.i l.args) ≡ l.fn.code.items ++ args_code layout l.parameters l.args
