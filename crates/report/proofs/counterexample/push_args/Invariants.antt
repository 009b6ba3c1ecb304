use Rattle.std.proofs.Common.{◌≡◌, drop, ◌++◌}
use Rattle.report.specs.Text.{arg_lines}
use Rattle.report.proofs.counterexample.push_args.Given as goal

abbrev pub invariant-loop-place : goal.invariant-loop-place
invariant-loop-place l = l.out.items ++ arg_lines l.place (drop l.place l.args) ≡ l.fn.out.items ++ arg_lines 0 l.args
