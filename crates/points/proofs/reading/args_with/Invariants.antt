use Rattle.points.proofs.Common.{◌≡◌, ◌≤◌, ◌++◌, length, drop, args_length, args_from}
use Rattle.points.proofs.reading.args_with.Given as goal

abbrev pub invariant-loop-parameter : goal.invariant-loop-parameter
invariant-loop-parameter l = record {
  enough : args_length (drop l.parameter-index l.parameters) ≤ length l.rest;
  read : l.args.items ++ args_from (drop l.parameter-index l.parameters) l.rest ≡ args_from l.parameters l.digits;
}
