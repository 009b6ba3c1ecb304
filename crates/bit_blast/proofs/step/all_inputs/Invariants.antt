use Rattle.std.proofs.Common.{◌≡◌, take}
use Rattle.bit_blast.specs.Table.{all_digits}
use Rattle.bit_blast.proofs.step.all_inputs.Given as goal

abbrev pub invariant-loop-place : goal.invariant-loop-place
invariant-loop-place l = l.all.items ≡ all_digits (take l.place l.table.entries)
