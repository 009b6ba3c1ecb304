-- What the runs of one function reuse.
use Rattle.std.specs.Prelude.{◌≡◌, length}
use Rattle.ir_tree.specs.declared.tree.Function.{Function}
use Rattle.ir_tree.specs.BlockIndexes.{IsIndex}
use Rattle.choice_interp.specs.declared.runners.Runner.{Runner}

-- a machine for the function, and the indices of its labels
pub record IsRunner (f : Function) (runner : Runner) : Type 0 where
  pub registers : length runner.machine.registers ≡ length f.names
  pub index : IsIndex f runner.index
