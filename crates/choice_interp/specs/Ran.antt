-- What is reported of a run.
use Rattle.std.specs.Prelude.{◌≡◌, ◌↔◌, IsTrue, ℕ, List, length}
use Rattle.byte_block.specs.declared.block.MemoryBlock.{MemoryBlock}
use Rattle.points.specs.declared.machine.Machine.{Machine}
use Rattle.points.specs.declared.outcome.Outcome.{Outcome}
use Rattle.points.specs.declared.outcome.Outcome.TheVariants as outcome
use Rattle.points.specs.Run.{Run, IsPlain}
use Rattle.choice_interp.specs.declared.ending.Ending.{Ending}
use Rattle.choice_interp.specs.declared.ending.Ending.TheVariants.{Return, Ub, Beyond}
use Rattle.choice_interp.specs.declared.run.Ran.{Ran}

-- the outcome with the memory that the run left
abbrev pub outcome_of : Ending → List MemoryBlock → Outcome
outcome_of (Return v) memory = outcome.Return v memory
outcome_of Ub memory = outcome.Ub
outcome_of Beyond memory = outcome.Beyond

-- the run that ended this way and left this machine
abbrev pub run_with : Ending → Machine → Run
run_with ending m = record { outcome = outcome_of ending m.memory; taken = m.taken }

pub record Shows (tape : List ℕ) (run : Run) (ran : Ran) : Type 0 where
  pub outcome : ran.outcome ≡ run.outcome
  pub read : ran.read ≡ length run.taken
  pub plain : IsTrue ran.plain ↔ IsPlain tape run
