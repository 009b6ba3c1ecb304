-- What `make` writes: the first and the last line of the report of the pair of modules that a seed makes, and between them what was made.
use Rattle.std.specs.Prelude.{◌≡◌, ◌≤◌, ℕ, Bool, false, true, List, [], ◌∷◌, ◌++◌, codes}
use Rattle.std.specs.Fmt.{decimal}
use Rattle.tv_io.specs.State.{SinkState}
use Rattle.tv_io.specs.Taken.{IsWritten, IsCutOff}
use Rattle.ir_tree.specs.declared.module.Module.{Module}
use Rattle.ir_reader.specs.Module.{IsModule}
use Rattle.ir_printer.specs.Made.{made_module}
use Rattle.ir_printer.specs.ModuleText.{module_text}
use Rattle.read_back.specs.SameModule.{IsSameModule}
use Rattle.pair_driver.specs.declared.judged.Judged.{Judged}
use Rattle.report.specs.Text.{summary_text}
use Rattle.tv_cli.specs.Words.{Make}
use Rattle.tv_run.specs.Reports.{IsReport}
use Rattle.tv_run.specs.Sound.{IsSound}

-- the source of the pair, or its target
abbrev pub made : (in_target : Bool) → Make → Module
made in_target m = made_module in_target m.seed m.functions m.insts

-- what is read of a module that was made and printed: the same module
pub record IsReadBack (written read : Module) : Type 0 where
  pub is_module : IsModule (module_text written) read
  pub same : IsSameModule written read

-- the seed, how many functions there are, and how many instructions each has
abbrev pub make_line : Make → List ℕ
make_line m = codes "make seed " ++ decimal m.seed ++ codes " functions " ++ decimal m.functions ++ codes " insts " ++ decimal m.insts ++ 10 ∷ []

-- the three lines of two modules and their status, with the judge's answers; the rows that are
-- counted are sound
pub record IsSummary (m : Make) (source target : Module) (answers : List Judged) (text : List ℕ) (status : ℕ) : Type 0 where
  pub whole : List ℕ
  pub report : IsReport false m.bounds m.budget source target answers whole status
  pub sound : IsSound false m.bounds source target report.rows
  pub text_is : text ≡ summary_text m.bounds m.budget (make_line m) report.rows

-- those of a made pair
pub record SaysMade (m : Make) (answers : List Judged) (text : List ℕ) (status : ℕ) : Type 0 where
  pub source : Module
  pub target : Module
  pub source_is : IsReadBack (made false m) source
  pub target_is : IsReadBack (made true m) target
  pub summary : IsSummary m source target answers text status

-- the sink took these lines, and nothing else
pub record MadeWritten (m : Make) (status : ℕ) (answers : List Judged) (old new : SinkState) : Type 0 where
  pub text : List ℕ
  pub says : SaysMade m answers text status
  pub written : IsWritten text old new

-- the sink had no room for them, and took a prefix
pub record MadePartlyWritten (m : Make) (answers : List Judged) (old new : SinkState) : Type 0 where
  pub text : List ℕ
  pub status : ℕ
  pub says : SaysMade m answers text status
  pub cut_off : IsCutOff text old new

-- what `make` writes, by status
pub record IsMade (m : Make) (result : ℕ) (answers : List Judged) (old new : SinkState)
    : Type 0 where
  pub whole : result ≤ 3 → MadeWritten m result answers old new
  pub part : result ≡ 7 → MadePartlyWritten m answers old new
