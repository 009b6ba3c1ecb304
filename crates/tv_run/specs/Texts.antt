-- The check of two texts: that of two files, `source` and `target`, which hold them.
use Rattle.std.specs.Prelude.{◌≡◌, ℕ, false, List, [], codes, Some}
use Rattle.tv_io.specs.Files.{Files}
use Rattle.ir_tree.specs.declared.module.Module.{Module}
use Rattle.module_files.specs.declared.stop.Stop.{Stop}
use Rattle.module_files.specs.declared.stop.Stop.TheVariants as stop
use Rattle.module_files.specs.Reading.{StopsAtTexts}
use Rattle.module_files.specs.Stops.{stop_status, trouble_line}
use Rattle.points.specs.declared.point.Bounds.{Bounds}
use Rattle.points.specs.declared.point.Budget.{Budget}
use Rattle.tv_cli.specs.Words.{Text, Check}
use Rattle.tv_run.specs.Files.{HasModule}

-- a check of all pairs of files that hold these texts, within these bounds and this budget, whatever they are called
pub record ChecksTexts (source target : List ℕ) (bounds : Bounds) (budget : Budget) (files : Files) (c : Check) : Type 0 where
  pub source_is : files c.source ≡ Some source
  pub target_is : files c.target ≡ Some target
  pub bounds_are : c.bounds ≡ bounds
  pub budget_is : c.budget ≡ budget
  pub first_is : c.first ≡ false

-- a fact of each such check
abbrev pub OfTexts : (source target : List ℕ) → Bounds → Budget → (Files → Check → Type 0) → Type 0
OfTexts source target bounds budget P = (files : Files) (c : Check) → ChecksTexts source target bounds budget files c → P files c

-- both texts are modules
pub record AreModuleTexts (source target : List ℕ) : Type 0 where
  pub source_module : Module
  pub target_module : Module
  pub source_is : HasModule (Some source) source_module
  pub target_is : HasModule (Some target) target_module

-- ---- without a report

-- the line of the file that stops the check; nothing where memory ran out
abbrev pub stop_line : (source target : Text) → Stop → List ℕ
stop_line source target (stop.Source t) = trouble_line source t
stop_line source target (stop.Target t) = trouble_line target t
stop_line source target stop.NoMemory = []

-- the texts are not judged: the first cause, with its status and its line
pub record RefusesTexts (source target : List ℕ) (status : ℕ) (text : List ℕ) : Type 0 where
  pub why : Stop
  pub cause : StopsAtTexts source target why
  pub status_is : status ≡ stop_status why
  pub text_is : text ≡ stop_line (codes "source") (codes "target") why
