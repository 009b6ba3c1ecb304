-- What the arguments of `tv_trace` ask for, as `clap` walks them.
use Rattle.std.specs.Prelude.{true, List, Option, None, Some, codes}
use Rattle.clap.specs.Words.{App, Row, Rule, fault_of, first_of, matches_of, new_app, with_rule}
use Rattle.clap.specs.Simple.{on_top}
use Rattle.points.specs.declared.point.Bounds.{Bounds}
use Rattle.points.specs.declared.point.Budget.{Budget}
use Rattle.tv_cli.specs.Words.{Text}
use Rattle.tv_cli.specs.Walked.{bounds_in_rows, budget_in_rows, name_rule, option_rule, unless_fault}

-- the counterexample of the function of this name, of two files, within these bounds and this budget, and the report that may have it
pub record Request : Type 0 where
  pub source : Text
  pub target : Text
  pub function : Text
  pub report : Option Text
  pub bounds : Bounds
  pub budget : Budget

-- ---- the command line

-- `--function NAME`, which has to be given
abbrev pub function_rule : Rule
function_rule = record (option_rule (codes "function")) { required = true }

-- two files, the name, and `--report FILE` at most once
abbrev pub named_app : App
named_app = with_rule (with_rule (with_rule (with_rule (on_top (λ s. record s { disable_help_flag = true }) (new_app (codes "tv_trace"))) (name_rule (codes "A"))) (name_rule (codes "B"))) function_rule) (option_rule (codes "report"))

abbrev pub bounded_app : App
bounded_app = with_rule (with_rule (with_rule named_app (option_rule (codes "turns"))) (option_rule (codes "blocks"))) (option_rule (codes "bytes"))

-- and the bounds and the budget, each at most once
abbrev pub trace_app : App
trace_app = with_rule (with_rule (with_rule bounded_app (option_rule (codes "rounds"))) (option_rule (codes "conflicts"))) (option_rule (codes "weight"))

-- ---- what it asks for

abbrev pub request_with : Option Text → Option Text → Option Text → Option Text → Option Bounds → Option Budget → Option Request
request_with (Some source) (Some target) (Some function) report (Some bounds) (Some budget) =
    Some (record { source = source; target = target; function = function; report = report; bounds = bounds; budget = budget })
request_with _ _ _ _ _ _ = None

-- by the values of the arguments
abbrev pub request_in_rows : List Row → Option Request
request_in_rows rows =
    request_with (first_of (codes "A") rows) (first_of (codes "B") rows) (first_of (codes "function") rows) (first_of (codes "report") rows) (bounds_in_rows rows) (budget_in_rows rows)

-- of the arguments, the program's name first
abbrev pub request_of : List Text → Option Request
request_of words = unless_fault (fault_of trace_app words) (request_in_rows (matches_of trace_app words))
