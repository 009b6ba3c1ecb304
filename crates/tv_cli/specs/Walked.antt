-- What `clap` walks the arguments by, and what its matches say. `specs/Words` says what the arguments mean.
use Rattle.std.specs.Prelude.{ℕ, Bool, true, false, if◌then◌else◌, List, [], ◌∷◌, Option, None, Some, codes, option_map, option_and_then}
use Rattle.std.specs.Option.{option_map_or}
use Rattle.std.specs.Str.{bytes_eq}
use Rattle.clap.specs.Words.{App, Row, Rule, Kinds, fault_of, first_of, one_of, new_app, new_rule, subcommand_of, with_rule, with_subcommand}
use Rattle.clap.specs.Simple.{on_top}
use Rattle.clap.specs.declared.builder.ArgAction.TheVariants.{Set, SetTrue}
use Rattle.points.specs.declared.point.Bounds.{Bounds}
use Rattle.points.specs.declared.point.Budget.{Budget}
use Rattle.tv_cli.specs.declared.number.Range.{Range}
use Rattle.tv_cli.specs.Words.Job.{check, log, make}
use Rattle.tv_cli.specs.Words.{Check, Make, Job, Text, number_within, bounds_with, budget_with, check_with, make_with, turns_range, blocks_range, bytes_range, rounds_range, conflicts_range, weight_range, workers_range, seed_range, functions_range, insts_range}

-- an option `--name VALUE`
abbrev pub option_rule : Text → Rule
option_rule name = record (new_rule name) { long = Some name; action = Some Set }

-- a flag `--name`
abbrev pub flag_rule : Text → Rule
flag_rule name = record (new_rule name) { long = Some name; action = Some SetTrue }

abbrev pub name_rule : Text → Rule
name_rule name = record (new_rule name) { required = true; action = Some Set }

abbrev pub bounded_app : App
bounded_app = with_rule (with_rule (with_rule (with_rule (with_rule (new_app (codes "check")) (name_rule (codes "A"))) (name_rule (codes "B"))) (option_rule (codes "turns"))) (option_rule (codes "blocks"))) (option_rule (codes "bytes"))

abbrev pub check_app : App
check_app = with_rule (with_rule (with_rule (with_rule (with_rule (with_rule bounded_app (option_rule (codes "rounds"))) (option_rule (codes "conflicts"))) (option_rule (codes "weight"))) (option_rule (codes "workers"))) (option_rule (codes "proof"))) (flag_rule (codes "first"))

abbrev pub log_app : App
log_app = with_rule (new_app (codes "log")) (name_rule (codes "FILE"))

abbrev pub limited_app : App
limited_app = with_rule (with_rule (with_rule (with_rule (with_rule (new_app (codes "make")) (option_rule (codes "turns"))) (option_rule (codes "blocks"))) (option_rule (codes "bytes"))) (option_rule (codes "rounds"))) (option_rule (codes "conflicts"))

abbrev pub make_app : App
make_app = with_rule (with_rule (with_rule (with_rule (with_rule limited_app (option_rule (codes "weight"))) (option_rule (codes "workers"))) (option_rule (codes "seed"))) (option_rule (codes "functions"))) (option_rule (codes "insts"))

-- the command line of the program
abbrev pub tv_app : App
tv_app = with_subcommand (with_subcommand (with_subcommand (on_top (λ s. record s { disable_help_flag = true; disable_help_subcommand = true; subcommand_required = true }) (new_app (codes "tv"))) check_app.top) log_app.top) make_app.top

-- the number of an option, by its written value
abbrev pub number_or_usual : Range → Option Text → Option ℕ
number_or_usual range None = Some range.usual
number_or_usual range (Some text) = number_within range text

-- whether a flag is set: its value is `true` where it occurs, and else `false`
abbrev pub is_set : Text → List Row → Bool
is_set name rows = option_map_or (λ text. bytes_eq text (codes "true")) (one_of name rows) false

abbrev pub bounds_in_rows : List Row → Option Bounds
bounds_in_rows rows = bounds_with (number_or_usual turns_range (first_of (codes "turns") rows)) (number_or_usual blocks_range (first_of (codes "blocks") rows)) (number_or_usual bytes_range (first_of (codes "bytes") rows))

abbrev pub budget_in_rows : List Row → Option Budget
budget_in_rows rows = budget_with (number_or_usual rounds_range (first_of (codes "rounds") rows)) (number_or_usual conflicts_range (first_of (codes "conflicts") rows)) (number_or_usual weight_range (first_of (codes "weight") rows))

abbrev pub check_of_names : Option Text → Option Text → List Row → Option Check
check_of_names (Some source) (Some target) rows =
    check_with source target (bounds_in_rows rows) (budget_in_rows rows) (number_or_usual workers_range (first_of (codes "workers") rows)) (Some (first_of (codes "proof") rows)) (Some (is_set (codes "first") rows))
check_of_names _ _ rows = None

-- what the matches of `check` ask for
abbrev pub check_in_rows : List Row → Option Check
check_in_rows rows = check_of_names (first_of (codes "A") rows) (first_of (codes "B") rows) rows

-- what the matches of `make` ask for
abbrev pub make_in_rows : List Row → Option Make
make_in_rows rows =
    make_with (number_or_usual seed_range (first_of (codes "seed") rows)) (number_or_usual functions_range (first_of (codes "functions") rows)) (number_or_usual insts_range (first_of (codes "insts") rows))
    (bounds_in_rows rows) (budget_in_rows rows) (number_or_usual workers_range (first_of (codes "workers") rows))

-- what the matches of a command ask for
abbrev pub job_in_rows : Text × List Row → Option Job
job_in_rows command =
    (if bytes_eq (codes "check") command.0 then option_map check (check_in_rows command.1)
    else (if bytes_eq (codes "log") command.0 then option_map log (first_of (codes "FILE") command.1) else option_map make (make_in_rows command.1)))

abbrev pub unless_fault : {A : Type 0} → Kinds → Option A → Option A
unless_fault [] found = found
unless_fault (kind ∷ kinds) found = None

-- the job that a walk of the arguments gives
abbrev pub job_walked : List Text → Option Job
job_walked words = unless_fault (fault_of tv_app words) (option_and_then job_in_rows (subcommand_of tv_app words))
