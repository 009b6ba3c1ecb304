use Rattle.std.proofs.Common.{◌≡◌, Some, None, codes, option_map, ◌∙◌, sym}
use Rattle.clap.specs.Words.{first_of, found_of, rows_of}
use Rattle.clap.proofs.WalkLemmas.{first_value-rows}
use Rattle.tv_cli.specs.Walked.{bounds_in_rows, budget_in_rows}
use Rattle.trace_cli.specs.Words.{request_with}
use Rattle.trace_cli.proofs.Given.{no_source, no_target, no_function, no_bounds, no_budget}
use Rattle.trace_cli.proofs.reading.request_in.Goals as goal

pub returns-in_default-clause-request : goal.returns-in_default-clause-request
returns-in_default-clause-request c =
    let f = found_of c.args.matches.now in
    let none : None ≡ first_of (codes "A") (rows_of f) = c.in_default.ensures ∙ first_value-rows f (codes "A") in
    sym (no_source _ (first_of (codes "B") (rows_of f)) (first_of (codes "function") (rows_of f)) (first_of (codes "report") (rows_of f)) (bounds_in_rows (rows_of f)) (budget_in_rows (rows_of f)) (sym none))

pub returns-in_default-get_str-clause-request : goal.returns-in_default-get_str-clause-request
returns-in_default-get_str-clause-request c =
    let f = found_of c.args.matches.now in
    let none : None ≡ first_of (codes "B") (rows_of f) = c.in_default-get_str.ensures ∙ first_value-rows f (codes "B") in
    sym (no_target (first_of (codes "A") (rows_of f)) _ (first_of (codes "function") (rows_of f)) (first_of (codes "report") (rows_of f)) (bounds_in_rows (rows_of f)) (budget_in_rows (rows_of f)) (sym none))

pub returns-in_default-get_str-2-clause-request : goal.returns-in_default-get_str-2-clause-request
returns-in_default-get_str-2-clause-request c =
    let f = found_of c.args.matches.now in
    let none : None ≡ first_of (codes "function") (rows_of f) = c.in_default-get_str-2.ensures ∙ first_value-rows f (codes "function") in
    sym (no_function (first_of (codes "A") (rows_of f)) (first_of (codes "B") (rows_of f)) _ (first_of (codes "report") (rows_of f)) (bounds_in_rows (rows_of f)) (budget_in_rows (rows_of f)) (sym none))

pub returns-in_default-bounds_in-clause-request : goal.returns-in_default-bounds_in-clause-request
returns-in_default-bounds_in-clause-request c =
    let f = found_of c.args.matches.now in
    sym (no_bounds (first_of (codes "A") (rows_of f)) (first_of (codes "B") (rows_of f)) (first_of (codes "function") (rows_of f)) (first_of (codes "report") (rows_of f)) _ (budget_in_rows (rows_of f)) (sym c.in_default-bounds_in.ensures.value))

pub returns-in_default-budget_in-clause-request : goal.returns-in_default-budget_in-clause-request
returns-in_default-budget_in-clause-request c =
    let f = found_of c.args.matches.now in
    sym (no_budget (first_of (codes "A") (rows_of f)) (first_of (codes "B") (rows_of f)) (first_of (codes "function") (rows_of f)) (first_of (codes "report") (rows_of f)) (bounds_in_rows (rows_of f)) _ (sym c.in_default-budget_in.ensures.value))

pub returns-clause-request : goal.returns-clause-request
returns-clause-request c =
    let f = found_of c.args.matches.now in
    let source : Some c.in-Some.source.now ≡ first_of (codes "A") (rows_of f) = c.in-Some.ensures ∙ first_value-rows f (codes "A") in
    let target : Some c.in-Some-get_str.target.now ≡ first_of (codes "B") (rows_of f) = c.in-Some-get_str.ensures ∙ first_value-rows f (codes "B") in
    let function : Some c.in-Some-get_str-2.function.now ≡ first_of (codes "function") (rows_of f) = c.in-Some-get_str-2.ensures ∙ first_value-rows f (codes "function") in
    let report : option_map (λ s. s.now) c.get_str-report.result ≡ first_of (codes "report") (rows_of f) = c.get_str-report.ensures ∙ first_value-rows f (codes "report") in
    (λ i. request_with (source i) (target i) (function i) (report i) (c.in-Some-bounds_in.ensures.value i) (c.in-Some-budget_in.ensures.value i))
