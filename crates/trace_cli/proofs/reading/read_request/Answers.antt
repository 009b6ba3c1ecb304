use Rattle.std.proofs.Common.{◌≡◌, List, [], map, string_bytes, ap, ◌∙◌, subst}
use Rattle.clap.specs.Words.{app_of, fault_of, HasKind, is_simple, is_simple_and_free, matches_of}
use Rattle.tv_cli.specs.Words.{Text}
use Rattle.trace_cli.specs.Words.{trace_app}
use Rattle.trace_cli.proofs.Given.{trace_is_simple, trace_is_read, walked-found, walked-refused}
use Rattle.trace_cli.proofs.reading.read_request.Goals as goal

pub returns-clause-request : goal.returns-clause-request
returns-clause-request c =
    let words : List Text = map string_bytes c.args.words.now in
    let app : app_of c.in_ok-command.command ≡ trace_app = c.in_ok-command.ensures in
    let none : fault_of trace_app words ≡ [] = subst (λ a. fault_of a words ≡ []) app (c.in-Ok.ensures.kinds (ap is_simple_and_free app ∙ trace_is_simple)) in
    let rows = (c.in-Ok.ensures.matches (ap is_simple app ∙ trace_is_read)).0 ∙ ap (λ a. matches_of a words) app in
    c.request_in.ensures.request ∙ walked-found words _ none rows

pub returns-in-Err-clause-request : goal.returns-in-Err-clause-request
returns-in-Err-clause-request c =
    let words : List Text = map string_bytes c.args.words.now in
    let app : app_of c.in_ok-command.command ≡ trace_app = c.in_ok-command.ensures in
    let has : HasKind (fault_of trace_app words) c.in-Err.error = subst (λ a. HasKind (fault_of a words) c.in-Err.error) app (c.in-Err.ensures.kinds (ap is_simple_and_free app ∙ trace_is_simple)) in
    walked-refused words c.in-Err.error has (λ memory.
    let yes = c.is_memory.ensures.1 memory in
    let no = c.if-is_memory.false in cc)
