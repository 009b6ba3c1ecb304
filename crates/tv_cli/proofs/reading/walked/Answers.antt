use Rattle.tv_cli.proofs.Common.{◌≡◌, List, [], Some, map, string_bytes, sym, ap, ◌∙◌, subst, app_of, fault_of, found_of, HasKind, is_simple, is_simple_and_free, rows_of, subcommand_of, subcommand_rows_of, Text, tv_app}
use Rattle.tv_cli.proofs.Walking.{subcommand_pair, walked-found, tv_is_simple, tv_is_read, walked-refused}
use Rattle.tv_cli.proofs.reading.walked.Goals as goal

pub returns-clause-job : goal.returns-clause-job
returns-clause-job c =
    let words : List Text = map string_bytes c.args.words.now in
    let inner = c.in-Some.inner.now in
    let app : app_of c.in_ok-command.command ≡ tv_app = c.in_ok-command.ensures in
    let none : fault_of tv_app words ≡ [] = subst (λ a. fault_of a words ≡ []) app (c.in-Ok.ensures.kinds (ap is_simple_and_free app ∙ tv_is_simple)) in
    let rows = (c.in-Ok.ensures.matches (ap is_simple app ∙ tv_is_read)).1 ∙ ap (λ a. subcommand_of a words) app in
    let pair : subcommand_rows_of c.in-Ok.matches ≡ Some (c.in-Some.name.now, rows_of (found_of inner)) = subcommand_pair _ c.in-Some.name.now (rows_of (found_of inner)) c.in-Some.ensures.name c.in-Some.ensures.rows in
    let found : subcommand_of tv_app words ≡ Some (c.in-Some.name.now, rows_of (found_of inner)) = sym rows ∙ pair in
    c.job_in.ensures.job ∙ sym (walked-found words _ none found)

pub returns-in-Err-clause-job : goal.returns-in-Err-clause-job
returns-in-Err-clause-job c =
    let words : List Text = map string_bytes c.args.words.now in
    let app : app_of c.in_ok-command.command ≡ tv_app = c.in_ok-command.ensures in
    let has : HasKind (fault_of tv_app words) c.in-Err.error = subst (λ a. HasKind (fault_of a words) c.in-Err.error) app (c.in-Err.ensures.kinds (ap is_simple_and_free app ∙ tv_is_simple)) in
    walked-refused words c.in-Err.error has (λ memory.
    let yes = c.is_memory.ensures.1 memory in
    let no = c.if-is_memory.false in cc)
