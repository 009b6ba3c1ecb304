use Rattle.tv_cli.proofs.Common.{◌≡◌, Some, None, codes, true, false, true≢false, sym, ◌∙◌, bytes_eq, bytes_eq-Decides, slice_eq-Decides, first_of, found_of, rows_of, first_value-rows}
use Rattle.std.proofs.lemmas.Bool.Decides.{Decides-eqb}
use Rattle.tv_cli.proofs.Given.{log_in_rows, other_text}
use Rattle.tv_cli.proofs.reading.job_in.Goals as goal

pub returns-in_default-get_str-clause-job : goal.returns-in_default-get_str-clause-job
returns-in_default-get_str-clause-job c =
    let f = found_of c.args.matches.now in
    let name = c.args.name.now in
    let file : None ≡ first_of (codes "FILE") (rows_of f) = c.in_default-get_str.ensures ∙ first_value-rows f (codes "FILE") in
    let other : bytes_eq (codes "check") name ≡ false = other_text name (codes "check") (λ e. true≢false (sym ((slice_eq-Decides Decides-eqb name (codes "check") c.eq.result c.eq.ensures).1 e) ∙ c.if-eq.false)) in
    let same : bytes_eq (codes "log") name ≡ true = (bytes_eq-Decides (codes "log") name).1 (sym ((slice_eq-Decides Decides-eqb name (codes "log") c.eq-2.result c.eq-2.ensures).0 c.if-eq-2.true)) in
    log_in_rows name (rows_of f) None other same file

pub returns-then-eq-2-clause-job : goal.returns-then-eq-2-clause-job
returns-then-eq-2-clause-job c =
    let f = found_of c.args.matches.now in
    let name = c.args.name.now in
    let file : Some c.in-Some-get_str.file.now ≡ first_of (codes "FILE") (rows_of f) = c.in-Some-get_str.ensures ∙ first_value-rows f (codes "FILE") in
    let other : bytes_eq (codes "check") name ≡ false = other_text name (codes "check") (λ e. true≢false (sym ((slice_eq-Decides Decides-eqb name (codes "check") c.eq.result c.eq.ensures).1 e) ∙ c.if-eq.false)) in
    let same : bytes_eq (codes "log") name ≡ true = (bytes_eq-Decides (codes "log") name).1 (sym ((slice_eq-Decides Decides-eqb name (codes "log") c.eq-2.result c.eq-2.ensures).0 c.if-eq-2.true)) in
    log_in_rows name (rows_of f) (Some c.in-Some-get_str.file.now) other same file
