use Rattle.tv_cli.proofs.Common.{◌≡◌, Some, None, codes, ◌∙◌, sym, ap, first_of, found_of, rows_of, first_value-rows, check_with, check_of_names}
use Rattle.tv_cli.proofs.Given.{no_target}
use Rattle.tv_cli.proofs.reading.check_in.Goals as goal

pub returns-in_default-clause-check : goal.returns-in_default-clause-check
returns-in_default-clause-check c =
    let f = found_of c.args.matches.now in
    let source : None ≡ first_of (codes "A") (rows_of f) = c.in_default.ensures ∙ first_value-rows f (codes "A") in
    ap (λ o. check_of_names o (first_of (codes "B") (rows_of f)) (rows_of f)) source

pub returns-in_default-get_str-clause-check : goal.returns-in_default-get_str-clause-check
returns-in_default-get_str-clause-check c =
    let f = found_of c.args.matches.now in
    let target : None ≡ first_of (codes "B") (rows_of f) = c.in_default-get_str.ensures ∙ first_value-rows f (codes "B") in
    sym (no_target (first_of (codes "A") (rows_of f)) _ (rows_of f) (sym target))

pub returns-clause-check : goal.returns-clause-check
returns-clause-check c =
    let f = found_of c.args.matches.now in
    let source : Some c.in-Some.source.now ≡ first_of (codes "A") (rows_of f) = c.in-Some.ensures ∙ first_value-rows f (codes "A") in
    let target : Some c.in-Some-get_str.target.now ≡ first_of (codes "B") (rows_of f) = c.in-Some-get_str.ensures ∙ first_value-rows f (codes "B") in
    let proof = c.get_str-proof.ensures ∙ first_value-rows f (codes "proof") in
    (λ i. check_with c.in-Some.source.now c.in-Some-get_str.target.now (c.in-Some-bounds_in.ensures.value i) (c.in-Some-budget_in.ensures.value i) (c.in-Some-workers_in.ensures.value i) (Some (proof i)) (Some (c.is_set-first.ensures i)))
    ∙ (λ i. check_of_names (source i) (target i) (rows_of f))
