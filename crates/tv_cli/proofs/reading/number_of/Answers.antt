use Rattle.tv_cli.proofs.Common.{◌≡◌, Some, None, ◌∙◌, ap, first_of, found_of, rows_of, first_value-rows, number_or_usual}
use Rattle.tv_cli.proofs.reading.number_of.Goals as goal

pub returns-in-Some-clause-value : goal.returns-in-Some-clause-value
returns-in-Some-clause-value c =
    let f = found_of c.args.matches.now in
    let text : Some c.in-Some.text.now ≡ first_of c.args.name.now (rows_of f) = c.in-Some.ensures ∙ first_value-rows f c.args.name.now in
    c.number_in.ensures.value ∙ ap (number_or_usual c.args.range) text

pub returns-in-None-clause-value : goal.returns-in-None-clause-value
returns-in-None-clause-value c =
    let f = found_of c.args.matches.now in
    let none : None ≡ first_of c.args.name.now (rows_of f) = c.in-None.ensures ∙ first_value-rows f c.args.name.now in
    ap (number_or_usual c.args.range) none
