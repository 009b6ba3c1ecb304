use Rattle.std.proofs.Common.{◌≡◌, ◌∙◌, List, ap, sym, subst}
use Rattle.ir_tree.specs.declared.module.Entry.{Entry}
use Rattle.verdicts.specs.Pair.{Functions}
use Rattle.pair_driver.specs.declared.judged.Judged.{Judged}
use Rattle.report.specs.Rows.{function_named}
use Rattle.module_rows.specs.Judging.{HasNext, listed, pairs_in}
use Rattle.module_rows.proofs.Pairs.{listed_judged}
use Rattle.module_rows.proofs.one_row.row_of.Goals as goal

pub answers_on-requires : goal.answers_on-requires
answers_on-requires c =
    let source = c.args.source.now in
    let pairs : pairs_in source.function (function_named c.as_slice-targets.result.now source.name) ≡ listed c.pair_of-pair.result =
    ap (pairs_in source.function) (sym c.find.ensures.value) ∙ c.pair_of-pair.ensures.pairs in
    listed_judged c.args.target.now.entries source c.pair_of-pair.result c.requires.target_judgeable c.requires.source_judgeable
    (subst (λ (ts : List Entry). pairs_in source.function (function_named ts source.name) ≡ listed c.pair_of-pair.result) c.as_slice-targets.ensures pairs)

pub next_row-requires-clause-answered : goal.next_row-requires-clause-answered
next_row-requires-clause-answered c =
    let source = c.args.source.now in
    let pairs : listed c.pair_of-pair.result ≡ pairs_in source.function (function_named c.as_slice-targets.result.now source.name) =
    sym (ap (pairs_in source.function) (sym c.find.ensures.value) ∙ c.pair_of-pair.ensures.pairs) in
    subst (λ (ps : List Functions). HasNext c.args.judge.now.bounds c.args.judge.now.budget ps c.as_slice-left.result.now) pairs
    (subst (λ (xs : List Judged). HasNext c.args.judge.now.bounds c.args.judge.now.budget (listed c.pair_of-pair.result) xs) (sym c.as_slice-left.ensures.value) c.in_ok-answers.ensures)
