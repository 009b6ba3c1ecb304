use Rattle.std.proofs.Common.{◌≡◌, ◌∙◌, List, ap, sym, subst}
use Rattle.ir_tree.specs.declared.module.Entry.{Entry}
use Rattle.report.specs.Rows.{function_named}
use Rattle.module_rows.specs.Judging.{listed, pairs_in}
use Rattle.module_rows.proofs.Pairs.{listed_runnable}
use Rattle.module_rows.proofs.one_row.pair_named.Goals as goal

pub returns : goal.returns
returns c =
    let source = c.args.source.now in
    let found : pairs_in source.function (function_named c.as_slice-targets.result.now source.name) ≡ listed c.pair_of-pair.result =
    ap (pairs_in source.function) (sym c.find.ensures.value) ∙ c.pair_of-pair.ensures.pairs in
    let pair : pairs_in source.function (function_named c.args.target.now.entries source.name) ≡ listed c.pair_of-pair.result =
    subst (λ (ts : List Entry). pairs_in source.function (function_named ts source.name) ≡ listed c.pair_of-pair.result) c.as_slice-targets.ensures found in
    record { pair = pair; runnable = listed_runnable c.args.target.now.entries source c.pair_of-pair.result c.requires.target_judgeable c.requires.source_judgeable pair }
