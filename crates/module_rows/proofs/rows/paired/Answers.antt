use Rattle.module_rows.proofs.Common.{List, ap, ◌∙◌, Entry, judged_pairs, entry_names}
use Rattle.module_rows.proofs.rows.paired.Goals as goal

pub returns-clause-names : goal.returns-clause-names
returns-clause-names c = c.in_ok-names.ensures ∙ ap entry_names c.as_slice-targets.ensures

pub returns-clause-pairs : goal.returns-clause-pairs
returns-clause-pairs c =
    c.in_ok-pairs.ensures
    ∙ ap (λ (ts : List Entry). judged_pairs ts c.as_slice.result.now) c.as_slice-targets.ensures
    ∙ ap (λ (ss : List Entry). judged_pairs c.args.target.now.entries ss) c.as_slice.ensures
