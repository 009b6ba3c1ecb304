use Rattle.term_rules.proofs.DivisionRules.{reduced_from}
use Rattle.term_rules.proofs.nested_divisions.reduced_by_multiple.Goals as goal

pub returns-in-Some : goal.returns-in-Some
returns-in-Some c =
    let found = c.in-Binary-Urem-default-default-default in
    reduced_from c.args.terms.now c.args.r found.a found.b c.in-Some.first c.args.by found.field-3 (rw found.field-0-is at found.ensures.tree)
    found.ensures.within.1 found.ensures.matched.0 c.in-Some.ensures.says c.if-by-gt0.true c.if-first-by-eq0.true
