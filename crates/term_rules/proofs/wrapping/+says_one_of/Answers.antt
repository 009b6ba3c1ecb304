use Rattle.term_rules.proofs.WrappingRules.{kept_by_first, kept_by_second}
use Rattle.term_rules.proofs.wrapping.+says_one_of.Goals as goal

pub returns-then-search-clause-found : goal.returns-then-search-clause-found
returns-then-search-clause-found t c h =
    let found = c.in-Binary-Or-default-default-default in
    kept_by_first c.args.terms.now c.args.p found.first found.second found.field-3 c.args.plain (rw found.field-0-is at found.ensures.tree) (c.says_one_of-search.ensures.found h)

pub returns-else-search-clause-found : goal.returns-else-search-clause-found
returns-else-search-clause-found t c h =
    let found = c.in-Binary-Or-default-default-default in
    kept_by_second c.args.terms.now c.args.p found.first found.second found.field-3 c.args.plain (rw found.field-0-is at found.ensures.tree) (c.says_one_of.ensures.found h)
