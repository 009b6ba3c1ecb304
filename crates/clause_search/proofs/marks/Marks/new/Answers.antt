-- No entry is marked.
use Rattle.clause_search.proofs.Common.{refl, rules}
use Rattle.clause_search.proofs.Marking.{counted-none}
use Rattle.clause_search.proofs.marks.Marks.new.Goals as goal

pub returns-clause-counted : goal.returns-clause-counted
returns-clause-counted c low = counted-none low c.args.count _ (c.in_ok-vec.ensures.items_if_clones_equal (λ y e. search rules)) refl c.new.ensures.items
