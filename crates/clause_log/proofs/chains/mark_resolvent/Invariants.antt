-- The marked clause is taken by what is left of the chain to what the whole chain gives.
use Rattle.clause_log.proofs.Common.{◌≡◌, ◌++◌, List, map, drop, Lit, resolved_along, chain_resolvent, AreMarks}
use Rattle.clause_log.proofs.chains.mark_resolvent.Given as goal

abbrev pub invariant-loop-number : goal.invariant-loop-number
invariant-loop-number l =
    (c : List Lit) × AreMarks l.places l.marks c
    × (resolved_along (l.clauses ++ map (λ s. s.clause) l.steps) c (drop l.number-index l.rest)
    ≡ chain_resolvent (l.clauses ++ map (λ s. s.clause) l.steps) l.chain)
