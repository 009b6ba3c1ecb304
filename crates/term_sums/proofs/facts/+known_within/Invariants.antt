use Rattle.term_sums.proofs.facts.+known_within.Given as goal

abbrev pub decreases-known_within : goal.decreases-known_within
decreases-known_within l = l.depth
