use Rattle.term_rules.proofs.equalities.+are_equal_within.Given as goal

abbrev pub decreases-are_equal_within : goal.decreases-are_equal_within
decreases-are_equal_within l = l.depth
