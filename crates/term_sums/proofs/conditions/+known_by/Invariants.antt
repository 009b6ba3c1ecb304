use Rattle.term_sums.proofs.conditions.+known_by.Given as goal

abbrev pub decreases-known_by : goal.decreases-known_by
decreases-known_by l = l.fuel
