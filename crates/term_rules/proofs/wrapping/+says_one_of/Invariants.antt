use Rattle.term_rules.proofs.wrapping.+says_one_of.Given as goal

abbrev pub decreases-says_one_of : goal.decreases-says_one_of
decreases-says_one_of l = l.fuel
