use Rattle.term_rules.proofs.low_bits.+choice_low.Given as goal

abbrev pub decreases-choice_low : goal.decreases-choice_low
decreases-choice_low l = l.fuel
