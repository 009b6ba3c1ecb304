use Rattle.term_rules.proofs.possible.+may_be_within.Given as goal

-- proposed from what the function passes where it calls itself
abbrev pub decreases-may_be_within : goal.decreases-may_be_within
decreases-may_be_within l = l.depth
