use Rattle.term_sums.proofs.differences.+difference_by_cases.Given as goal

abbrev pub decreases-difference_by_cases : goal.decreases-difference_by_cases
decreases-difference_by_cases l = l.cases
