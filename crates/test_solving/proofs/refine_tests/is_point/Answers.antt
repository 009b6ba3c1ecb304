use Rattle.mem_terms.proofs.Later.{is_outcome-later, keeps_trans}
use Rattle.test_solving.proofs.refine_tests.is_point.Goals as goal

pub well_point-requires-clause-outcome : goal.well_point-requires-clause-outcome
well_point-requires-clause-outcome c =
    is_outcome-later c.outcome.new.terms c.constant.new.self (keeps_trans c.outcome.new.terms c.truth.new.terms c.constant.new.self c.truth.ensures.kept c.constant.ensures.kept) c.in_ok-outcome.outcome c.in_ok-outcome.ensures.made
