-- Where a run that looks for the first incorrect pair ends.
use Rattle.std.specs.Prelude.{Bool, true, false}
use Rattle.verdicts.specs.declared.verdict.Verdict.{Verdict}
use Rattle.verdicts.specs.declared.verdict.Verdict.TheVariants.{Correct, Incorrect, Unknown}
use Rattle.pair_driver.specs.declared.judged.Judged.{Judged}

abbrev pub refutes : Verdict → Bool
refutes Correct = false
refutes (Incorrect point) = true
refutes (Unknown cause) = false

-- the judge answers that the target does not refine the source
abbrev pub is_incorrect : Judged → Bool
is_incorrect judged = refutes judged.verdict
