use Rattle.std.specs.Prelude.{◌<◌, length}
use Rattle.term_sums.proofs.facts.unknown_part.Given as goal

abbrev pub invariant-loop : goal.invariant-loop
invariant-loop l = l.at.index < length l.terms
