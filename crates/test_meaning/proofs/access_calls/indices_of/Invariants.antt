use Rattle.std.specs.Prelude.{All}
use Rattle.memory_access.specs.Offsets.{IndexFits}
use Rattle.test_meaning.proofs.access_calls.indices_of.Given as goal

abbrev pub invariant-loop-i : goal.invariant-loop-i
invariant-loop-i l = All IndexFits l.indices.items
