use Rattle.undef_uses.proofs.CountLemmas.{IsBegun}
use Rattle.undef_uses.proofs.counting.first_waiting.Given as goal

abbrev pub invariant-loop-name : goal.invariant-loop-name
invariant-loop-name l = IsBegun l.table l.counts l.name l.waiting.items
