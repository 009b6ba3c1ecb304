use Rattle.ir_numbering.proofs.Common.{◌≡◌, ◌++◌, length, carried}
use Rattle.ir_numbering.proofs.entry_name.carried.Given as goal

abbrev pub invariant-loop-rest : goal.invariant-loop-rest
invariant-loop-rest l = l.more.items ++ carried l.rest ≡ carried l.digits

abbrev pub decreases-loop-rest : goal.decreases-loop-rest
decreases-loop-rest l = length l.rest
