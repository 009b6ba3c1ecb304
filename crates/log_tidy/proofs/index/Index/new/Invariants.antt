-- So many lists.
use Rattle.log_tidy.proofs.Common.{◌≡◌, length}
use Rattle.log_tidy.proofs.index.Index.new.Given as goal

abbrev pub invariant-loop-slot : goal.invariant-loop-slot
invariant-loop-slot l = length l.lists.items ≡ l._slot
