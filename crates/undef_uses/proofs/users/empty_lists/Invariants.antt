use Rattle.std.proofs.Common.{◌≡◌, [], replicate}
use Rattle.undef_uses.proofs.users.empty_lists.Given as goal

abbrev pub invariant-loop-list : goal.invariant-loop-list
invariant-loop-list l = l.lists ≡ replicate l._list []
