use Rattle.std.proofs.Common.{[]}
use Rattle.std.proofs.lemmas.List.{replicate_more}
use Rattle.undef_uses.proofs.users.empty_lists.Goals as goal

pub loop-list-preserved : goal.loop-list-preserved
loop-list-preserved c = rw (c.in_ok-push.ensures.ok, c.from_vec.ensures, c.new-in-loop-list.ensures.items, c.loop-list.invariant) (replicate_more c.loop-list._list [])
