use Rattle.std.proofs.lemmas.List.{get_or_default}
use Rattle.undef_uses.specs.Counts.{nothing}
use Rattle.undef_uses.proofs.UserLemmas.{users_more}
use Rattle.undef_uses.proofs.users.users_of.Goals as goal

pub loop-name-preserved : goal.loop-name-preserved
loop-name-preserved c =
    users_more c.args.table.now c.loop-name.name _ c.loop-name.users c.add_users.new.users c.loop-name-test.true (get_or_default c.args.table.now c.loop-name.name nothing _ c.loop-name-test.true) c.loop-name.invariant c.in_ok-add_users.ensures
