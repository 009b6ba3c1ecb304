use Rattle.std.proofs.lemmas.Result.{on_ok_weaker}
use Rattle.undef_uses.proofs.UserLemmas.{users_three}
use Rattle.undef_uses.proofs.users.add_users.Goals as goal

pub returns : goal.returns
returns c =
    on_ok_weaker c.add_user-3.result
    (users_three c.args.users.now c.add_user.new.users c.add_user-2.new.users c.add_user-3.new.users c.args.carried.now c.args.user c.in_ok-add_user.ensures c.in_ok-add_user-2.ensures)
    c.add_user-3.ensures
