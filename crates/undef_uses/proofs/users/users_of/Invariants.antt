use Rattle.undef_uses.specs.Users.{AreUsers}
use Rattle.undef_uses.proofs.users.users_of.Given as goal

abbrev pub invariant-loop-name : goal.invariant-loop-name
invariant-loop-name l = AreUsers l.table l.name l.users
