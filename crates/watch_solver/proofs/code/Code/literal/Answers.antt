use Rattle.watch_solver.proofs.Common.{ℕ, ap, nat_eq, ◌%◌, Lit, lit_of}
use Rattle.watch_solver.proofs.code.Code.literal.Goals as goal

pub returns : goal.returns
unfolding lit_of
returns c = let F : ℕ → Lit = λ v. record { variable = v; positive = nat_eq (c.args.self.number % 2) 1 } in ap F c.from.ensures
