-- Steps that are sound may be added, and none need be.
use Rattle.sat_restarts.proofs.Common.{List, Lit, Step, subst, AreSound}
use Rattle.sat_restarts.proofs.bits.with_sound.Goals as goal

pub with_log-requires : goal.with_log-requires
with_log-requires c =
    subst (λ (ss : List Step). AreSound c.args.cnf.clauses ss) c.as_slice-2.ensures
    (subst (λ (cs : List (List Lit)). AreSound cs c.as_slice-2.result.now) c.as_slice.ensures (c.in_ok-are_sound.ensures.0 c.if-branch.true))

pub returns-in_ok-more : goal.returns-in_ok-more
returns-in_ok-more c = record {
  variables = c.in_ok-more.ensures.variables;
  steps = c.args.steps;
  sound =
      subst (λ (ss : List Step). AreSound c.args.cnf.clauses ss) c.as_slice-2.ensures
      (subst (λ (cs : List (List Lit)). AreSound cs c.as_slice-2.result.now) c.as_slice.ensures (c.in_ok-are_sound.ensures.0 c.if-branch.true));
  clauses = c.in_ok-more.ensures.clauses;
}
