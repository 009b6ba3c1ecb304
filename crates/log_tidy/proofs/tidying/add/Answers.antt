-- The step is added, with its entry.
use Rattle.log_tidy.proofs.Common.{◌≡◌, ◌+◌, List, None, arith, length, subst, sym, Step, standing, IsFound, IsAdded}
use Rattle.log_tidy.proofs.Adding.{added-one}
use Rattle.log_tidy.proofs.tidying.add.Goals as goal

pub returns : goal.returns
returns c =
    let clauses = c.args.clauses.now in
    let kept = c.args.kept.now in
    let step = c.args.step in
    let number = length clauses + c.len.result + 1 in
    let is : number ≡ length clauses + length kept + 1 = omega (arith, c.len.ensures) in
    subst (λ (ss : List Step). IsAdded clauses kept ss c.add.new.self step.clause number) (sym c.in_ok-push.ensures.ok)
    (added-one clauses kept step c.args.index.now c.add.new.self number c.requires.stands.careful
    c.requires.stands.indexed
    (subst (λ (ss : List Step). IsFound (standing clauses ss) step.clause None) c.as_slice.ensures c.in_default.ensures) c.requires.sound is c.in_ok-add.ensures)
