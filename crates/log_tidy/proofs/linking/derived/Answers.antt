-- A chain of the same clauses has the same resolvent.
use Rattle.log_tidy.proofs.Common.{ℕ, List, length, subst, IfOk-weaker, Has, standing, AreSame, new_number}
use Rattle.log_tidy.proofs.Links.{chain-numbered, moved-derived}
use Rattle.log_tidy.proofs.linking.derived.Goals as goal

pub are_same-requires-clause-numbered : goal.are_same-requires-clause-numbered
are_same-requires-clause-numbered c = λ n has.
    chain-numbered (standing c.args.clauses.now c.args.earlier.now) c.args.step.now.chain c.args.step.now.clause c.requires.sound n
    (subst (λ (ns : List ℕ). Has ns n) c.as_slice.ensures has)

pub returns-then-are_same : goal.returns-then-are_same
returns-then-are_same c =
    let clauses = c.args.clauses.now in
    let old = standing clauses c.args.earlier.now in
    let new = standing clauses c.args.kept.now in
    let f = new_number (length clauses) c.args.numbers.now in
    let same = subst (λ (ns : List ℕ). AreSame f old new ns) c.as_slice.ensures (c.are_same.ensures c.if-are_same.true) in
    IfOk-weaker c.renumbered_step.result _ _
    (λ r is. moved-derived old new (length clauses) c.args.numbers.now c.args.step.now r c.requires.sound same is) c.renumbered_step.ensures
