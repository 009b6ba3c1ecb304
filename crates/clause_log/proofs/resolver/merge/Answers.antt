-- Where one clause ends, the rest of the other is the rest of the join.
use Rattle.clause_log.proofs.Common.{◌⊎◌, ◌<◌, ◌∙◌, ◌++◌, ap, inl, inr, length, sym, arith, Some}
use Rattle.clause_log.proofs.Joining.{resolvent-unmet, resolvent-met, clause-met}
use Rattle.clause_log.proofs.resolver.merge.Goals as goal
use Rattle.clause_log.proofs.resolver.merge.Goals.{in_default, in-len1-up+in_default-right}

pub returns-then-not-clashed-clause-value : goal.returns-then-not-clashed-clause-value
returns-then-not-clashed-clause-value c =
    let ended : (length c.loop-left.left.now < 1) ⊎ (length c.loop-left.right.now < 1) =
    elim c.if-left-lt1.branch [ in_default w ↦ inl (omega arith) | in-len1-up+in_default-right w ↦ inr (omega arith) ] in
    let count = rw c.if-not-clashed.true at c.loop-left.invariant.1 in
    sym (resolvent-unmet c.args.a.now c.args.b.now c.loop-left.left.now c.loop-left.right.now ended count)

pub new-requires : goal.new-requires
new-requires c =
    let ended : (length c.loop-left.left.now < 1) ⊎ (length c.loop-left.right.now < 1) =
    elim c.if-left-lt1.branch [ in_default w ↦ inl (omega arith) | in-len1-up+in_default-right w ↦ inr (omega arith) ] in
    let left = c.in_ok-extend_from_slice.ensures.ok in
    let right = c.in_ok-extend_from_slice-2.ensures.ok in
    clause-met c.args.a.now c.args.b.now c.loop-left.left.now c.loop-left.right.now c.loop-left.out.items
    c.extend_from_slice-2.new.self.items ended c.loop-left.invariant.0 (right ∙ ap (λ zs. zs ++ c.loop-left.right.now) left)
    c.literals-left.ensures.clause c.literals-right.ensures.clause

pub returns-clause-value : goal.returns-clause-value
returns-clause-value c =
    let ended : (length c.loop-left.left.now < 1) ⊎ (length c.loop-left.right.now < 1) =
    elim c.if-left-lt1.branch [ in_default w ↦ inl (omega arith) | in-len1-up+in_default-right w ↦ inr (omega arith) ] in
    let count = rw c.if-not-clashed.false at c.loop-left.invariant.1 in
    let left = c.in_ok-extend_from_slice.ensures.ok in
    let right = c.in_ok-extend_from_slice-2.ensures.ok in
    ap Some c.new.ensures ∙ sym (resolvent-met c.args.a.now c.args.b.now c.loop-left.left.now c.loop-left.right.now c.loop-left.out.items
    c.extend_from_slice-2.new.self.items ended c.loop-left.invariant.0 count (right ∙ ap (λ zs. zs ++ c.loop-left.right.now) left))
