use Rattle.run_terms.proofs.Common.{on_ok_weaker, keeps_self, keeps_trans, is_term-later}
use Rattle.run_terms.proofs.Lasting.{frontier-later, leaving-at, tested}
use Rattle.run_terms.proofs.Leading.{leads_off, leads_on}
use Rattle.run_terms.proofs.Leaves.{bit_leaves}
use Rattle.run_terms.proofs.terminators.leave_by_bit.Goals as goal

pub follow-requires : goal.follow-requires
follow-requires c =
    let old = c.args.terms.now in
    let a = c.split.new.terms in
    let h = c.requires.leaving in
    leaving-at old a c.split.ensures.kept c.args.setting c.args.frontier.now c.args.frontier.now c.args.leaving c.in_ok-on.on c.as_slice.result h (frontier-later old a c.split.ensures.kept c.args.frontier.now h.frontier) h.shape (tested c.in_ok-on.ensures.on)
    (rw c.as_slice.ensures (leads_on c.split.ensures.kept (keeps_self a) c.args.leaving.c c.args.bit c.in_ok-on.on c.args.leaving.path.now c.in_ok-taken.taken c.in_ok-taken.ensures h.path c.requires.bit c.in_ok-on.ensures.on))

pub follow-requires-2 : goal.follow-requires-2
follow-requires-2 c =
    let a = c.split.new.terms in
    let b = c.follow.new.terms in
    let after = c.in_ok-follow.ensures.leaves in
    leaving-at c.args.terms.now b (keeps_trans c.args.terms.now a b c.split.ensures.kept c.follow.ensures.kept) c.args.setting c.args.frontier.now c.follow.new.frontier c.args.leaving c.in_ok-on.off c.as_slice-2.result c.requires.leaving
    after.frontier after.shape (is_term-later a b c.follow.ensures.kept 1 c.in_ok-on.off (tested c.in_ok-on.ensures.off))
    (rw c.as_slice-2.ensures (leads_off c.split.ensures.kept c.follow.ensures.kept c.args.leaving.c c.args.bit c.in_ok-on.off c.args.leaving.path.now c.in_ok-not_taken.not_taken c.in_ok-not_taken.ensures c.requires.leaving.path c.requires.bit c.in_ok-on.ensures.off))

pub returns-clause-leaves : goal.returns-clause-leaves
returns-clause-leaves c = on_ok_weaker c.follow-2.result (λ so.
    bit_leaves c.args.bit c.args.if_true c.args.if_false c.split.ensures.kept c.follow.ensures.kept c.requires.leaving c.in_ok-on.ensures.on c.in_ok-on.ensures.off c.in_ok-follow.ensures.leaves so) c.follow-2.ensures.leaves

pub returns-clause-kept : goal.returns-clause-kept
returns-clause-kept c =
    keeps_trans c.args.terms.now c.split.new.terms c.follow-2.new.terms c.split.ensures.kept
    (keeps_trans c.split.new.terms c.follow.new.terms c.follow-2.new.terms c.follow.ensures.kept c.follow-2.ensures.kept)
