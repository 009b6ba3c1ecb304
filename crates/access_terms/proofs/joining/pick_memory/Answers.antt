use Rattle.access_terms.proofs.Common.{keeps_trans, sym_blocks-later}
use Rattle.access_terms.proofs.Joins.{joined_more}
use Rattle.access_terms.proofs.joining.pick_memory.Goals as goal

pub join_next-requires-clause-a : goal.join_next-requires-clause-a
join_next-requires-clause-a c = sym_blocks-later c.args.terms.now c.loop-alloc.terms c.loop-alloc.invariant.0 c.args.a.now c.requires.a

pub join_next-requires-clause-b : goal.join_next-requires-clause-b
join_next-requires-clause-b c = sym_blocks-later c.args.terms.now c.loop-alloc.terms c.loop-alloc.invariant.0 c.args.b.now c.requires.b

pub loop-alloc-preserved : goal.loop-alloc-preserved
loop-alloc-preserved c = (
  keeps_trans c.args.terms.now c.loop-alloc.terms c.join_next.new.terms c.loop-alloc.invariant.0 c.join_next.ensures.kept,
  c.in_ok-joined.ensures.within,
  c.in_ok-joined.ensures.made,
  λ most ha hb. c.in_ok-joined.ensures.numbers most ha hb (c.loop-alloc.invariant.3 most ha hb),
  λ r. joined_more r c.args.terms.now c.loop-alloc.terms c.join_next.new.terms c.args.c c.args.a.now c.args.b.now c.loop-alloc.picked c.join_next.new.picked c.loop-alloc.joined c.in_ok-joined.joined
      c.loop-alloc.invariant.0 c.requires.c c.requires.a c.requires.b (c.in_ok-joined.ensures.stands r) (c.loop-alloc.invariant.4 r),
)
