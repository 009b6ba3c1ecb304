use Rattle.access_terms.proofs.Common.{◌≡◌, ◌-◌, ◌<◌, length, suc, arith, each-at, keeps_trans, sym_block-later, IsSymBlock}
use Rattle.access_terms.proofs.Finding.{admits_front, memory-end}
use Rattle.access_terms.proofs.spans.admits.Goals as goal

pub loop-i-init : goal.loop-i-init
loop-i-init c = (
  c.truth.ensures.kept,
  omega arith,
  record { within = c.in_ok-is_admitted.ensures.made.within; wide = c.in_ok-is_admitted.ensures.made.wide },
  λ r naming. rw (memory-end r c.args.terms.now c.args.memory.now (length c.args.memory.now) (omega arith)) (c.in_ok-is_admitted.ensures.made.says r.v),
)

pub admits_with-requires-clause-block : goal.admits_with-requires-clause-block
admits_with-requires-clause-block c =
    sym_block-later c.args.terms.now c.loop-i.terms c.loop-i.invariant.0 c.index-memory-i.result
    (each-at (IsSymBlock c.args.terms.now) c.args.memory.now (c.loop-i.i - 1) c.index-memory-i.result c.requires.memory (omega arith) c.index-memory-i.is)

pub loop-i-preserved : goal.loop-i-preserved
loop-i-preserved c =
    let below : c.loop-i.i - 1 < length c.args.memory.now = omega arith in
    let e : c.loop-i.i ≡ suc (c.loop-i.i - 1) = omega arith in (
      keeps_trans c.args.terms.now c.loop-i.terms c.admits_with.new.terms c.loop-i.invariant.0 c.admits_with.ensures.kept,
      omega arith,
      c.in_ok-is_admitted-2.ensures.made,
      λ r naming. admits_front c.args.terms.now c.loop-i.terms c.admits_with.new.terms c.args.span c.args.memory.now c.loop-i.i (c.loop-i.i - 1) c.index-memory-i.result c.loop-i.is_admitted c.in_ok-is_admitted-2.is_admitted e below c.index-memory-i.is
          c.requires.span (each-at (IsSymBlock c.args.terms.now) c.args.memory.now (c.loop-i.i - 1) c.index-memory-i.result c.requires.memory below c.index-memory-i.is) c.loop-i.invariant.0 r
          (c.loop-i.invariant.3 r naming) (c.in_ok-is_admitted-2.ensures.stands r naming),
    )
