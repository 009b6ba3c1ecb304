use Rattle.access_terms.proofs.Common.{◌≡◌, ◌-◌, ◌<◌, length, suc, arith, refl, each-at, keeps_self, keeps_trans, sym_block-later, IsSymBlock}
use Rattle.access_terms.proofs.Finding.{reads_front, memory-end}
use Rattle.access_terms.proofs.spans.bytes_of.Goals as goal

pub loop-i-init : goal.loop-i-init
loop-i-init c = (
  keeps_self c.args.terms.now,
  omega arith,
  tt,
  λ r naming. rw (memory-end r c.args.terms.now c.args.memory.now (length c.args.memory.now) (omega arith)) refl,
)

pub bytes_with-requires-clause-block : goal.bytes_with-requires-clause-block
bytes_with-requires-clause-block c =
    sym_block-later c.args.terms.now c.loop-i.terms c.loop-i.invariant.0 c.index-memory-i.result
    (each-at (IsSymBlock c.args.terms.now) c.args.memory.now (c.loop-i.i - 1) c.index-memory-i.result c.requires.memory (omega arith) c.index-memory-i.is)

pub loop-i-preserved : goal.loop-i-preserved
loop-i-preserved c =
    let below : c.loop-i.i - 1 < length c.args.memory.now = omega arith in
    let e : c.loop-i.i ≡ suc (c.loop-i.i - 1) = omega arith in (
      keeps_trans c.args.terms.now c.loop-i.terms c.bytes_with.new.terms c.loop-i.invariant.0 c.bytes_with.ensures.kept,
      omega arith,
      c.in_ok-found.ensures.made,
      λ r naming. reads_front c.args.terms.now c.loop-i.terms c.bytes_with.new.terms c.args.span c.args.memory.now c.loop-i.i (c.loop-i.i - 1) c.index-memory-i.result c.loop-i.found c.in_ok-found.found e below c.index-memory-i.is
          c.requires.span (each-at (IsSymBlock c.args.terms.now) c.args.memory.now (c.loop-i.i - 1) c.index-memory-i.result c.requires.memory below c.index-memory-i.is) c.loop-i.invariant.0 r
          (c.loop-i.invariant.3 r naming) (c.in_ok-found.ensures.stands r naming),
    )
