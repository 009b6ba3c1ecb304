use Rattle.access_terms.proofs.Common.{◌<◌, ◌∙◌, length, slice_set, ap, refl, arith, IsSymBlock, each-at, each-set, keeps_trans, sym_blocks-later, sym_bytes-later, SymFrame, sym_frame}
use Rattle.access_terms.proofs.Stored.{at-slice, drop-one, drop-set, front-same, map-set-same, set-length, written-none, written_more, written_whole}
use Rattle.access_terms.proofs.writing.write.Goals as goal

pub loop-i-init : goal.loop-i-init
loop-i-init c = (
  c.truth.ensures.kept,
  refl,
  omega arith,
  refl,
  refl,
  sym_blocks-later c.args.terms.now c.truth.new.terms c.truth.ensures.kept c.args.memory.now c.requires.memory,
  record { within = c.in_ok-is_first.ensures.made.within; wide = c.in_ok-is_first.ensures.made.wide },
  λ r naming h. written-none r c.args.terms.now c.truth.new.terms c.args.span _ c.args.memory.now _ (c.in_ok-is_first.ensures.made.says r.v) h,
)

pub write_block-requires-clause-block : goal.write_block-requires-clause-block
write_block-requires-clause-block c =
    each-at (IsSymBlock c.loop-i.terms) c.loop-i.memory c.loop-i.i c.get_mut.result.now c.loop-i.invariant.5 (omega arith) (at-slice c.loop-i.memory c.loop-i.i c.get_mut.result.now c.get_mut.ensures.value)

pub write_block-requires-clause-bytes : goal.write_block-requires-clause-bytes
write_block-requires-clause-bytes c = sym_bytes-later c.args.terms.now c.loop-i.terms c.loop-i.invariant.0 c.args.bytes.now c.requires.bytes

pub loop-i-preserved : goal.loop-i-preserved
loop-i-preserved c =
    let old = c.args.terms.now in
    let a = c.loop-i.terms in
    let d = c.write_block.new.terms in
    let memory = c.args.memory.now in
    let memory' = c.loop-i.memory in
    let i = c.loop-i.i in
    let b = c.get_mut.result.now in
    let b' = c.write_block.new.b in
    let below : c.loop-i.i < length c.args.memory.now = omega arith in
    let below' : c.loop-i.i < length c.loop-i.memory = omega arith in
    let at' = at-slice memory' i b c.get_mut.ensures.value in
    let at = front-same memory' memory i b c.loop-i.invariant.3 below' below at' in
    let long = set-length memory' i b' in (
      keeps_trans old a d c.loop-i.invariant.0 c.write_block.ensures.kept,
      long ∙ c.loop-i.invariant.1,
      omega (arith, long, below'),
      drop-set memory' i b' ∙ drop-one memory' memory i c.loop-i.invariant.3,
      map-set-same sym_frame memory' i b' b at' c.in_ok-is_first-2.ensures.frame ∙ c.loop-i.invariant.4,
      each-set (IsSymBlock d) memory' i b' (sym_blocks-later a d c.write_block.ensures.kept memory' c.loop-i.invariant.5) c.in_ok-is_first-2.ensures.block,
      c.in_ok-is_first-2.ensures.made,
      λ r naming h. written_more r old a d c.args.span c.args.bytes.now memory memory' (slice_set memory' i b') i b b' _ _ c.requires.span c.requires.bytes c.requires.count c.loop-i.invariant.0 c.write_block.ensures.kept
          c.loop-i.invariant.5 below' (each-at (IsSymBlock old) memory i b c.requires.memory below at) at below refl (ap (λ (f : SymFrame). f.exists) c.in_ok-is_first-2.ensures.frame)
          (c.in_ok-is_first-2.ensures.goes r naming) (c.in_ok-is_first-2.ensures.stays r naming) (c.in_ok-is_first-2.ensures.stands r naming) (c.loop-i.invariant.7 r naming h),
    )

pub returns-clause-stands : goal.returns-clause-stands
returns-clause-stands c = λ r naming h.
    written_whole r c.args.terms.now c.loop-i.terms c.args.span _ c.args.memory.now c.loop-i.memory c.loop-i.i _ (omega arith) (omega arith) (c.loop-i.invariant.7 r naming h)
