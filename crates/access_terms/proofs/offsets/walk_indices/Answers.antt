use Rattle.access_terms.proofs.Common.{◌∙◌, ◌^◌, ◌||◌, nat_lt, ap, arith, pow_pos, mod_below, bit_at, term_at, term-below, each-at, is_term-later, keeps_trans, term-later, IsSymIndex, indices_at, walked_sum}
use Rattle.access_terms.proofs.Indices.{index-in, index-number, indices-length, walked_leaves, walked_more, walked_none, walked_sum_is}
use Rattle.access_terms.proofs.Leading.{offset_next, outside_next, sym_index-later}
use Rattle.access_terms.proofs.offsets.walk_indices.Goals as goal

pub loop-index-init : goal.loop-index-init
loop-index-init c =
    let t0 = c.args.terms.now in (
      c.less.ensures.kept,
      is_term-later t0 c.less.new.terms c.less.ensures.kept 64 c.args.offset c.requires.offset,
      record { within = c.in_ok-leaves.ensures.made.within; wide = c.in_ok-leaves.ensures.made.wide },
      λ v. rw (term-later t0 c.less.new.terms c.less.ensures.kept v c.args.offset c.requires.offset.within) (term-below t0 64 c.args.offset c.values_fit.ensures c.requires.offset v),
      λ v numbers. rw (term-later t0 c.less.new.terms c.less.ensures.kept v c.args.offset c.requires.offset.within)
          (walked_none (term_at v t0 c.args.size) (term_at v t0 c.args.offset) (indices_at v t0 c.args.indices.now) _ (c.in_ok-leaves.ensures.made.says v)),
    )

pub walk_on-requires-clause-size : goal.walk_on-requires-clause-size
walk_on-requires-clause-size c = is_term-later c.args.terms.now c.loop-index.terms c.loop-index.invariant.0 64 c.args.size c.requires.size

pub walk_on-requires-clause-index : goal.walk_on-requires-clause-index
walk_on-requires-clause-index c =
    sym_index-later c.args.terms.now c.loop-index.terms c.loop-index.invariant.0 c.index-item.result
    (each-at (IsSymIndex c.args.terms.now) c.args.indices.now c.loop-index.index-index c.index-item.result c.requires.indices c.loop-index-test.true c.index-item.is)

pub loop-index-preserved : goal.loop-index-preserved
loop-index-preserved c =
    let t0 = c.args.terms.now in
    let a = c.loop-index.terms in
    let d = c.walk_on.new.terms in
    let x = c.index-item.result in
    let k = c.loop-index.invariant.0 in
    let h = each-at (IsSymIndex t0) c.args.indices.now c.loop-index.index-index x c.requires.indices c.loop-index-test.true c.index-item.is in (
      keeps_trans t0 a d k c.walk_on.ensures.kept,
      record { within = c.in_ok-walk.ensures.offset_made.within; wide = c.in_ok-walk.ensures.offset_made.wide },
      record { within = c.in_ok-walk.ensures.leaves_made.within; wide = c.in_ok-walk.ensures.leaves_made.wide },
      λ v. rw (c.in_ok-walk.ensures.offset_made.says v) (mod_below (walked_sum 98 x.width.bits (term_at v a c.loop-index.walk.offset) (term_at v a x.number) x.scale) (2 ^ 64) (pow_pos 64)),
      λ v numbers.
          let long = indices-length v t0 c.args.indices.now in
          let number = index-number v t0 c.args.indices.now c.loop-index.index-index x numbers c.loop-index-test.true c.index-item.is in
          let low = term-below t0 64 c.args.size c.values_fit.ensures c.requires.size v in
          let offset = term_at v a c.loop-index.walk.offset in
          walked_more (term_at v t0 c.args.size) (term_at v t0 c.args.offset) offset _ (bit_at v a c.loop-index.walk.leaves) _ (indices_at v t0 c.args.indices.now) c.loop-index.index-index _ (omega (arith, long, c.loop-index-test.true))
          (index-in v t0 c.args.indices.now c.loop-index.index-index x c.loop-index-test.true c.index-item.is) low
          (c.in_ok-walk.ensures.leaves_made.says v ∙ ap (λ z. bit_at v a c.loop-index.walk.leaves || z)
          (ap (λ s. nat_lt s (walked_sum 98 x.width.bits offset (term_at v a x.number) x.scale)) (term-later t0 a k v c.args.size c.requires.size.within)
          ∙ outside_next v t0 a x (term_at v t0 c.args.size) offset c.values_fit.ensures k h x.width.at_least_1 x.width.at_most_64 number (c.loop-index.invariant.3 v) low))
          (offset_next v t0 a x offset _ 98 c.values_fit.ensures k h x.width.at_least_1 x.width.at_most_64 (omega arith) number (c.in_ok-walk.ensures.offset_made.says v))
          (c.loop-index.invariant.4 v numbers),
    )

pub returns-clause-offset_stands : goal.returns-clause-offset_stands
returns-clause-offset_stands c = λ v numbers.
    let long = indices-length v c.args.terms.now c.args.indices.now in
    walked_sum_is (term_at v c.args.terms.now c.args.size) (term_at v c.args.terms.now c.args.offset) _ (indices_at v c.args.terms.now c.args.indices.now) c.loop-index.index-index _ (omega (arith, long, c.loop-index-test.false)) (c.loop-index.invariant.3 v) (c.loop-index.invariant.4 v numbers)

pub returns-clause-leaves_stands : goal.returns-clause-leaves_stands
returns-clause-leaves_stands c = λ v numbers.
    let long = indices-length v c.args.terms.now c.args.indices.now in
    walked_leaves (term_at v c.args.terms.now c.args.size) (term_at v c.args.terms.now c.args.offset) _ (indices_at v c.args.terms.now c.args.indices.now) c.loop-index.index-index _ (omega (arith, long, c.loop-index-test.false)) (c.loop-index.invariant.4 v numbers)
