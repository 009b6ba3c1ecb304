use Rattle.access_terms.proofs.Common.{◌∙◌, sym, arith, term_at, last_sum-end, last_sum-more, term-below, each-at, keeps_trans, IsSymIndex, indices_at}
use Rattle.access_terms.proofs.Indices.{index-in, index-number, indices-length}
use Rattle.access_terms.proofs.Leading.{offset_next, sym_index-later}
use Rattle.access_terms.proofs.Walked.{walked-whole}
use Rattle.access_terms.proofs.offsets.offset_after.Goals as goal

pub sum_with-requires-clause-index : goal.sum_with-requires-clause-index
sum_with-requires-clause-index c =
    sym_index-later c.args.terms.now c.loop-index.terms c.loop-index.invariant.0 c.index-item.result
    (each-at (IsSymIndex c.args.terms.now) c.args.indices.now c.loop-index.index-index c.index-item.result c.requires.indices c.loop-index-test.true c.index-item.is)

pub loop-index-preserved : goal.loop-index-preserved
loop-index-preserved c =
    let t0 = c.args.terms.now in
    let a = c.loop-index.terms in
    let x = c.index-item.result in
    let h = each-at (IsSymIndex t0) c.args.indices.now c.loop-index.index-index x c.requires.indices c.loop-index-test.true c.index-item.is in (
      keeps_trans t0 a c.sum_with.new.terms c.loop-index.invariant.0 c.sum_with.ensures.kept,
      record { within = c.in_ok-sum.ensures.made.within; wide = c.in_ok-sum.ensures.made.wide },
      λ v numbers.
          let long = indices-length v t0 c.args.indices.now in
          let number = index-number v t0 c.args.indices.now c.loop-index.index-index x numbers c.loop-index-test.true c.index-item.is in
          sym (last_sum-more (term_at v a c.loop-index.sum) _ (indices_at v t0 c.args.indices.now) c.loop-index.index-index _ (omega (arith, long, c.loop-index-test.true))
          (index-in v t0 c.args.indices.now c.loop-index.index-index x c.loop-index-test.true c.index-item.is)
          (offset_next v t0 a x (term_at v a c.loop-index.sum) _ 64 c.values_fit.ensures c.loop-index.invariant.0 h x.width.at_least_1 x.width.at_most_64 (omega arith) number
          (c.in_ok-sum.ensures.made.says v ∙ walked-whole x.width.bits (term_at v a c.loop-index.sum) (term_at v a x.number) x.scale)))
          ∙ c.loop-index.invariant.2 v numbers,
    )

pub returns-clause-stands : goal.returns-clause-stands
returns-clause-stands c = λ v numbers.
    let long = indices-length v c.args.terms.now c.args.indices.now in
    sym (last_sum-end _ (indices_at v c.args.terms.now c.args.indices.now) c.loop-index.index-index (omega (arith, long, c.loop-index-test.false)) (term-below c.loop-index.terms 64 c.loop-index.sum c.values_fit-2.ensures c.loop-index.invariant.1 v))
    ∙ c.loop-index.invariant.2 v numbers
