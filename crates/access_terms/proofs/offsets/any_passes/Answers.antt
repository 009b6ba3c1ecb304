use Rattle.access_terms.proofs.Common.{◌∙◌, ◌||◌, ap, arith, bit_at, each-at, bit-later, keeps_trans, IsSymIndex, indices_at, passes}
use Rattle.access_terms.proofs.Indices.{any_more, index-in, index-number, indices-length}
use Rattle.access_terms.proofs.Leading.{index-later, sym_index-later}
use Rattle.access_terms.proofs.offsets.any_passes.Goals as goal

pub test_index-requires : goal.test_index-requires
test_index-requires c =
    sym_index-later c.args.terms.now c.loop-index.terms c.loop-index.invariant.0 c.index-item.result
    (each-at (IsSymIndex c.args.terms.now) c.args.indices.now c.loop-index.index-index c.index-item.result c.requires c.loop-index-test.true c.index-item.is)

pub loop-index-preserved : goal.loop-index-preserved
loop-index-preserved c =
    let t0 = c.args.terms.now in
    let a = c.loop-index.terms in
    let d = c.test_index.new.terms in
    let x = c.index-item.result in
    let h = each-at (IsSymIndex t0) c.args.indices.now c.loop-index.index-index x c.requires c.loop-index-test.true c.index-item.is in (
      keeps_trans t0 a c.either.new.terms c.loop-index.invariant.0 (keeps_trans a d c.either.new.terms c.test_index.ensures.kept c.either.ensures.kept),
      record { within = c.in_ok-any-2.ensures.made.within; wide = c.in_ok-any-2.ensures.made.wide },
      λ v numbers.
          let long = indices-length v t0 c.args.indices.now in
          let number = index-number v t0 c.args.indices.now c.loop-index.index-index x numbers c.loop-index-test.true c.index-item.is in
          any_more (passes c.args.test) (indices_at v t0 c.args.indices.now) c.loop-index.index-index _ (bit_at v a c.loop-index.any) _ (bit_at v d c.in_ok-one.one) (omega (arith, long, c.loop-index-test.true))
          (index-in v t0 c.args.indices.now c.loop-index.index-index x c.loop-index-test.true c.index-item.is)
          (c.in_ok-one.ensures.stands v (bit-later t0 a c.loop-index.invariant.0 v x.poison h.poison.within ∙ number) ∙ ap (passes c.args.test) (index-later t0 a c.loop-index.invariant.0 v x h))
          (c.in_ok-any-2.ensures.made.says v ∙ ap (λ z. z || bit_at v d c.in_ok-one.one) (bit-later a d c.test_index.ensures.kept v c.loop-index.any c.loop-index.invariant.1.within))
          (c.loop-index.invariant.2 v numbers),
    )
