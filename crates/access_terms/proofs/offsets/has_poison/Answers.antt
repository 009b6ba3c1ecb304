use Rattle.access_terms.proofs.Common.{◌∙◌, not, arith, is_index, bit_at, each-at, bit-later, keeps_trans, IsSymIndex, indices_at}
use Rattle.access_terms.proofs.Indices.{any_more, any_whole, index-in, indices-length, not-all, poison-is}
use Rattle.access_terms.proofs.offsets.has_poison.Goals as goal

pub loop-index-preserved : goal.loop-index-preserved
loop-index-preserved c =
    let t0 = c.args.terms.now in
    let a = c.loop-index.terms in
    let x = c.index-item.result in
    let h = each-at (IsSymIndex t0) c.args.indices.now c.loop-index.index-index x c.requires c.loop-index-test.true c.index-item.is in (
      keeps_trans t0 a c.either.new.terms c.loop-index.invariant.0 c.either.ensures.kept,
      record { within = c.in_ok-any-2.ensures.made.within; wide = c.in_ok-any-2.ensures.made.wide },
      λ v.
          let long = indices-length v t0 c.args.indices.now in
          any_more (λ y. not (is_index y)) (indices_at v t0 c.args.indices.now) c.loop-index.index-index _ (bit_at v a c.loop-index.any) _ (bit_at v a x.poison) (omega (arith, long, c.loop-index-test.true))
          (index-in v t0 c.args.indices.now c.loop-index.index-index x c.loop-index-test.true c.index-item.is) (bit-later t0 a c.loop-index.invariant.0 v x.poison h.poison.within ∙ poison-is v t0 x) (c.in_ok-any-2.ensures.made.says v) (c.loop-index.invariant.2 v),
    )

pub returns-clause-made : goal.returns-clause-made
returns-clause-made c = record {
  within = c.loop-index.invariant.1.within;
  wide = c.loop-index.invariant.1.wide;
  says = λ v.
      let long = indices-length v c.args.terms.now c.args.indices.now in
      any_whole (λ y. not (is_index y)) (indices_at v c.args.terms.now c.args.indices.now) c.loop-index.index-index _ (omega (arith, long, c.loop-index-test.false)) (c.loop-index.invariant.2 v)
      ∙ not-all is_index (indices_at v c.args.terms.now c.args.indices.now);
}
