use Rattle.refine_terms.proofs.Common.{◌<◌, length, drop, map, arith, flat_map, IsCodeOfBlocks, term_at, each-at, block_terms-later, keeps_trans, is_term-later, IsNarrow, IsBlockTerms, block_numbers}
use Rattle.refine_terms.proofs.Deciders.{row_starts, row_ends}
use Rattle.refine_terms.proofs.Rows.{each_get, narrow-later, block_row, blocks_end}
use Rattle.refine_terms.proofs.places.blocks_code.Goals as goal

pub block_code-requires-clause-places : goal.block_code-requires-clause-places
block_code-requires-clause-places c =
    let lt : c.loop-i.i < length c.args.places.now = omega (arith, c.loop-i-test.true, c.requires.count) in
    let here = each-at (IsBlockTerms c.args.layout.now.bytes c.args.terms.now) c.args.places.now c.loop-i.i c.index-places-i.result c.requires.places lt c.index-places-i.is in
    rw c.as_slice.ensures ((block_terms-later c.args.terms.now c.loop-i.terms c.loop-i.invariant.kept c.args.layout.now.bytes c.index-places-i.result here).are)

pub block_code-requires-clause-size : goal.block_code-requires-clause-size
block_code-requires-clause-size c =
    narrow-later c.args.terms.now c.loop-i.terms c.loop-i.invariant.kept _ (each_get (IsNarrow c.args.terms.now) c.args.sizes.now c.loop-i.i (record { index = 0 }) c.requires.sizes c.loop-i-test.true)

pub both-requires-clause-a : goal.both-requires-clause-a
both-requires-clause-a c = is_term-later c.loop-i.terms c.block_code.new.terms c.block_code.ensures.kept 1 c.loop-i.all c.loop-i.invariant.all

pub loop-i-init : goal.loop-i-init
loop-i-init c = record {
  kept = c.truth.ensures.kept;
  all = record { within = c.in_ok-all.ensures.made.within; wide = c.in_ok-all.ensures.made.wide };
  rest = row_starts c.truth.new.terms c.in_ok-all.all (λ v. IsCodeOfBlocks c.args.layout.now (map (term_at v c.args.terms.now) c.args.sizes.now) (flat_map (block_numbers v c.args.terms.now) c.args.places.now)) c.in_ok-all.ensures.made;
}

pub loop-i-preserved : goal.loop-i-preserved
loop-i-preserved c = record {
  kept = keeps_trans c.args.terms.now c.block_code.new.terms c.both.new.terms (keeps_trans c.args.terms.now c.loop-i.terms c.block_code.new.terms c.loop-i.invariant.kept c.block_code.ensures.kept) c.both.ensures.kept;
  all = record { within = c.in_ok-all-2.ensures.made.within; wide = c.in_ok-all-2.ensures.made.wide };
  rest = block_row c.args.terms.now c.loop-i.terms c.block_code.new.terms c.both.new.terms c.args.places.now c.args.sizes.now c.loop-i.i c.args.layout.now c.index-places-i.result (record { index = 0 }) c.loop-i.all c.in_ok-one.one c.in_ok-all-2.all
      c.requires.count c.requires.sizes c.requires.places c.loop-i-test.true c.index-places-i.is c.loop-i.invariant.kept c.block_code.ensures.kept c.loop-i.invariant.all c.loop-i.invariant.rest
      (rw c.as_slice.ensures at c.in_ok-one.ensures.made) c.in_ok-all-2.ensures.made;
}

pub returns-clause-made : goal.returns-clause-made
returns-clause-made c =
    row_ends c.loop-i.terms c.loop-i.all
    (λ v. IsCodeOfBlocks c.args.layout.now (map (term_at v c.args.terms.now) (drop c.loop-i.i c.args.sizes.now)) (flat_map (block_numbers v c.args.terms.now) (drop c.loop-i.i c.args.places.now)))
    (λ v. IsCodeOfBlocks c.args.layout.now (map (term_at v c.args.terms.now) c.args.sizes.now) (flat_map (block_numbers v c.args.terms.now) c.args.places.now)) c.loop-i.invariant.all c.loop-i.invariant.rest
    (λ v. blocks_end c.args.layout.now c.loop-i.i c.args.terms.now v c.args.places.now c.args.sizes.now c.requires.count c.loop-i-test.false)
