use Rattle.refine_terms.proofs.Common.{◌-◌, length, drop, IsCodeOfPlaces, term_at, byte_terms-later, keeps_trans, is_term-later, IsByteTerms, block_numbers}
use Rattle.refine_terms.proofs.Deciders.{row_ends}
use Rattle.refine_terms.proofs.Rows.{each_get, narrow-later, no_byte, place_row, places_start, places_end}
use Rattle.refine_terms.proofs.places.block_code.Goals as goal

pub place_code-requires-clause-byte : goal.place_code-requires-clause-byte
place_code-requires-clause-byte c =
    byte_terms-later c.args.terms.now c.loop-i.terms c.loop-i.invariant.kept _ (each_get (IsByteTerms c.args.terms.now) c.args.places.now c.loop-i.i no_byte c.requires.places c.loop-i-test.true)

pub place_code-requires-clause-size : goal.place_code-requires-clause-size
place_code-requires-clause-size c = narrow-later c.args.terms.now c.loop-i.terms c.loop-i.invariant.kept c.args.size c.requires.size

pub both-requires-clause-a : goal.both-requires-clause-a
both-requires-clause-a c = is_term-later c.loop-i.terms c.place_code.new.terms c.place_code.ensures.kept 1 c.loop-i.all c.loop-i.invariant.all

pub loop-i-init : goal.loop-i-init
loop-i-init c = record {
  kept = c.truth.ensures.kept;
  all = record { within = c.in_ok-all.ensures.made.within; wide = c.in_ok-all.ensures.made.wide };
  rest = places_start c.truth.new.terms c.in_ok-all.all c.args.layout.now (length c.args.places.now) (λ v. term_at v c.args.terms.now c.args.size) (λ v. block_numbers v c.args.terms.now c.args.places.now) c.in_ok-all.ensures.made;
}

pub loop-i-preserved : goal.loop-i-preserved
loop-i-preserved c = record {
  kept = keeps_trans c.args.terms.now c.place_code.new.terms c.both.new.terms (keeps_trans c.args.terms.now c.loop-i.terms c.place_code.new.terms c.loop-i.invariant.kept c.place_code.ensures.kept) c.both.ensures.kept;
  all = record { within = c.in_ok-all-2.ensures.made.within; wide = c.in_ok-all-2.ensures.made.wide };
  rest = place_row c.args.terms.now c.loop-i.terms c.place_code.new.terms c.both.new.terms c.args.places.now c.loop-i.i c.args.layout.now c.args.size no_byte c.loop-i.all c.in_ok-one.one c.in_ok-all-2.all
      c.requires.places c.requires.size c.loop-i-test.true c.loop-i.invariant.kept c.place_code.ensures.kept c.loop-i.invariant.all c.loop-i.invariant.rest c.in_ok-one.ensures.made c.in_ok-all-2.ensures.made;
}

pub returns-clause-made : goal.returns-clause-made
returns-clause-made c =
    row_ends c.loop-i.terms c.loop-i.all
    (λ v. IsCodeOfPlaces c.args.layout.now (length c.args.places.now - c.loop-i.i) (term_at v c.args.terms.now c.args.size - c.loop-i.i) (block_numbers v c.args.terms.now (drop c.loop-i.i c.args.places.now)))
    (λ v. IsCodeOfPlaces c.args.layout.now (length c.args.places.now) (term_at v c.args.terms.now c.args.size) (block_numbers v c.args.terms.now c.args.places.now)) c.loop-i.invariant.all c.loop-i.invariant.rest
    (λ v. places_end c.args.layout.now (term_at v c.args.terms.now c.args.size) c.loop-i.i c.args.terms.now v c.args.places.now c.loop-i-test.false)
