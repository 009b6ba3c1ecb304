use Rattle.pair_questions.proofs.Common.{length, ap, ◌∙◌, take_all, reading, IsByteTerms, given_byte_at, keeps_trans, byte_terms_each-later, given_bytes_at-later, nameable}
use Rattle.pair_questions.proofs.Extending.{each_more}
use Rattle.pair_questions.proofs.Knowing.{bytes_at, count_more, map_more}
use Rattle.pair_questions.proofs.known.known_places.Goals as goal

pub known_byte-requires : goal.known_byte-requires
known_byte-requires c = bytes_at nameable c.args.bytes.now c.loop-byte.byte-index _ c.requires c.loop-byte-test.true

pub loop-byte-preserved : goal.loop-byte-preserved
loop-byte-preserved c =
    let old = c.args.terms.now in
    let before = c.loop-byte.terms in
    let after = c.known_byte.new.terms in
    let kept = c.known_byte.ensures.kept in
    let bytes = c.args.bytes.now in
    let i = c.loop-byte.byte-index in
    let known = c.loop-byte.known.items in
    let more = c.push.new.self.items in
    let place = c.in_ok-place.place in
    record {
      kept = keeps_trans old before after c.loop-byte.invariant.kept kept;
      count = count_more known more place bytes i c.loop-byte.invariant.count c.in_ok-push.ensures.items c.loop-byte-test.true;
      are = each_more (IsByteTerms after) known more place (byte_terms_each-later before after kept known c.loop-byte.invariant.are) c.in_ok-place.ensures.is c.in_ok-push.ensures.items;
      stands = λ layout v fits.
          map_more (given_byte_at (reading layout.blocks v) after) known more place bytes i _ c.in_ok-push.ensures.items c.loop-byte-test.true
          (given_bytes_at-later before after kept (reading layout.blocks v) known c.loop-byte.invariant.are ∙ c.loop-byte.invariant.stands layout v fits)
          (c.in_ok-place.ensures.stands layout v (bytes_at layout bytes i _ fits c.loop-byte-test.true));
    }

pub returns-clause-are : goal.returns-clause-are
returns-clause-are c =
    let whole = take_all c.loop-byte.byte-index c.args.bytes.now c.loop-byte-test.false in
    rw c.from_vec.ensures (record { count = c.loop-byte.invariant.count ∙ ap length whole; are = c.loop-byte.invariant.are })

pub returns-clause-stands : goal.returns-clause-stands
returns-clause-stands c layout v fits = rw c.from_vec.ensures (c.loop-byte.invariant.stands layout v fits ∙ take_all c.loop-byte.byte-index c.args.bytes.now c.loop-byte-test.false)
