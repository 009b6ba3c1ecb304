use Rattle.pair_questions.proofs.Common.{arith, keeps_trans, words-later}
use Rattle.pair_questions.proofs.Moved.{are_more, candidate_more, zero_later}
use Rattle.pair_questions.proofs.tapes.candidate_tape.Goals as goal

pub candidate_word-requires-clause-numbers : goal.candidate_word-requires-clause-numbers
candidate_word-requires-clause-numbers c = words-later c.args.terms.now c.loop-place.terms c.loop-place.invariant.kept c.args.numbers.now c.requires.numbers

pub candidate_word-requires-clause-words : goal.candidate_word-requires-clause-words
candidate_word-requires-clause-words c = words-later c.args.terms.now c.loop-place.terms c.loop-place.invariant.kept c.args.words.now c.requires.words

pub loop-place-preserved : goal.loop-place-preserved
loop-place-preserved c =
    let old = c.args.terms.now in
    let before = c.loop-place.terms in
    let after = c.candidate_word.new.terms in
    let k = c.candidate_word.ensures.kept in
    let made = c.in_ok-word.ensures.made in
    record {
      kept = keeps_trans old before after c.loop-place.invariant.kept k;
      within = omega arith;
      zero = zero_later before after c.in_ok-zero.zero k c.loop-place.invariant.zero;
      are = are_more after c.loop-place.tape.items c.push.new.self.items c.in_ok-word.word (words-later before after k c.loop-place.tape.items c.loop-place.invariant.are)
          (record { within = made.within; wide = made.wide }) c.in_ok-push.ensures.items;
      stands = candidate_more old before after c.args.numbers.now c.args.words.now c.loop-place.tape.items c.push.new.self.items c.args.candidate c.loop-place.place c.in_ok-word.word
          c.loop-place.invariant.kept k c.requires.numbers c.requires.words c.loop-place.invariant.are made c.loop-place.invariant.stands c.in_ok-push.ensures.items;
    }
