use Rattle.pair_questions.proofs.Common.{keeps_trans, words-later}
use Rattle.pair_questions.proofs.Moved.{are_more, known_more}
use Rattle.pair_questions.proofs.tapes.known.Goals as goal

pub loop-word-preserved : goal.loop-word-preserved
loop-word-preserved c =
    let before = c.loop-word.terms in
    let after = c.number.new.terms in
    record {
      kept = keeps_trans c.args.terms.now before after c.loop-word.invariant.kept c.number.ensures.kept;
      are = are_more after c.loop-word.tape.items c.push.new.self.items c.in_ok-id.id (words-later before after c.number.ensures.kept c.loop-word.tape.items c.loop-word.invariant.are)
          (record { within = c.in_ok-id.ensures.made.within; wide = c.in_ok-id.ensures.made.wide }) c.in_ok-push.ensures.items;
      stands = known_more before after c.loop-word.tape.items c.push.new.self.items c.in_ok-id.id c.args.words.now c.loop-word.word-index 0
          c.number.ensures.kept c.loop-word.invariant.are c.in_ok-id.ensures.made c.loop-word-test.true c.loop-word.invariant.stands c.in_ok-push.ensures.items;
    }
