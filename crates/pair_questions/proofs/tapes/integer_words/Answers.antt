use Rattle.pair_questions.proofs.Integers.{arg_at, int_more, int_there, narrow-later, ptr_more}
use Rattle.pair_questions.proofs.tapes.integer_words.Goals as goal
use Rattle.pair_questions.proofs.tapes.integer_words.Goals.{in-Int+in_ok-word-in-Int+in_ok-push-in-Int, in-Ptr}

pub zext-requires-clause-a : goal.zext-requires-clause-a
zext-requires-clause-a c =
    let there = int_there c.args.terms.now c.requires.0 c.args.args.now c.loop-arg.arg-index c.in-Int.flag c.in-Int.number c.requires.1 c.loop-arg-test.true (arg_at c.args.args.now c.loop-arg.arg-index _ _ c.loop-arg-test.true c.in-Int.is) in
    (narrow-later c.args.terms.now c.loop-arg.terms c.in-Int.number c.loop-arg.invariant.kept there).within

pub zext-requires-clause-least : goal.zext-requires-clause-least
zext-requires-clause-least c =
    let there = int_there c.args.terms.now c.requires.0 c.args.args.now c.loop-arg.arg-index c.in-Int.flag c.in-Int.number c.requires.1 c.loop-arg-test.true (arg_at c.args.args.now c.loop-arg.arg-index _ _ c.loop-arg-test.true c.in-Int.is) in
    (narrow-later c.args.terms.now c.loop-arg.terms c.in-Int.number c.loop-arg.invariant.kept there).narrow

pub loop-arg-preserved : goal.loop-arg-preserved
loop-arg-preserved c =
    let old = c.args.terms.now in
    let before = c.loop-arg.terms in
    let args = c.args.args.now in
    let i = c.loop-arg.arg-index in
    let lt = c.loop-arg-test.true in
    let row = c.loop-arg.invariant in
    elim c.match-arg.branch [
      | in-Int+in_ok-word-in-Int+in_ok-push-in-Int w ↦
          let is = arg_at args i _ _ lt w.in-Int.is in
          let there = int_there old c.requires.0 args i w.in-Int.flag w.in-Int.number c.requires.1 lt is in
          rw (w.terms-is, w.numbers-is) (int_more old before w.zext.new.terms args i w.in-Int.flag w.in-Int.number c.loop-arg.numbers.items _ w.in_ok-word-in-Int.word lt is there.within w.zext.ensures.kept w.in_ok-word-in-Int.ensures.made w.in_ok-push-in-Int.ensures.items row)
      | in-Ptr w ↦ rw (w.terms-is, w.numbers-is) (ptr_more old before args i w.in-Ptr.flag w.in-Ptr.block w.in-Ptr.offset c.loop-arg.numbers.items lt (arg_at args i _ _ lt w.in-Ptr.is) row)
    ]
