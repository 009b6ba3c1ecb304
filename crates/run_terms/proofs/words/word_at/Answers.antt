use Rattle.run_terms.proofs.Common.{◌∙◌, sym, get_or, arith, at-any, each-at, is_term-later, keeps_trans, IsTerm}
use Rattle.run_terms.proofs.Picking.{word_more, take_whole}
use Rattle.run_terms.proofs.words.word_at.Goals as goal

pub returns-in_err-word-clause-kept : goal.returns-in_err-word-clause-kept
returns-in_err-word-clause-kept c = c.number.ensures.kept

pub loop-i-init : goal.loop-i-init
loop-i-init c = (c.number.ensures.kept, c.in_ok-word.ensures.made)

pub returns-in_err-at-clause-kept : goal.returns-in_err-at-clause-kept
returns-in_err-at-clause-kept c =
    let old = c.args.terms.now in
    let a = c.loop-i.terms in
    let b = c.number-in-loop-i.new.terms in
    keeps_trans old a b c.loop-i.invariant.0 c.number-in-loop-i.ensures.kept

pub equals-requires-clause-a : goal.equals-requires-clause-a
equals-requires-clause-a c =
    let old = c.args.terms.now in
    let a = c.loop-i.terms in
    let b = c.number-in-loop-i.new.terms in
    let kept = keeps_trans old a b c.loop-i.invariant.0 c.number-in-loop-i.ensures.kept in
    (is_term-later old b kept 64 c.args.place c.requires.place).within

pub equals-requires-clause-b : goal.equals-requires-clause-b
equals-requires-clause-b c = c.in_ok-at.ensures.made.within

pub equals-requires-clause-alike : goal.equals-requires-clause-alike
equals-requires-clause-alike c =
    let old = c.args.terms.now in
    let a = c.loop-i.terms in
    let b = c.number-in-loop-i.new.terms in
    let kept = keeps_trans old a b c.loop-i.invariant.0 c.number-in-loop-i.ensures.kept in
    (is_term-later old b kept 64 c.args.place c.requires.place).wide ∙ sym c.in_ok-at.ensures.made.wide

pub returns-in_err-here-clause-kept : goal.returns-in_err-here-clause-kept
returns-in_err-here-clause-kept c =
    let old = c.args.terms.now in
    let a = c.loop-i.terms in
    let b = c.number-in-loop-i.new.terms in
    let d = c.equals.new.terms in
    let kept_b = keeps_trans old a b c.loop-i.invariant.0 c.number-in-loop-i.ensures.kept in
    keeps_trans old b d kept_b c.equals.ensures.kept

pub pick-requires-clause-c : goal.pick-requires-clause-c
pick-requires-clause-c c = record { within = c.in_ok-here.ensures.made.within; wide = c.in_ok-here.ensures.made.wide }

pub pick-requires-clause-a : goal.pick-requires-clause-a
pick-requires-clause-a c =
    let old = c.args.terms.now in
    let a = c.loop-i.terms in
    let b = c.number-in-loop-i.new.terms in
    let d = c.equals.new.terms in
    let kept_b = keeps_trans old a b c.loop-i.invariant.0 c.number-in-loop-i.ensures.kept in
    let kept = keeps_trans old b d kept_b c.equals.ensures.kept in
    let item = each-at (IsTerm old 64) c.args.words.now c.loop-i.i (get_or c.args.words.now c.loop-i.i (record { index = 0 })) c.requires.words c.loop-i-test.true (at-any c.args.words.now c.loop-i.i (record { index = 0 }) _ c.loop-i-test.true) in
    (is_term-later old d kept 64 (get_or c.args.words.now c.loop-i.i (record { index = 0 })) item).within

pub pick-requires-clause-b : goal.pick-requires-clause-b
pick-requires-clause-b c =
    let a = c.loop-i.terms in
    let b = c.number-in-loop-i.new.terms in
    let d = c.equals.new.terms in
    let later = keeps_trans a b d c.number-in-loop-i.ensures.kept c.equals.ensures.kept in
    (is_term-later a d later 64 c.loop-i.word (record { within = c.loop-i.invariant.1.within; wide = c.loop-i.invariant.1.wide })).within

pub pick-requires-clause-alike : goal.pick-requires-clause-alike
pick-requires-clause-alike c =
    let old = c.args.terms.now in
    let a = c.loop-i.terms in
    let b = c.number-in-loop-i.new.terms in
    let d = c.equals.new.terms in
    let kept_b = keeps_trans old a b c.loop-i.invariant.0 c.number-in-loop-i.ensures.kept in
    let kept = keeps_trans old b d kept_b c.equals.ensures.kept in
    let item = each-at (IsTerm old 64) c.args.words.now c.loop-i.i (get_or c.args.words.now c.loop-i.i (record { index = 0 })) c.requires.words c.loop-i-test.true (at-any c.args.words.now c.loop-i.i (record { index = 0 }) _ c.loop-i-test.true) in
    let later = keeps_trans a b d c.number-in-loop-i.ensures.kept c.equals.ensures.kept in
    (is_term-later old d kept 64 (get_or c.args.words.now c.loop-i.i (record { index = 0 })) item).wide ∙ sym (is_term-later a d later 64 c.loop-i.word (record { within = c.loop-i.invariant.1.within; wide = c.loop-i.invariant.1.wide })).wide

pub returns-in_err-word-2-clause-kept : goal.returns-in_err-word-2-clause-kept
returns-in_err-word-2-clause-kept c =
    let old = c.args.terms.now in
    let a = c.loop-i.terms in
    let b = c.number-in-loop-i.new.terms in
    let d = c.equals.new.terms in
    let e = c.pick.new.terms in
    let kept_b = keeps_trans old a b c.loop-i.invariant.0 c.number-in-loop-i.ensures.kept in
    let kept_d = keeps_trans old b d kept_b c.equals.ensures.kept in
    keeps_trans old d e kept_d c.pick.ensures.kept

pub loop-i-preserved : goal.loop-i-preserved
loop-i-preserved c =
    word_more c.args.terms.now c.loop-i.terms c.number-in-loop-i.new.terms c.equals.new.terms c.pick.new.terms c.args.words.now c.loop-i.i c.args.place c.in_ok-at.at c.in_ok-here.here (get_or c.args.words.now c.loop-i.i (record { index = 0 })) c.loop-i.word c.in_ok-word-2.word
    c.requires.words c.requires.place c.loop-i-test.true (at-any c.args.words.now c.loop-i.i (record { index = 0 }) _ c.loop-i-test.true) c.loop-i.invariant.0 c.loop-i.invariant.1
    c.in_ok-at.ensures.made c.number-in-loop-i.ensures.kept c.in_ok-here.ensures.made c.equals.ensures.kept c.in_ok-word-2.ensures.made c.pick.ensures.kept

pub returns-clause-made : goal.returns-clause-made
returns-clause-made c = take_whole c.args.terms.now c.loop-i.terms c.args.words.now c.loop-i.i c.args.place c.loop-i.word (omega arith) c.loop-i.invariant.1

pub returns-clause-kept : goal.returns-clause-kept
returns-clause-kept c = c.loop-i.invariant.0
