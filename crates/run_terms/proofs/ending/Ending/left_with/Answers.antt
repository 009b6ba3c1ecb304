use Rattle.run_terms.proofs.Common.{map, subst, frame_of, given_blocks-later, keeps_trans, sym_blocks-later, HasReturned}
use Rattle.run_terms.proofs.Lasting.{tests-later}
use Rattle.run_terms.proofs.Leading.{tests_front}
use Rattle.run_terms.proofs.Ended.{later_goes, later_stays}
use Rattle.run_terms.proofs.ending.Ending.left_with.Goals as goal

pub pick_given-requires-clause-a : goal.pick_given-requires-clause-a
pick_given-requires-clause-a c =
    let old = c.args.terms.now in
    let a = c.choice_by_path.new.terms in
    let p = c.pick_returned.new.terms in
    let ka = c.choice_by_path.ensures.kept in
    let kp = c.pick_returned.ensures.kept in
    let kap = keeps_trans old a p ka kp in
    sym_blocks-later old p kap c.args.given.now c.requires.given.are

pub pick_given-requires-clause-b : goal.pick_given-requires-clause-b
pick_given-requires-clause-b c =
    let old = c.args.terms.now in
    let a = c.choice_by_path.new.terms in
    let p = c.pick_returned.new.terms in
    let ka = c.choice_by_path.ensures.kept in
    let kp = c.pick_returned.ensures.kept in
    let kap = keeps_trans old a p ka kp in
    rw c.as_slice.ensures (sym_blocks-later old p kap c.args.self.now.blocks c.requires.own.given.are)

pub returns-in_ok-path-in-Some-clause-given : goal.returns-in_ok-path-in-Some-clause-given
returns-in_ok-path-in-Some-clause-given c =
    let old = c.args.terms.now in
    let a = c.choice_by_path.new.terms in
    let p = c.pick_returned.new.terms in
    let ka = c.choice_by_path.ensures.kept in
    let kp = c.pick_returned.ensures.kept in
    let kap = keeps_trans old a p ka kp in
    let left = c.args.self.now.blocks in
    let known = map frame_of left in
    let given = given_blocks-later old p kap known c.args.given.now c.requires.given in
    let before = given_blocks-later old p kap known left c.requires.own.given in
    c.in_ok-blocks-in-Some.ensures.given known given (rw c.as_slice.ensures before)

pub returns-in_ok-path-in-Some-clause-tests : goal.returns-in_ok-path-in-Some-clause-tests
returns-in_ok-path-in-Some-clause-tests c =
    let old = c.args.terms.now in
    let a = c.choice_by_path.new.terms in
    let p = c.pick_returned.new.terms in
    let ka = c.choice_by_path.ensures.kept in
    let kp = c.pick_returned.ensures.kept in
    let kap = keeps_trans old a p ka kp in
    let front = c.in_ok-path-in-Some.ensures in
    tests-later old c.pick_given.new.terms (keeps_trans old p c.pick_given.new.terms kap c.pick_given.ensures.kept) c.in_ok-path-in-Some.path (tests_front old c.args.path.now c.in_ok-path-in-Some.path front.0 front.1 c.requires.path.tests)

pub returns-in_ok-path-in-Some-clause-goes : goal.returns-in_ok-path-in-Some-clause-goes
returns-in_ok-path-in-Some-clause-goes c = λ r held.
    let old = c.args.terms.now in
    let a = c.choice_by_path.new.terms in
    let p = c.pick_returned.new.terms in
    let ka = c.choice_by_path.ensures.kept in
    let kp = c.pick_returned.ensures.kept in
    let kap = keeps_trans old a p ka kp in
    let left = c.args.self.now.blocks in
    let known = map frame_of left in
    let given = given_blocks-later old p kap known c.args.given.now c.requires.given in
    let before = given_blocks-later old p kap known left c.requires.own.given in
    let front = rw c.as_slice-before.ensures at c.in_ok-path-in-Some.ensures in
    later_goes ka kp c.pick_given.ensures.kept c.args.value c.args.self.now.value c.in_ok-value-in-Some.value c.args.given.now left c.in_ok-blocks-in-Some.blocks c.in_ok-by-in-Some.by c.args.path.now c.in-Some.returned c.in_ok-path-in-Some.path
    c.requires.value c.requires.own.value c.in_ok-value-in-Some.ensures.made c.requires.given.are c.requires.own.given.are c.in_ok-by-in-Some.ensures.made c.requires.path.tests front c.in_ok-value-in-Some.ensures.stands
    (λ s. rw c.as_slice.ensures at (c.in_ok-blocks-in-Some.ensures.stands known s given (rw c.as_slice.ensures before)))
    r (c.in_ok-by-in-Some.ensures.goes r.v held) (c.requires.path.hold r.v held)

pub returns-in_ok-path-in-Some-clause-stays : goal.returns-in_ok-path-in-Some-clause-stays
returns-in_ok-path-in-Some-clause-stays c = λ r none held.
    let old = c.args.terms.now in
    let a = c.choice_by_path.new.terms in
    let p = c.pick_returned.new.terms in
    let ka = c.choice_by_path.ensures.kept in
    let kp = c.pick_returned.ensures.kept in
    let kap = keeps_trans old a p ka kp in
    let left = c.args.self.now.blocks in
    let known = map frame_of left in
    let given = given_blocks-later old p kap known c.args.given.now c.requires.given in
    let before = given_blocks-later old p kap known left c.requires.own.given in
    let front = rw c.as_slice-before.ensures at c.in_ok-path-in-Some.ensures in
    let hold = subst (HasReturned r.v old) c.in-Some.is held in
    later_stays ka kp c.pick_given.ensures.kept c.args.value c.args.self.now.value c.in_ok-value-in-Some.value c.args.given.now left c.in_ok-blocks-in-Some.blocks c.in_ok-by-in-Some.by c.args.path.now c.in-Some.returned c.in_ok-path-in-Some.path
    c.requires.value c.requires.own.value c.in_ok-value-in-Some.ensures.made c.requires.given.are c.requires.own.given.are c.in_ok-by-in-Some.ensures.made c.requires.path.tests front c.in_ok-value-in-Some.ensures.stands
    (λ s. rw c.as_slice.ensures at (c.in_ok-blocks-in-Some.ensures.stands known s given (rw c.as_slice.ensures before)))
    r (c.in_ok-by-in-Some.ensures.stays r.v none (rw c.as_slice-before.ensures hold)) hold
