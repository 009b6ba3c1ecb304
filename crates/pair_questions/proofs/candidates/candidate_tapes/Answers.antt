use Rattle.pair_questions.proofs.Common.{◌≡◌, List, [], ◌∷◌, ◌++◌, refl, sym, subst, TapeTerms, AreWords, each-push, keeps_trans, words-later, AreTapes}
use Rattle.pair_questions.proofs.SameTapes.{tapes-later}
use Rattle.pair_questions.proofs.Listing.{candidate_at, tape_new, tape_seen}
use Rattle.pair_questions.proofs.candidates.candidate_tapes.Goals as goal
use Rattle.pair_questions.proofs.candidates.candidate_tapes.Goals.{then-not-has_tape+in_ok-push, else-not-has_tape}

pub candidate_tape-requires-clause-numbers : goal.candidate_tape-requires-clause-numbers
candidate_tape-requires-clause-numbers c = words-later c.args.terms.now c.loop-candidate.terms c.loop-candidate.invariant.kept c.args.numbers.now c.requires.numbers

pub candidate_tape-requires-clause-words : goal.candidate_tape-requires-clause-words
candidate_tape-requires-clause-words c = words-later c.args.terms.now c.loop-candidate.terms c.loop-candidate.invariant.kept c.args.words.now c.requires.words

pub loop-candidate-preserved : goal.loop-candidate-preserved
loop-candidate-preserved c =
    let old = c.args.terms.now in
    let before = c.loop-candidate.terms in
    let mid = c.candidate_tape.new.terms in
    let tapes = c.loop-candidate.tapes.items in
    let more = c.if-not-has_tape.tapes.items in
    let tape = c.in_ok-tape.tape in
    let first = c.loop-candidate.invariant.kept in
    let k = c.candidate_tape.ensures.kept in
    let are : AreTapes mid tapes = tapes-later before mid k tapes c.loop-candidate.invariant.are in
    elim c.if-not-has_tape.branch [
      | then-not-has_tape+in_ok-push w ↦
          let pushed : more ≡ tapes ++ tape ∷ [] = rw w.tapes-is w.in_ok-push.ensures.items in
          record {
            kept = keeps_trans old before mid first k;
            are = subst (λ (ts : List TapeTerms). AreTapes mid ts) (sym pushed) (each-push (λ (t : TapeTerms). AreWords mid t.words) tapes tape are c.in_ok-tape.ensures.are);
            same = λ v. tape_new old before mid c.args.need c.loop-candidate.candidate-index c.args.numbers.now c.args.words.now c.args.candidates.now _ tapes more tape first k
                c.requires.numbers c.requires.words c.loop-candidate.invariant.are c.loop-candidate-test.true (candidate_at c.args.candidates.now c.loop-candidate.candidate-index _ c.loop-candidate-test.true) c.in_ok-tape.ensures.stands pushed v (c.loop-candidate.invariant.same v);
          }
      | else-not-has_tape w ↦
          let left : more ≡ tapes = rw w.tapes-is refl in
          let seen = rw (c.as_slice.ensures.value, c.as_slice-in-loop-candidate.ensures) at (w.if-not-has_tape.ensures.0 refl) in
          record {
            kept = keeps_trans old before mid first k;
            are = subst (λ (ts : List TapeTerms). AreTapes mid ts) (sym left) are;
            same = λ v. tape_seen old before mid c.args.need c.loop-candidate.candidate-index c.args.numbers.now c.args.words.now c.args.candidates.now _ tapes more tape first k
                c.requires.numbers c.requires.words c.loop-candidate.invariant.are c.loop-candidate-test.true (candidate_at c.args.candidates.now c.loop-candidate.candidate-index _ c.loop-candidate-test.true) c.in_ok-tape.ensures.stands left seen v (c.loop-candidate.invariant.same v);
          }
    ]
