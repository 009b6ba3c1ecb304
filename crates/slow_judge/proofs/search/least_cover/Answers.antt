use Rattle.slow_judge.proofs.Common.{◌≡◌, replicate, true, false, refl, sym, ap, ◌∙◌, arith, covers, WordsFit-length}
use Rattle.slow_judge.proofs.TapeSearch.{tape_reached_first, tape_reached_next, none_at_all, least_of_all, tape_within}
use Rattle.slow_judge.proofs.search.least_cover.Goals as goal

pub loop-tape-init : goal.loop-tape-init
loop-tape-init c = record {
  reached = tape_reached_first c.args.pair.now c.args.bounds.now c.args.point.now c.in_ok-tape.tape (c.in_ok-tape.ensures ∙ ap (λ n. replicate n 0) c.requires.words);
  ready = c.requires.ready;
}

pub returns-then-branch-clause-found : goal.returns-then-branch-clause-found
returns-then-branch-clause-found c =
    let holds : covers c.args.pair.now c.args.bounds.now c.args.point.now c.loop-tape.tape ≡ true = ap (covers c.args.pair.now c.args.bounds.now c.args.point.now) (sym c.as_slice.ensures) ∙ sym c.in_ok-is_cover.ensures.value ∙ c.if-branch.true in
    least_of_all c.args.pair.now c.args.bounds.now c.args.point.now c.loop-tape.tape c.loop-tape.invariant.reached holds

pub next_words-requires : goal.next_words-requires
next_words-requires c = rw c.requires.width (rw (WordsFit-length _ _ _ c.loop-tape.invariant.reached.fits) c.loop-tape.invariant.reached.fits)

pub returns-then-not-next_words-clause-found : goal.returns-then-not-next_words-clause-found
returns-then-not-next_words-clause-found c =
    let fails : covers c.args.pair.now c.args.bounds.now c.args.point.now c.loop-tape.tape ≡ false = ap (covers c.args.pair.now c.args.bounds.now c.args.point.now) (sym c.as_slice.ensures) ∙ sym c.in_ok-is_cover.ensures.value ∙ c.if-branch.false in
    let last = rw c.requires.width at (c.if-not-next_words.ensures.last refl).0 in
    none_at_all c.args.pair.now c.args.bounds.now c.args.point.now c.loop-tape.tape c.loop-tape.invariant.reached fails last

pub loop-tape-preserved : goal.loop-tape-preserved
loop-tape-preserved c =
    let fails : covers c.args.pair.now c.args.bounds.now c.args.point.now c.loop-tape.tape ≡ false = ap (covers c.args.pair.now c.args.bounds.now c.args.point.now) (sym c.as_slice.ensures) ∙ sym c.in_ok-is_cover.ensures.value ∙ c.if-branch.false in
    let next = rw c.requires.width at (c.if-not-next_words.ensures.next refl) in
    record {
      reached = tape_reached_next c.args.pair.now c.args.bounds.now c.args.point.now c.loop-tape.tape c.next_words.new.words c.loop-tape.invariant.reached fails next;
      ready = c.is_cover.ensures.ready;
    }

pub loop-tape-smaller : goal.loop-tape-smaller
loop-tape-smaller c =
    let fails : covers c.args.pair.now c.args.bounds.now c.args.point.now c.loop-tape.tape ≡ false = ap (covers c.args.pair.now c.args.bounds.now c.args.point.now) (sym c.as_slice.ensures) ∙ sym c.in_ok-is_cover.ensures.value ∙ c.if-branch.false in
    let next = rw c.requires.width at (c.if-not-next_words.ensures.next refl) in
    let reached = tape_reached_next c.args.pair.now c.args.bounds.now c.args.point.now c.loop-tape.tape c.next_words.new.words c.loop-tape.invariant.reached fails next in
    let below = tape_within c.args.pair.now c.args.bounds.now c.args.point.now c.next_words.new.words reached in
    omega (arith, next.later, below)
