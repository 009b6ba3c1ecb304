use Rattle.run_terms.proofs.Common.{◌+◌, ◌<◌, ◌∙◌, refl, ap, sym, subst, arith, is_poison, each-take, is_term-later, keeps_trans, words-later, IsTerm, AreWords}
use Rattle.run_terms.proofs.Taking.{pointer_stays, pointer_takes}
use Rattle.run_terms.proofs.choices.choose_pointer.Goals as goal

pub word_at-requires-clause-words : goal.word_at-requires-clause-words
word_at-requires-clause-words c = subst (AreWords c.args.terms.now) (sym c.words_up_to-words.ensures) (each-take (IsTerm c.args.terms.now 64) c.args.tape.now ((c.args.state.now.words_bound + 1) + 1) c.requires.tape)

pub word_at-requires-clause-place : goal.word_at-requires-clause-place
word_at-requires-clause-place c = c.requires.state.tally.read

pub returns-in_err-first-clause-kept : goal.returns-in_err-first-clause-kept
returns-in_err-first-clause-kept c = c.word_at.ensures.kept

pub returns-in_err-one-clause-kept : goal.returns-in_err-one-clause-kept
returns-in_err-one-clause-kept c =
    let old = c.args.terms.now in
    let t1 = c.word_at.new.terms in
    let t2 = c.number.new.terms in
    keeps_trans old t1 t2 c.word_at.ensures.kept c.number.ensures.kept

pub add-requires-clause-a : goal.add-requires-clause-a
add-requires-clause-a c =
    let old = c.args.terms.now in
    let t1 = c.word_at.new.terms in
    let t2 = c.number.new.terms in
    let kept = keeps_trans old t1 t2 c.word_at.ensures.kept c.number.ensures.kept in
    (is_term-later old t2 kept 64 c.args.state.now.tally.read c.requires.state.tally.read).within

pub add-requires-clause-b : goal.add-requires-clause-b
add-requires-clause-b c = c.in_ok-one.ensures.made.within

pub add-requires-clause-alike : goal.add-requires-clause-alike
add-requires-clause-alike c =
    let old = c.args.terms.now in
    let t1 = c.word_at.new.terms in
    let t2 = c.number.new.terms in
    let kept = keeps_trans old t1 t2 c.word_at.ensures.kept c.number.ensures.kept in
    (is_term-later old t2 kept 64 c.args.state.now.tally.read c.requires.state.tally.read).wide ∙ sym c.in_ok-one.ensures.made.wide

pub returns-in_err-next-clause-kept : goal.returns-in_err-next-clause-kept
returns-in_err-next-clause-kept c =
    let old = c.args.terms.now in
    let t1 = c.word_at.new.terms in
    let t2 = c.number.new.terms in
    let t3 = c.add.new.terms in
    let kept_t2 = keeps_trans old t1 t2 c.word_at.ensures.kept c.number.ensures.kept in
    keeps_trans old t2 t3 kept_t2 c.add.ensures.kept

pub word_at-requires-2-clause-words : goal.word_at-requires-2-clause-words
word_at-requires-2-clause-words c =
    let old = c.args.terms.now in
    let t1 = c.word_at.new.terms in
    let t2 = c.number.new.terms in
    let t3 = c.add.new.terms in
    let kept_t2 = keeps_trans old t1 t2 c.word_at.ensures.kept c.number.ensures.kept in
    let kept = keeps_trans old t2 t3 kept_t2 c.add.ensures.kept in
    let words = subst (AreWords old) (sym c.words_up_to-words.ensures) (each-take (IsTerm old 64) c.args.tape.now ((c.args.state.now.words_bound + 1) + 1) c.requires.tape) in
    words-later old t3 kept c.words_up_to-words.result.now words

pub word_at-requires-2-clause-place : goal.word_at-requires-2-clause-place
word_at-requires-2-clause-place c =
    let old = c.args.terms.now in
    let t1 = c.word_at.new.terms in
    let t2 = c.number.new.terms in
    let kept = keeps_trans old t1 t2 c.word_at.ensures.kept c.number.ensures.kept in
    record { within = c.in_ok-next.ensures.made.within; wide = c.in_ok-next.ensures.made.wide ∙ (is_term-later old t2 kept 64 c.args.state.now.tally.read c.requires.state.tally.read).wide }

pub returns-in_err-offset-clause-kept : goal.returns-in_err-offset-clause-kept
returns-in_err-offset-clause-kept c =
    let old = c.args.terms.now in
    let t1 = c.word_at.new.terms in
    let t2 = c.number.new.terms in
    let t3 = c.add.new.terms in
    let t4 = c.word_at-2.new.terms in
    let kept_t2 = keeps_trans old t1 t2 c.word_at.ensures.kept c.number.ensures.kept in
    let kept_t3 = keeps_trans old t2 t3 kept_t2 c.add.ensures.kept in
    keeps_trans old t3 t4 kept_t3 c.word_at-2.ensures.kept

pub given_or_null-requires : goal.given_or_null-requires
given_or_null-requires c =
    let t1 = c.word_at.new.terms in
    let t2 = c.number.new.terms in
    let t3 = c.add.new.terms in
    let t4 = c.word_at-2.new.terms in
    let kept_t3 = keeps_trans t1 t2 t3 c.number.ensures.kept c.add.ensures.kept in
    let kept = keeps_trans t1 t3 t4 kept_t3 c.word_at-2.ensures.kept in
    is_term-later t1 t4 kept 64 c.in_ok-first.first (record { within = c.in_ok-first.ensures.made.within; wide = c.in_ok-first.ensures.made.wide })

pub returns-in_err-block-clause-kept : goal.returns-in_err-block-clause-kept
returns-in_err-block-clause-kept c =
    let old = c.args.terms.now in
    let t1 = c.word_at.new.terms in
    let t2 = c.number.new.terms in
    let t3 = c.add.new.terms in
    let t4 = c.word_at-2.new.terms in
    let a = c.given_or_null.new.terms in
    let kept_t2 = keeps_trans old t1 t2 c.word_at.ensures.kept c.number.ensures.kept in
    let kept_t3 = keeps_trans old t2 t3 kept_t2 c.add.ensures.kept in
    let kept_t4 = keeps_trans old t3 t4 kept_t3 c.word_at-2.ensures.kept in
    keeps_trans old t4 a kept_t4 c.given_or_null.ensures.kept

pub more_words-requires-clause-read : goal.more_words-requires-clause-read
more_words-requires-clause-read c =
    let old = c.args.terms.now in
    let t1 = c.word_at.new.terms in
    let t2 = c.number.new.terms in
    let t3 = c.add.new.terms in
    let t4 = c.word_at-2.new.terms in
    let a = c.given_or_null.new.terms in
    let kept_t2 = keeps_trans old t1 t2 c.word_at.ensures.kept c.number.ensures.kept in
    let kept_t3 = keeps_trans old t2 t3 kept_t2 c.add.ensures.kept in
    let kept_t4 = keeps_trans old t3 t4 kept_t3 c.word_at-2.ensures.kept in
    let kept = keeps_trans old t4 a kept_t4 c.given_or_null.ensures.kept in
    is_term-later old a kept 64 c.args.state.now.tally.read c.requires.state.tally.read

pub more_words-requires-clause-taken : goal.more_words-requires-clause-taken
more_words-requires-clause-taken c =
    let old = c.args.terms.now in
    let t1 = c.word_at.new.terms in
    let t2 = c.number.new.terms in
    let t3 = c.add.new.terms in
    let t4 = c.word_at-2.new.terms in
    let a = c.given_or_null.new.terms in
    let kept_t2 = keeps_trans old t1 t2 c.word_at.ensures.kept c.number.ensures.kept in
    let kept_t3 = keeps_trans old t2 t3 kept_t2 c.add.ensures.kept in
    let kept_t4 = keeps_trans old t3 t4 kept_t3 c.word_at-2.ensures.kept in
    let kept = keeps_trans old t4 a kept_t4 c.given_or_null.ensures.kept in
    is_term-later old a kept 1 c.args.taken c.requires.taken

pub returns-in_err-read-clause-kept : goal.returns-in_err-read-clause-kept
returns-in_err-read-clause-kept c =
    let old = c.args.terms.now in
    let t1 = c.word_at.new.terms in
    let t2 = c.number.new.terms in
    let t3 = c.add.new.terms in
    let t4 = c.word_at-2.new.terms in
    let a = c.given_or_null.new.terms in
    let b = c.more_words.new.terms in
    let kept_t2 = keeps_trans old t1 t2 c.word_at.ensures.kept c.number.ensures.kept in
    let kept_t3 = keeps_trans old t2 t3 kept_t2 c.add.ensures.kept in
    let kept_t4 = keeps_trans old t3 t4 kept_t3 c.word_at-2.ensures.kept in
    let kept_a = keeps_trans old t4 a kept_t4 c.given_or_null.ensures.kept in
    keeps_trans old a b kept_a c.more_words.ensures.kept

pub still_fits-requires-clause-fits : goal.still_fits-requires-clause-fits
still_fits-requires-clause-fits c =
    let old = c.args.terms.now in
    let t1 = c.word_at.new.terms in
    let t2 = c.number.new.terms in
    let t3 = c.add.new.terms in
    let t4 = c.word_at-2.new.terms in
    let a = c.given_or_null.new.terms in
    let b = c.more_words.new.terms in
    let kept_t2 = keeps_trans old t1 t2 c.word_at.ensures.kept c.number.ensures.kept in
    let kept_t3 = keeps_trans old t2 t3 kept_t2 c.add.ensures.kept in
    let kept_t4 = keeps_trans old t3 t4 kept_t3 c.word_at-2.ensures.kept in
    let kept_a = keeps_trans old t4 a kept_t4 c.given_or_null.ensures.kept in
    let kept = keeps_trans old a b kept_a c.more_words.ensures.kept in
    is_term-later old b kept 1 c.args.state.now.tally.fits c.requires.state.tally.fits

pub still_fits-requires-clause-taken : goal.still_fits-requires-clause-taken
still_fits-requires-clause-taken c =
    let old = c.args.terms.now in
    let t1 = c.word_at.new.terms in
    let t2 = c.number.new.terms in
    let t3 = c.add.new.terms in
    let t4 = c.word_at-2.new.terms in
    let a = c.given_or_null.new.terms in
    let b = c.more_words.new.terms in
    let kept_t2 = keeps_trans old t1 t2 c.word_at.ensures.kept c.number.ensures.kept in
    let kept_t3 = keeps_trans old t2 t3 kept_t2 c.add.ensures.kept in
    let kept_t4 = keeps_trans old t3 t4 kept_t3 c.word_at-2.ensures.kept in
    let kept_a = keeps_trans old t4 a kept_t4 c.given_or_null.ensures.kept in
    let kept = keeps_trans old a b kept_a c.more_words.ensures.kept in
    is_term-later old b kept 1 c.args.taken c.requires.taken

pub still_fits-requires-clause-word : goal.still_fits-requires-clause-word
still_fits-requires-clause-word c =
    let t1 = c.word_at.new.terms in
    let t2 = c.number.new.terms in
    let t3 = c.add.new.terms in
    let t4 = c.word_at-2.new.terms in
    let a = c.given_or_null.new.terms in
    let b = c.more_words.new.terms in
    let kept_t3 = keeps_trans t1 t2 t3 c.number.ensures.kept c.add.ensures.kept in
    let kept_t4 = keeps_trans t1 t3 t4 kept_t3 c.word_at-2.ensures.kept in
    let kept_a = keeps_trans t1 t4 a kept_t4 c.given_or_null.ensures.kept in
    let kept = keeps_trans t1 a b kept_a c.more_words.ensures.kept in
    is_term-later t1 b kept 64 c.in_ok-first.first (record { within = c.in_ok-first.ensures.made.within; wide = c.in_ok-first.ensures.made.wide })

pub still_fits-requires-clause-choice : goal.still_fits-requires-clause-choice
still_fits-requires-clause-choice c =
    let a = c.given_or_null.new.terms in
    let b = c.more_words.new.terms in
    is_term-later a b c.more_words.ensures.kept 64 c.in_ok-block.block (record { within = c.in_ok-block.ensures.made.within; wide = c.in_ok-block.ensures.made.wide })

pub returns-in_err-fits-clause-kept : goal.returns-in_err-fits-clause-kept
returns-in_err-fits-clause-kept c =
    let old = c.args.terms.now in
    let t1 = c.word_at.new.terms in
    let t2 = c.number.new.terms in
    let t3 = c.add.new.terms in
    let t4 = c.word_at-2.new.terms in
    let a = c.given_or_null.new.terms in
    let b = c.more_words.new.terms in
    let d = c.still_fits.new.terms in
    let kept_t2 = keeps_trans old t1 t2 c.word_at.ensures.kept c.number.ensures.kept in
    let kept_t3 = keeps_trans old t2 t3 kept_t2 c.add.ensures.kept in
    let kept_t4 = keeps_trans old t3 t4 kept_t3 c.word_at-2.ensures.kept in
    let kept_a = keeps_trans old t4 a kept_t4 c.given_or_null.ensures.kept in
    let kept_b = keeps_trans old a b kept_a c.more_words.ensures.kept in
    keeps_trans old b d kept_b c.still_fits.ensures.kept

pub pointer_value-requires-clause-block : goal.pointer_value-requires-clause-block
pointer_value-requires-clause-block c =
    let a = c.given_or_null.new.terms in
    let b = c.more_words.new.terms in
    let d = c.still_fits.new.terms in
    let kept = keeps_trans a b d c.more_words.ensures.kept c.still_fits.ensures.kept in
    is_term-later a d kept 64 c.in_ok-block.block (record { within = c.in_ok-block.ensures.made.within; wide = c.in_ok-block.ensures.made.wide })

pub pointer_value-requires-clause-offset : goal.pointer_value-requires-clause-offset
pointer_value-requires-clause-offset c =
    let t4 = c.word_at-2.new.terms in
    let a = c.given_or_null.new.terms in
    let b = c.more_words.new.terms in
    let d = c.still_fits.new.terms in
    let kept_b = keeps_trans t4 a b c.given_or_null.ensures.kept c.more_words.ensures.kept in
    let kept = keeps_trans t4 b d kept_b c.still_fits.ensures.kept in
    is_term-later t4 d kept 64 c.in_ok-offset.offset (record { within = c.in_ok-offset.ensures.made.within; wide = c.in_ok-offset.ensures.made.wide })

pub returns-in_err-value-clause-kept : goal.returns-in_err-value-clause-kept
returns-in_err-value-clause-kept c =
    let old = c.args.terms.now in
    let t1 = c.word_at.new.terms in
    let t2 = c.number.new.terms in
    let t3 = c.add.new.terms in
    let t4 = c.word_at-2.new.terms in
    let a = c.given_or_null.new.terms in
    let b = c.more_words.new.terms in
    let d = c.still_fits.new.terms in
    let e = c.pointer_value.new.terms in
    let kept_t2 = keeps_trans old t1 t2 c.word_at.ensures.kept c.number.ensures.kept in
    let kept_t3 = keeps_trans old t2 t3 kept_t2 c.add.ensures.kept in
    let kept_t4 = keeps_trans old t3 t4 kept_t3 c.word_at-2.ensures.kept in
    let kept_a = keeps_trans old t4 a kept_t4 c.given_or_null.ensures.kept in
    let kept_b = keeps_trans old a b kept_a c.more_words.ensures.kept in
    let kept_d = keeps_trans old b d kept_b c.still_fits.ensures.kept in
    keeps_trans old d e kept_d c.pointer_value.ensures.kept

pub returns-clause-value : goal.returns-clause-value
returns-clause-value c = c.in_ok-value.ensures.made

pub returns-clause-tally : goal.returns-clause-tally
returns-clause-tally c =
    let b = c.more_words.new.terms in
    let d = c.still_fits.new.terms in
    let e = c.pointer_value.new.terms in
    let kept = keeps_trans b d e c.still_fits.ensures.kept c.pointer_value.ensures.kept in
    record {
      read = is_term-later b e kept 64 c.in_ok-read.read (record { within = c.in_ok-read.ensures.made.within; wide = c.in_ok-read.ensures.made.wide });
      fits = is_term-later d e c.pointer_value.ensures.kept 1 c.in_ok-fits.fits (record { within = c.in_ok-fits.ensures.made.within; wide = c.in_ok-fits.ensures.made.wide });
    }

pub returns-clause-defined : goal.returns-clause-defined
returns-clause-defined c = λ r. ap is_poison (c.in_ok-value.ensures.stands r)

pub returns-clause-words_bound : goal.returns-clause-words_bound
returns-clause-words_bound c = λ g m within. omega (arith, within, c.in_ok-words_bound.ensures.count)

pub returns-clause-stays : goal.returns-clause-stays
returns-clause-stays c =
    let old = c.args.terms.now in
    let t1 = c.word_at.new.terms in
    let t2 = c.number.new.terms in
    let t3 = c.add.new.terms in
    let t4 = c.word_at-2.new.terms in
    let a = c.given_or_null.new.terms in
    let b = c.more_words.new.terms in
    let d = c.still_fits.new.terms in
    let e = c.pointer_value.new.terms in
    let k02 = keeps_trans old t1 t2 c.word_at.ensures.kept c.number.ensures.kept in
    let k24 = keeps_trans t2 t3 t4 c.add.ensures.kept c.word_at-2.ensures.kept in
    let ka = keeps_trans old t4 a (keeps_trans old t2 t4 k02 k24) c.given_or_null.ensures.kept in
    pointer_stays old a b d e c.args.state.now.tally c.args.taken c.in_ok-first.first c.in_ok-block.block c.in_ok-read.read c.in_ok-fits.fits
    ka c.more_words.ensures.kept c.still_fits.ensures.kept c.pointer_value.ensures.kept c.requires.state.tally c.requires.taken c.in_ok-read.ensures.made c.in_ok-fits.ensures.made

pub returns-clause-takes : goal.returns-clause-takes
returns-clause-takes c =
    let old = c.args.terms.now in
    let t1 = c.word_at.new.terms in
    let t2 = c.number.new.terms in
    let t3 = c.add.new.terms in
    let t4 = c.word_at-2.new.terms in
    let a = c.given_or_null.new.terms in
    let b = c.more_words.new.terms in
    let d = c.still_fits.new.terms in
    let e = c.pointer_value.new.terms in
    let k02 = keeps_trans old t1 t2 c.word_at.ensures.kept c.number.ensures.kept in
    let k24 = keeps_trans t2 t3 t4 c.add.ensures.kept c.word_at-2.ensures.kept in
    let ka = keeps_trans old t4 a (keeps_trans old t2 t4 k02 k24) c.given_or_null.ensures.kept in
    let enough : c.args.state.now.words_bound + 1 < (c.args.state.now.words_bound + 1) + 1 = omega arith in
    pointer_takes old a b d e c.args.state.now.tally c.args.taken c.in_ok-first.first c.in_ok-block.block c.in_ok-read.read c.in_ok-fits.fits
    ka c.more_words.ensures.kept c.still_fits.ensures.kept c.pointer_value.ensures.kept c.requires.state.tally c.requires.taken c.in_ok-read.ensures.made c.in_ok-fits.ensures.made
    t1 t2 t3 t4 c.args.tape.now c.words_up_to-words.result.now c.in_ok-one.one c.in_ok-next.next c.in_ok-offset.offset c.args.state.now ((c.args.state.now.words_bound + 1) + 1)
    c.requires.state c.values_fit.ensures c.requires.tape c.words_up_to-words.ensures
    c.word_at.ensures.kept c.number.ensures.kept c.add.ensures.kept c.word_at-2.ensures.kept c.given_or_null.ensures.kept c.in_ok-words_bound.ensures.room enough refl
    c.in_ok-first.ensures.made c.in_ok-one.ensures.made c.in_ok-next.ensures.made c.in_ok-offset.ensures.made c.in_ok-block.ensures.made
    c.in_ok-value.value c.in_ok-value.ensures.stands

pub returns-clause-kept : goal.returns-clause-kept
returns-clause-kept c =
    let old = c.args.terms.now in
    let t1 = c.word_at.new.terms in
    let t2 = c.number.new.terms in
    let t3 = c.add.new.terms in
    let t4 = c.word_at-2.new.terms in
    let a = c.given_or_null.new.terms in
    let b = c.more_words.new.terms in
    let d = c.still_fits.new.terms in
    let e = c.pointer_value.new.terms in
    let k02 = keeps_trans old t1 t2 c.word_at.ensures.kept c.number.ensures.kept in
    let k24 = keeps_trans t2 t3 t4 c.add.ensures.kept c.word_at-2.ensures.kept in
    let ka = keeps_trans old t4 a (keeps_trans old t2 t4 k02 k24) c.given_or_null.ensures.kept in
    keeps_trans old b e (keeps_trans old a b ka c.more_words.ensures.kept) (keeps_trans b d e c.still_fits.ensures.kept c.pointer_value.ensures.kept)
