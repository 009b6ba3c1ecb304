use Rattle.run_terms.proofs.Common.{is_term-later, keeps_trans}
use Rattle.run_terms.proofs.Taking.{among_number, among_read, among_fits}
use Rattle.run_terms.proofs.choices.number_among.Goals as goal

pub returns-in_err-word-clause-kept : goal.returns-in_err-word-clause-kept
returns-in_err-word-clause-kept c = c.word_at.ensures.kept

pub resize-requires-clause-within : goal.resize-requires-clause-within
resize-requires-clause-within c = c.in_ok-word.ensures.made.within

pub returns-in_err-low-clause-kept : goal.returns-in_err-low-clause-kept
returns-in_err-low-clause-kept c =
    let old = c.args.terms.now in
    let a = c.word_at.new.terms in
    let b = c.resize.new.terms in
    keeps_trans old a b c.word_at.ensures.kept c.resize.ensures.kept

pub resize-requires-2-clause-within : goal.resize-requires-2-clause-within
resize-requires-2-clause-within c = c.in_ok-low.ensures.made.within

pub returns-in_err-number-clause-kept : goal.returns-in_err-number-clause-kept
returns-in_err-number-clause-kept c =
    let old = c.args.terms.now in
    let a = c.word_at.new.terms in
    let b = c.resize.new.terms in
    let d = c.resize-2.new.terms in
    let kept_b = keeps_trans old a b c.word_at.ensures.kept c.resize.ensures.kept in
    keeps_trans old b d kept_b c.resize-2.ensures.kept

pub more_words-requires-clause-read : goal.more_words-requires-clause-read
more_words-requires-clause-read c =
    let old = c.args.terms.now in
    let a = c.word_at.new.terms in
    let b = c.resize.new.terms in
    let d = c.resize-2.new.terms in
    let kept_b = keeps_trans old a b c.word_at.ensures.kept c.resize.ensures.kept in
    let kept = keeps_trans old b d kept_b c.resize-2.ensures.kept in
    is_term-later old d kept 64 c.args.tally.read c.requires.tally.read

pub more_words-requires-clause-taken : goal.more_words-requires-clause-taken
more_words-requires-clause-taken c =
    let old = c.args.terms.now in
    let a = c.word_at.new.terms in
    let b = c.resize.new.terms in
    let d = c.resize-2.new.terms in
    let kept_b = keeps_trans old a b c.word_at.ensures.kept c.resize.ensures.kept in
    let kept = keeps_trans old b d kept_b c.resize-2.ensures.kept in
    is_term-later old d kept 1 c.args.taken c.requires.taken

pub returns-in_err-read-clause-kept : goal.returns-in_err-read-clause-kept
returns-in_err-read-clause-kept c =
    let old = c.args.terms.now in
    let a = c.word_at.new.terms in
    let b = c.resize.new.terms in
    let d = c.resize-2.new.terms in
    let e = c.more_words.new.terms in
    let kept_b = keeps_trans old a b c.word_at.ensures.kept c.resize.ensures.kept in
    let kept_d = keeps_trans old b d kept_b c.resize-2.ensures.kept in
    keeps_trans old d e kept_d c.more_words.ensures.kept

pub still_fits-requires-clause-fits : goal.still_fits-requires-clause-fits
still_fits-requires-clause-fits c =
    let old = c.args.terms.now in
    let a = c.word_at.new.terms in
    let b = c.resize.new.terms in
    let d = c.resize-2.new.terms in
    let e = c.more_words.new.terms in
    let kept_b = keeps_trans old a b c.word_at.ensures.kept c.resize.ensures.kept in
    let kept_d = keeps_trans old b d kept_b c.resize-2.ensures.kept in
    let kept = keeps_trans old d e kept_d c.more_words.ensures.kept in
    is_term-later old e kept 1 c.args.tally.fits c.requires.tally.fits

pub still_fits-requires-clause-taken : goal.still_fits-requires-clause-taken
still_fits-requires-clause-taken c =
    let old = c.args.terms.now in
    let a = c.word_at.new.terms in
    let b = c.resize.new.terms in
    let d = c.resize-2.new.terms in
    let e = c.more_words.new.terms in
    let kept_b = keeps_trans old a b c.word_at.ensures.kept c.resize.ensures.kept in
    let kept_d = keeps_trans old b d kept_b c.resize-2.ensures.kept in
    let kept = keeps_trans old d e kept_d c.more_words.ensures.kept in
    is_term-later old e kept 1 c.args.taken c.requires.taken

pub still_fits-requires-clause-word : goal.still_fits-requires-clause-word
still_fits-requires-clause-word c =
    let a = c.word_at.new.terms in
    let b = c.resize.new.terms in
    let d = c.resize-2.new.terms in
    let e = c.more_words.new.terms in
    let kept_d = keeps_trans a b d c.resize.ensures.kept c.resize-2.ensures.kept in
    let kept = keeps_trans a d e kept_d c.more_words.ensures.kept in
    is_term-later a e kept 64 c.in_ok-word.word (record { within = c.in_ok-word.ensures.made.within; wide = c.in_ok-word.ensures.made.wide })

pub still_fits-requires-clause-choice : goal.still_fits-requires-clause-choice
still_fits-requires-clause-choice c =
    let d = c.resize-2.new.terms in
    let e = c.more_words.new.terms in
    is_term-later d e c.more_words.ensures.kept 64 c.in_ok-number.number (record { within = c.in_ok-number.ensures.made.within; wide = c.in_ok-number.ensures.made.wide })

pub returns-in_err-fits-clause-kept : goal.returns-in_err-fits-clause-kept
returns-in_err-fits-clause-kept c =
    let old = c.args.terms.now in
    let a = c.word_at.new.terms in
    let b = c.resize.new.terms in
    let d = c.resize-2.new.terms in
    let e = c.more_words.new.terms in
    let f = c.still_fits.new.terms in
    let kept_b = keeps_trans old a b c.word_at.ensures.kept c.resize.ensures.kept in
    let kept_d = keeps_trans old b d kept_b c.resize-2.ensures.kept in
    let kept_e = keeps_trans old d e kept_d c.more_words.ensures.kept in
    keeps_trans old e f kept_e c.still_fits.ensures.kept

pub returns-clause-number : goal.returns-clause-number
returns-clause-number c = among_number c.args.terms.now c.word_at.new.terms c.resize.new.terms c.resize-2.new.terms c.more_words.new.terms c.still_fits.new.terms c.args.words.now c.args.tally c.args.taken c.in_ok-word.word c.in_ok-low.low c.in_ok-number.number c.args.width.bits c.bits.result c.bits.ensures
    c.word_at.ensures.kept c.resize.ensures.kept c.resize-2.ensures.kept c.more_words.ensures.kept c.still_fits.ensures.kept c.in_ok-word.ensures.made c.in_ok-low.ensures.made c.in_ok-number.ensures.made

pub returns-clause-read : goal.returns-clause-read
returns-clause-read c = among_read c.args.terms.now c.word_at.new.terms c.resize.new.terms c.resize-2.new.terms c.more_words.new.terms c.still_fits.new.terms c.args.words.now c.args.tally c.args.taken c.in_ok-word.word c.in_ok-low.low c.in_ok-number.number c.args.width.bits c.bits.result c.bits.ensures
    c.word_at.ensures.kept c.resize.ensures.kept c.resize-2.ensures.kept c.more_words.ensures.kept c.still_fits.ensures.kept c.in_ok-word.ensures.made c.in_ok-low.ensures.made c.in_ok-number.ensures.made
    c.in_ok-read.read c.requires.tally c.requires.taken c.in_ok-read.ensures.made

pub returns-clause-fits : goal.returns-clause-fits
returns-clause-fits c = among_fits c.args.terms.now c.word_at.new.terms c.resize.new.terms c.resize-2.new.terms c.more_words.new.terms c.still_fits.new.terms c.args.words.now c.args.tally c.args.taken c.in_ok-word.word c.in_ok-low.low c.in_ok-number.number c.args.width.bits c.bits.result c.bits.ensures
    c.word_at.ensures.kept c.resize.ensures.kept c.resize-2.ensures.kept c.more_words.ensures.kept c.still_fits.ensures.kept c.in_ok-word.ensures.made c.in_ok-low.ensures.made c.in_ok-number.ensures.made
    c.in_ok-fits.fits c.requires.tally c.requires.taken c.in_ok-fits.ensures.made

pub returns-clause-kept : goal.returns-clause-kept
returns-clause-kept c =
    let old = c.args.terms.now in
    let a = c.word_at.new.terms in
    let b = c.resize.new.terms in
    let d = c.resize-2.new.terms in
    let e = c.more_words.new.terms in
    let f = c.still_fits.new.terms in
    let kept_b = keeps_trans old a b c.word_at.ensures.kept c.resize.ensures.kept in
    let kept_d = keeps_trans old b d kept_b c.resize-2.ensures.kept in
    let kept_e = keeps_trans old d e kept_d c.more_words.ensures.kept in
    keeps_trans old e f kept_e c.still_fits.ensures.kept
