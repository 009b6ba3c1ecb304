use Rattle.run_terms.proofs.Common.{◌∙◌, sym, is_term-later, keeps_trans}
use Rattle.run_terms.proofs.choices.given_or_null.Goals as goal

pub resize-requires-clause-within : goal.resize-requires-clause-within
resize-requires-clause-within c = c.requires.within

pub returns-in_err-low-clause-kept : goal.returns-in_err-low-clause-kept
returns-in_err-low-clause-kept c = c.resize.ensures.kept

pub resize-requires-2-clause-within : goal.resize-requires-2-clause-within
resize-requires-2-clause-within c = c.in_ok-low.ensures.made.within

pub returns-in_err-block-clause-kept : goal.returns-in_err-block-clause-kept
returns-in_err-block-clause-kept c =
    let old = c.args.terms.now in
    let a = c.resize.new.terms in
    let b = c.resize-2.new.terms in
    keeps_trans old a b c.resize.ensures.kept c.resize-2.ensures.kept

pub returns-in_err-last-clause-kept : goal.returns-in_err-last-clause-kept
returns-in_err-last-clause-kept c =
    let old = c.args.terms.now in
    let a = c.resize.new.terms in
    let b = c.resize-2.new.terms in
    let d = c.number.new.terms in
    let kept_b = keeps_trans old a b c.resize.ensures.kept c.resize-2.ensures.kept in
    keeps_trans old b d kept_b c.number.ensures.kept

pub returns-in_err-null-clause-kept : goal.returns-in_err-null-clause-kept
returns-in_err-null-clause-kept c =
    let old = c.args.terms.now in
    let a = c.resize.new.terms in
    let b = c.resize-2.new.terms in
    let d = c.number.new.terms in
    let e = c.number-2.new.terms in
    let kept_b = keeps_trans old a b c.resize.ensures.kept c.resize-2.ensures.kept in
    let kept_d = keeps_trans old b d kept_b c.number.ensures.kept in
    keeps_trans old d e kept_d c.number-2.ensures.kept

pub less-requires-clause-a : goal.less-requires-clause-a
less-requires-clause-a c =
    let d = c.number.new.terms in
    let e = c.number-2.new.terms in
    (is_term-later d e c.number-2.ensures.kept 64 c.in_ok-last.last (record { within = c.in_ok-last.ensures.made.within; wide = c.in_ok-last.ensures.made.wide })).within

pub less-requires-clause-b : goal.less-requires-clause-b
less-requires-clause-b c =
    let b = c.resize-2.new.terms in
    let d = c.number.new.terms in
    let e = c.number-2.new.terms in
    let kept = keeps_trans b d e c.number.ensures.kept c.number-2.ensures.kept in
    (is_term-later b e kept 64 c.in_ok-block.block (record { within = c.in_ok-block.ensures.made.within; wide = c.in_ok-block.ensures.made.wide })).within

pub less-requires-clause-alike : goal.less-requires-clause-alike
less-requires-clause-alike c =
    let b = c.resize-2.new.terms in
    let d = c.number.new.terms in
    let e = c.number-2.new.terms in
    let kept = keeps_trans b d e c.number.ensures.kept c.number-2.ensures.kept in
    (is_term-later d e c.number-2.ensures.kept 64 c.in_ok-last.last (record { within = c.in_ok-last.ensures.made.within; wide = c.in_ok-last.ensures.made.wide })).wide ∙ sym (is_term-later b e kept 64 c.in_ok-block.block (record { within = c.in_ok-block.ensures.made.within; wide = c.in_ok-block.ensures.made.wide })).wide

pub returns-in_err-is_past-clause-kept : goal.returns-in_err-is_past-clause-kept
returns-in_err-is_past-clause-kept c =
    let old = c.args.terms.now in
    let a = c.resize.new.terms in
    let b = c.resize-2.new.terms in
    let d = c.number.new.terms in
    let e = c.number-2.new.terms in
    let f = c.less.new.terms in
    let kept_b = keeps_trans old a b c.resize.ensures.kept c.resize-2.ensures.kept in
    let kept_d = keeps_trans old b d kept_b c.number.ensures.kept in
    let kept_e = keeps_trans old d e kept_d c.number-2.ensures.kept in
    keeps_trans old e f kept_e c.less.ensures.kept

pub pick-requires-clause-c : goal.pick-requires-clause-c
pick-requires-clause-c c = record { within = c.in_ok-is_past.ensures.made.within; wide = c.in_ok-is_past.ensures.made.wide }

pub pick-requires-clause-a : goal.pick-requires-clause-a
pick-requires-clause-a c =
    let e = c.number-2.new.terms in
    let f = c.less.new.terms in
    (is_term-later e f c.less.ensures.kept 64 c.in_ok-null.null (record { within = c.in_ok-null.ensures.made.within; wide = c.in_ok-null.ensures.made.wide })).within

pub pick-requires-clause-b : goal.pick-requires-clause-b
pick-requires-clause-b c =
    let b = c.resize-2.new.terms in
    let d = c.number.new.terms in
    let e = c.number-2.new.terms in
    let f = c.less.new.terms in
    let kept_e = keeps_trans b d e c.number.ensures.kept c.number-2.ensures.kept in
    let kept = keeps_trans b e f kept_e c.less.ensures.kept in
    (is_term-later b f kept 64 c.in_ok-block.block (record { within = c.in_ok-block.ensures.made.within; wide = c.in_ok-block.ensures.made.wide })).within

pub pick-requires-clause-alike : goal.pick-requires-clause-alike
pick-requires-clause-alike c =
    let b = c.resize-2.new.terms in
    let d = c.number.new.terms in
    let e = c.number-2.new.terms in
    let f = c.less.new.terms in
    let kept_e = keeps_trans b d e c.number.ensures.kept c.number-2.ensures.kept in
    let kept = keeps_trans b e f kept_e c.less.ensures.kept in
    (is_term-later e f c.less.ensures.kept 64 c.in_ok-null.null (record { within = c.in_ok-null.ensures.made.within; wide = c.in_ok-null.ensures.made.wide })).wide ∙ sym (is_term-later b f kept 64 c.in_ok-block.block (record { within = c.in_ok-block.ensures.made.within; wide = c.in_ok-block.ensures.made.wide })).wide

pub returns-clause-kept : goal.returns-clause-kept
returns-clause-kept c =
    let old = c.args.terms.now in
    let a = c.resize.new.terms in
    let b = c.resize-2.new.terms in
    let d = c.number.new.terms in
    let e = c.number-2.new.terms in
    let f = c.less.new.terms in
    let h = c.pick.new.terms in
    let kept_b = keeps_trans old a b c.resize.ensures.kept c.resize-2.ensures.kept in
    let kept_d = keeps_trans old b d kept_b c.number.ensures.kept in
    let kept_e = keeps_trans old d e kept_d c.number-2.ensures.kept in
    let kept_f = keeps_trans old e f kept_e c.less.ensures.kept in
    keeps_trans old f h kept_f c.pick.ensures.kept
