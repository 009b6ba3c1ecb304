use Rattle.ir_lexer.proofs.Common.{◌≡◌, ◌∙◌, eqb, true, false, get_or, arith, refl}
use Rattle.std.proofs.lemmas.Bool.{eq-eqb, ne_eqb}
use Rattle.ir_lexer.proofs.Passed.{one_more, in-comment, ends-comment}
use Rattle.ir_lexer.proofs.blanks.comment.Goals as goal

pub returns-then-text-len-eq10-clause-value : goal.returns-then-text-len-eq10-clause-value
returns-then-text-len-eq10-clause-value c = ends-comment c.args.text.now c.loop-len.len c.loop-len-test.true (eq-eqb _ _ c.if-text-len-eq10.true) ∙ c.loop-len.invariant.value

pub returns-then-text-len-eq10-clause-place : goal.returns-then-text-len-eq10-clause-place
returns-then-text-len-eq10-clause-place c = λ before is.
    let feed : eqb (get_or c.args.text.now c.loop-len.len 0) 10 ≡ true = eq-eqb _ _ c.if-text-len-eq10.true in
    one_more c.args.text.now before c.loop-len.len _ _ c.loop-len-test.true (rw feed refl) (c.loop-len.invariant.here before is)

pub loop-len-preserved : goal.loop-len-preserved
loop-len-preserved c =
    let other : eqb (get_or c.args.text.now c.loop-len.len 0) 10 ≡ false = ne_eqb _ _ c.if-text-len-eq10.false in
    record {
      value = in-comment c.args.text.now c.loop-len.len c.loop-len-test.true other ∙ c.loop-len.invariant.value;
      from = omega (arith, c.loop-len.invariant.from);
      within = omega (arith, c.loop-len-test.true);
      column = omega (arith, c.loop-len.invariant.column);
      here = λ before is. one_more c.args.text.now before c.loop-len.len _ _ c.loop-len-test.true (rw other refl) (c.loop-len.invariant.here before is);
    }
