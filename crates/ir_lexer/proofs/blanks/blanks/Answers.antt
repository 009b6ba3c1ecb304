use Rattle.ir_lexer.proofs.Common.{◌≡◌, ◌∙◌, eqb, true, false, get_or, arith, refl, sym}
use Rattle.std.proofs.lemmas.Bool.{eq-eqb, ne_eqb}
use Rattle.ir_lexer.proofs.Passed.{one_more, at-blank}
use Rattle.ir_lexer.proofs.blanks.blanks.Goals as goal

pub loop-len-preserved-then-byte-eq10 : goal.loop-len-preserved-then-byte-eq10
loop-len-preserved-then-byte-eq10 c =
    let feed : eqb (get_or c.args.text.now c.loop-len.len 0) 10 ≡ true = eq-eqb _ _ c.if-byte-eq10.true in
    let is : get_or c.args.text.now c.loop-len.len 0 ≡ 10 = c.if-byte-eq10.true in
    record {
      value = at-blank c.args.text.now c.loop-len.len c.loop-len-test.true (rw is refl) ∙ c.loop-len.invariant.value;
      within = omega (arith, c.loop-len-test.true);
      line = omega (arith, c.loop-len.invariant.line);
      column = omega arith;
      here = λ before at. one_more c.args.text.now before c.loop-len.len c.loop-len.place _ c.loop-len-test.true (rw feed refl) (c.loop-len.invariant.here before at);
    }

pub loop-len-preserved-then-is_blank : goal.loop-len-preserved-then-is_blank
loop-len-preserved-then-is_blank c =
    let other : eqb (get_or c.args.text.now c.loop-len.len 0) 10 ≡ false = ne_eqb _ _ c.if-byte-eq10.false in
    record {
      value = at-blank c.args.text.now c.loop-len.len c.loop-len-test.true (sym c.is_blank.ensures ∙ c.if-is_blank.true) ∙ c.loop-len.invariant.value;
      within = omega (arith, c.loop-len-test.true);
      line = omega (arith, c.loop-len.invariant.line);
      column = omega (arith, c.loop-len.invariant.column);
      here = λ before at. one_more c.args.text.now before c.loop-len.len c.loop-len.place _ c.loop-len-test.true (rw other refl) (c.loop-len.invariant.here before at);
    }
