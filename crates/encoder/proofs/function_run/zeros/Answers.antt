use Rattle.encoder.proofs.Common.{get_or, arith, term_at, words_at, at-any, keeps_trans, zeros_past}
use Rattle.encoder.proofs.Whole.{zeros_step, zeros_end}
use Rattle.encoder.proofs.function_run.zeros.Goals as goal

pub loop-i-preserved : goal.loop-i-preserved
loop-i-preserved c = (
  keeps_trans c.args.terms.now c.loop-i.terms c.zero_past.new.terms c.loop-i.invariant.0 c.zero_past.ensures.kept,
  record { within = c.in_ok-all-2.ensures.made.within; wide = c.in_ok-all-2.ensures.made.wide },
  zeros_step c.args.terms.now c.loop-i.terms c.zero_past.new.terms c.args.tape.now c.loop-i.i c.args.read c.loop-i.all (get_or c.args.tape.now c.loop-i.i (record { index = 0 })) c.in_ok-all-2.all
      (λ v. zeros_past (term_at v c.args.terms.now c.args.read) 0 (words_at v c.args.terms.now c.args.tape.now))
      c.requires.tape c.requires.read c.loop-i-test.true (at-any c.args.tape.now c.loop-i.i (record { index = 0 }) _ c.loop-i-test.true) c.loop-i.invariant.0 c.loop-i.invariant.2 c.in_ok-all-2.ensures.made,
)

pub returns-clause-made : goal.returns-clause-made
returns-clause-made c = record {
  within = c.loop-i.invariant.1.within;
  wide = c.loop-i.invariant.1.wide;
  says = zeros_end c.args.terms.now c.loop-i.terms c.args.tape.now c.loop-i.i c.args.read c.loop-i.all (omega arith) c.loop-i.invariant.2;
}
