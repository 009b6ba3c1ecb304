use Rattle.run_terms.proofs.Common.{sym, subst, HasSmallTypes, HasSmallNumber, keeps_self, keeps_trans, words-later}
use Rattle.run_terms.proofs.Lasting.{sees-later}
use Rattle.run_terms.proofs.Stepping.{steps_all, steps_more, steps_none}
use Rattle.run_terms.proofs.instructions.step_all.Goals as goal

pub step-requires : goal.step-requires
step-requires c = record {
  state = c.loop-inst.invariant.steps.state;
  tape = words-later c.args.terms.now c.loop-inst.terms c.loop-inst.invariant.kept c.args.setting.tape.now c.requires.tape;
  types = subst HasSmallTypes (sym c.inst-item.is) (c.requires.types c.loop-inst.inst-index c.inst-item.result c.loop-inst-test.true);
  number = subst HasSmallNumber (sym c.inst-item.is) (c.requires.numbers c.loop-inst.inst-index c.inst-item.result c.loop-inst-test.true);
}

pub loop-inst-init : goal.loop-inst-init
loop-inst-init c = record { kept = keeps_self c.args.terms.now; steps = steps_none _ c.args.terms.now c.args.state.now c.requires.state }

pub loop-inst-preserved : goal.loop-inst-preserved
loop-inst-preserved c = record {
  kept = keeps_trans c.args.terms.now c.loop-inst.terms c.step.new.terms c.loop-inst.invariant.kept c.step.ensures.kept;
  steps = steps_more c.args.insts.now c.loop-inst.inst-index c.inst-item.result c.loop-inst-test.true c.inst-item.is c.loop-inst.invariant.steps c.in_ok-step.ensures.steps
      (λ g at here. (here.0, sees-later c.args.terms.now c.loop-inst.terms c.loop-inst.invariant.kept g c.args.setting.tape.now c.requires.tape here.1));
}

pub returns-clause-steps : goal.returns-clause-steps
returns-clause-steps c = steps_all c.args.insts.now c.loop-inst.inst-index c.loop-inst-test.false c.loop-inst.invariant.steps
