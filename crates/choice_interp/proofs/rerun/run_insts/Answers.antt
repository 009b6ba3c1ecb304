use Rattle.choice_interp.proofs.Common.{◌≡◌, ◌<◌, length, get_or, Some, None, sym, ap, ◌∙◌, arith, act, Over, ended, Ub, exit_goes, exit_stops, exit_ends}
use Rattle.choice_interp.proofs.rerun.run_insts.Goals as goal

pub returns-then-not-branch-clause-exit : goal.returns-then-not-branch-clause-exit
returns-then-not-branch-clause-exit c =
    let insts = c.args.block.now.insts in
    let stops : act c.inst-item.result c.args.tape.now c.loop-inst.machine ≡ None = rw c.if-not-branch.true at c.in_ok-step.ensures.goes in
    let below : c.loop-inst.inst-index < length insts = rw (← c.loop-inst.invariant.insts) c.loop-inst-test.true in
    let is : c.inst-item.result ≡ get_or insts c.loop-inst.inst-index c.inst-item.result = rw (← c.loop-inst.invariant.insts) c.inst-item.is in
    let exit = exit_stops c.args.no_undef insts c.args.block.now.terminator c.args.tape.now c.loop-inst.machine c.loop-inst.inst-index c.inst-item.result below is stops in
    let same : c.step.new.machine ≡ c.loop-inst.machine = c.in_ok-step.ensures.stays c.if-not-branch.true in
    sym c.loop-inst.invariant.rest ∙ exit ∙ ap (λ m. Over (ended Ub m)) (sym same)

pub loop-inst-preserved : goal.loop-inst-preserved
loop-inst-preserved c =
    let insts = c.args.block.now.insts in
    let goes : act c.inst-item.result c.args.tape.now c.loop-inst.machine ≡ Some c.step.new.machine = rw c.if-not-branch.false at c.in_ok-step.ensures.goes in
    let below : c.loop-inst.inst-index < length insts = rw (← c.loop-inst.invariant.insts) c.loop-inst-test.true in
    let is : c.inst-item.result ≡ get_or insts c.loop-inst.inst-index c.inst-item.result = rw (← c.loop-inst.invariant.insts) c.inst-item.is in
    let exit = exit_goes c.args.no_undef insts c.args.block.now.terminator c.args.tape.now c.loop-inst.machine c.step.new.machine c.loop-inst.inst-index c.inst-item.result below is goes in
    record {
      insts = c.loop-inst.invariant.insts;
      rest = sym exit ∙ c.loop-inst.invariant.rest;
      registers = c.step.ensures.registers ∙ c.loop-inst.invariant.registers;
      turn = c.step.ensures.turn ∙ c.loop-inst.invariant.turn;
    }

pub returns-clause-exit : goal.returns-clause-exit
returns-clause-exit c =
    let insts = c.args.block.now.insts in
    let end : c.loop-inst.inst-index ≡ length insts = rw (← c.loop-inst.invariant.insts) (omega arith) in
    sym c.loop-inst.invariant.rest ∙ exit_ends c.args.no_undef insts c.args.block.now.terminator c.args.tape.now c.loop-inst.machine c.loop-inst.inst-index end ∙ c.in_ok-left.ensures.exit
