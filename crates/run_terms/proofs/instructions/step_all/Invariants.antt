-- The instructions so far are taken.
use Rattle.run_terms.proofs.Common.{◌≡◌, take, steps}
use Rattle.bv_terms.specs.Trees.{Keeps}
use Rattle.run_terms.specs.Runs.{Sees, Steps}
use Rattle.run_terms.proofs.instructions.step_all.Given as goal

abbrev pub invariant-loop-inst : goal.invariant-loop-inst
invariant-loop-inst l = record {
  kept : Keeps l.fn.terms l.terms;
  steps : Steps (λ g at. (at.turn ≡ l.turn) × Sees g l.fn.terms l.setting.tape.now) l.fn.terms l.terms l.fn.state l.state (steps (take l.inst-index l.insts));
}
