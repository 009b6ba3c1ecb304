use Rattle.run_terms.proofs.Common.{◌∙◌, each-set, keeps_trans, sym_values-later, length-set}
use Rattle.mem_terms.specs.Values.{IsSymValue}
use Rattle.run_terms.proofs.Entering.{phis_more, phis_end}
use Rattle.run_terms.proofs.phis.registers_after.Goals as goal

pub phi_value-requires : goal.phi_value-requires
phi_value-requires c = sym_values-later c.args.terms.now c.loop-phi.terms c.loop-phi.invariant.0 c.args.registers.now c.requires

pub loop-phi-preserved : goal.loop-phi-preserved
loop-phi-preserved c = rw c.assign.ensures (
  keeps_trans c.args.terms.now c.loop-phi.terms c.phi_value.new.terms c.loop-phi.invariant.0 c.phi_value.ensures.kept,
  each-set (IsSymValue c.phi_value.new.terms) c.loop-phi.after c.phi-item.result.into c.in_ok-value.value (sym_values-later c.loop-phi.terms c.phi_value.new.terms c.phi_value.ensures.kept c.loop-phi.after c.loop-phi.invariant.1) c.in_ok-value.ensures.made,
  length-set c.loop-phi.after c.phi-item.result.into c.in_ok-value.value ∙ c.loop-phi.invariant.2,
  phis_more c.args.terms.now c.loop-phi.terms c.phi_value.new.terms c.args.registers.now c.loop-phi.after c.args.label c.args.phis.now c.loop-phi.phi-index c.phi-item.result c.in_ok-value.value
      c.requires c.loop-phi.invariant.0 c.loop-phi.invariant.1 c.loop-phi-test.true c.phi-item.is c.phi_value.ensures.kept c.in_ok-value.ensures.stands c.loop-phi.invariant.3,
)

pub returns-clause-stands : goal.returns-clause-stands
returns-clause-stands c = λ r m naming e at. phis_end c.loop-phi.terms c.loop-phi.after c.args.phis.now c.loop-phi.phi-index r m c.loop-phi-test.false (c.loop-phi.invariant.3 r m naming e at)
