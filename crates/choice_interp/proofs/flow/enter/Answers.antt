use Rattle.choice_interp.proofs.Common.{◌≡◌, List, map, ap, ◌∙◌, Phi, Value, Machine, phi_value, with_phis, assign_all}
use Rattle.choice_interp.proofs.Ways.{all_phis}
use Rattle.choice_interp.proofs.flow.enter.Goals as goal

pub returns-clause-value : goal.returns-clause-value
returns-clause-value c =
    let m = c.args.machine.now in
    let phis = c.args.block.now.phis in
    let values = c.as_slice-3.ensures ∙ c.in_ok-take_phi_values.ensures ∙ ap (λ (ps : List Phi). map (phi_value m) ps) c.as_slice.ensures in
    let e : c.assign_phis.new.machine ≡ with_phis m phis m =
    c.assign_phis.ensures.value
    ∙ ap (λ (ps : List Phi). assign_all ps c.as_slice-3.result.now m) c.as_slice-2.ensures
    ∙ ap (λ (vs : List Value). assign_all phis vs m) values
    ∙ all_phis m phis m in
    ap (λ (n : Machine). record n { block = c.args.block.now.label }) e
