use Rattle.encoder.proofs.Common.{◌≤◌, ◌-◌, ◌∙◌, ap, List, length, get_or, take, drop, arith, IsSymValue, at-any, each-set, keeps_trans, sym_values-later, args-later, length-set, front_is, args_front, given_more, with_args, values_at, args_at}
use Rattle.mem_terms.specs.declared.values.SymValue.{SymValue}
use Rattle.mem_terms.specs.declared.inputs.ArgTerms.TheVariants as arg
use Rattle.encoder.proofs.beginning.give_args.Goals as goal

pub loop-parameters-preserved : goal.loop-parameters-preserved
loop-parameters-preserved c =
    let a = c.loop-parameters.terms in
    let b = c.argument.new.terms in
    let k = c.argument.ensures.kept in
    let ps = c.loop-parameters.parameters.now in
    let bs = c.loop-parameters.args.now in
    let p = c.parameter-item.result in
    let first = get_or bs 0 (arg.Int (record { index = 0 }) (record { index = 0 })) in
    let some_p : 1 ≤ length ps = omega (arith, c.in-len1-up.len_at_least) in
    let some_b : 1 ≤ length bs = omega (arith, c.in-len1-up-args.len_at_least) in
    let is = front_is ps p some_p c.parameter-item.is in
    let are = front_is bs first some_b (at-any bs 0 _ first some_b) in
    let more_ps = take (length ps - 1) (drop 1 ps) in
    let more_bs = take (length bs - 1) (drop 1 bs) in
    record {
      kept = keeps_trans c.args.terms.now a b c.loop-parameters.invariant.kept k;
      made = rw c.assign.ensures (each-set (IsSymValue b) c.loop-parameters.registers p.name c.in_ok-value.value (sym_values-later a b k c.loop-parameters.registers c.loop-parameters.invariant.made) c.in_ok-value.ensures.made);
      count = ap (λ (rs : List SymValue). length rs) c.assign.ensures ∙ (length-set c.loop-parameters.registers p.name c.in_ok-value.value ∙ c.loop-parameters.invariant.count);
      fit = args-later a b k more_ps more_bs (args_front a ps more_ps p bs more_bs first is are c.loop-parameters.invariant.fit).1;
      given = rw c.assign.ensures (given_more a b k ps more_ps p bs more_bs first c.loop-parameters.registers c.in_ok-value.value
          (λ r. with_args c.args.parameters.now (args_at r c.args.terms.now c.args.args.now) (values_at r c.args.terms.now c.args.registers.now))
          is are c.loop-parameters.invariant.fit c.loop-parameters.invariant.made c.in_ok-value.ensures.stands c.loop-parameters.invariant.given);
    }
