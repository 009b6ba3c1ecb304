use Rattle.encoder.proofs.Common.{◌≤◌, ◌-◌, refl, length, get_or, take, drop, arith, breaks_noundef, args_at, at-any, keeps_trans, args-later, args_at-later, front_is, args_front, broken_more}
use Rattle.mem_terms.specs.declared.inputs.ArgTerms.TheVariants as arg
use Rattle.encoder.proofs.beginning.breaks_no_undef.Goals as goal

pub loop-parameters-init : goal.loop-parameters-init
loop-parameters-init c = record {
  kept = c.truth.ensures.kept;
  made = record { within = c.in_ok-broken.ensures.made.within; wide = c.in_ok-broken.ensures.made.wide };
  fit = args-later c.args.terms.now c.truth.new.terms c.truth.ensures.kept c.args.parameters.now c.args.args.now c.requires;
  tests = λ r named. rw (c.in_ok-broken.ensures.made.says r.v, args_at-later c.args.terms.now c.truth.new.terms c.truth.ensures.kept r c.args.parameters.now c.args.args.now c.requires) refl;
}

pub loop-parameters-preserved-in_ok-broken-2 : goal.loop-parameters-preserved-in_ok-broken-2
loop-parameters-preserved-in_ok-broken-2 c =
    let a = c.loop-parameters.terms in
    let b = c.argument.new.terms in
    let d = c.either.new.terms in
    let k = keeps_trans a b d c.argument.ensures.kept c.either.ensures.kept in
    let ps = c.loop-parameters.parameters.now in
    let bs = c.loop-parameters.args.now in
    let p = c.parameter-item.result in
    let first = get_or bs 0 (arg.Int (record { index = 0 }) (record { index = 0 })) in
    let some_p : 1 ≤ length ps = omega (arith, c.in-len1-up.len_at_least) in
    let some_b : 1 ≤ length bs = omega (arith, c.in-len1-up-args.len_at_least) in
    let is = front_is ps p some_p c.parameter-item.is in
    let are = front_is bs first some_b (at-any bs 0 _ first some_b) in
    let more_ps = take (length ps - 1) (drop 1 ps) in
    let more_bs = take (length bs - 1) (drop 1 bs) in
    record {
      kept = keeps_trans c.args.terms.now a d c.loop-parameters.invariant.kept k;
      made = record { within = c.in_ok-broken-2.ensures.made.within; wide = c.in_ok-broken-2.ensures.made.wide };
      fit = args-later a d k more_ps more_bs (args_front a ps more_ps p bs more_bs first is are c.loop-parameters.invariant.fit).1;
      tests = broken_more a d k ps more_ps p bs more_bs first c.loop-parameters.broken
          (λ r. breaks_noundef c.args.parameters.now (args_at r c.args.terms.now c.args.args.now))
          is are c.loop-parameters.invariant.fit c.loop-parameters.invariant.tests b c.in_ok-value.value c.in_ok-broken-2.broken c.loop-parameters.invariant.made.within c.argument.ensures.kept c.in_ok-value.ensures.stands
          c.if-parameter.true c.in_ok-broken-2.ensures.made;
    }
