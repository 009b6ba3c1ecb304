use Rattle.pair_questions.proofs.Common.{◌++◌, ◌+◌, take, ap, subst, ◌∙◌, flat_map, Parameter, IsArg, args_widths, value_widths, arg_ids}
use Rattle.pair_questions.proofs.Extending.{extends_trans, args_extended, args_more, widths_more, grows_as, grows_trans, ids_more, ids_pushed}
use Rattle.pair_questions.proofs.inputs.arg_variables.Goals as goal

pub loop-parameter-preserved : goal.loop-parameter-preserved
loop-parameter-preserved c =
    let old = c.args.terms.now in
    let before = c.loop-parameter.terms in
    let after = c.arg_variable.new.terms in
    let kept = c.arg_variable.ensures.kept in
    let ps = c.args.parameters.now in
    let i = c.loop-parameter.parameter-index in
    let p = c.parameter-item.result in
    let arg = c.in_ok-arg.arg in
    let args = c.loop-parameter.args.items in
    let more = c.push.new.self.items in
    let start = c.args.order.now.items in
    let middle = c.loop-parameter.order.items in
    let end = c.arg_variable.new.order.items in
    record {
      kept = extends_trans old before after c.loop-parameter.invariant.kept kept;
      args = args_more after ps i p args more arg c.loop-parameter-test.true (args_extended before after kept (take i ps) args c.loop-parameter.invariant.args)
          (subst (λ (q : Parameter). IsArg after q.of_type arg) c.parameter-item.is c.in_ok-arg.ensures.arg) c.in_ok-push.ensures.items;
      order = grows_as old after start end (args_widths (take i ps) ++ value_widths p.of_type) (args_widths (take (i + 1) ps))
          (ap (λ (q : Parameter). args_widths (take i ps) ++ value_widths q.of_type) c.parameter-item.is ∙ widths_more ps i p c.loop-parameter-test.true)
          (grows_trans old before after start middle end (args_widths (take i ps)) (value_widths p.of_type) c.loop-parameter.invariant.order c.in_ok-arg.ensures.order);
      ids = ids_pushed arg_ids start end args more arg c.in_ok-push.ensures.items (ids_more start middle end (flat_map arg_ids args) (arg_ids arg) c.loop-parameter.invariant.ids c.in_ok-arg.ensures.ids);
    }
