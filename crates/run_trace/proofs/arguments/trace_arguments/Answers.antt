use Rattle.run_trace.proofs.Common.{◌≡◌, ◌+◌, List, length, drop, Some, refl, sym, ap, subst, ◌∙◌, slice_get, drop_all, slice_get_read, slice_get_past, Parameter, Value, Call, At, Leads, position}
use Rattle.run_trace.proofs.Leading.{unrolled, argument_goes, argument_stops, arguments_end, begins_empty, begins_past}
use Rattle.run_trace.proofs.arguments.trace_arguments.Goals as goal

pub returns-in_default : goal.returns-in_default
returns-in_default c = λ f tape first jumps m ps turn leads.
    let rest = drop c.loop-k.k c.args.args.now in
    arguments_end f tape first c.loop-k.steps rest c.loop-k.k jumps m
    (begins_empty f rest c.loop-k.k jumps m (drop_all c.loop-k.k c.args.args.now c.in_default.ensures.lookup.3))
    (c.loop-k.invariant f tape first jumps m ps turn leads)

pub returns-then-is_broken : goal.returns-then-is_broken
returns-then-is_broken c = λ f tape first jumps m ps turn leads.
    let k = c.loop-k.k in
    let found = c.in-Some.ensures.lookup in
    let parameter = c.index-parameters-k.result in
    let there : slice_get f.parameters k ≡ Some parameter = ap (λ (ys : List Parameter). slice_get ys k) ps ∙ slice_get_read c.args.parameters.now (length c.args.parameters.now) k parameter refl c.loop-k-test.true c.index-parameters-k.is in
    let before = subst (λ (vs : List Value). Leads f tape first c.loop-k.steps (At (Call vs) (position 0 k jumps m))) (unrolled c.args.args.now k c.in-Some.arg.now found.3.0 found.1)
    (c.loop-k.invariant f tape first jumps m ps turn leads) in
    argument_stops f tape first c.loop-k.steps c.push.new.self k jumps m parameter c.in-Some.arg.now (drop (k + 1) c.args.args.now) c.in_ok-argument_step.field-0
    there (sym c.is_broken.ensures ∙ c.if-is_broken.true) before (c.in_ok-argument_step.ensures tape m (drop (k + 1) c.args.args.now) turn) c.in_ok-push.ensures.ok

pub loop-k-preserved : goal.loop-k-preserved
loop-k-preserved c = λ f tape first jumps m ps turn leads.
    let k = c.loop-k.k in
    let found = c.in-Some.ensures.lookup in
    let parameter = c.index-parameters-k.result in
    let there : slice_get f.parameters k ≡ Some parameter = ap (λ (ys : List Parameter). slice_get ys k) ps ∙ slice_get_read c.args.parameters.now (length c.args.parameters.now) k parameter refl c.loop-k-test.true c.index-parameters-k.is in
    let before = subst (λ (vs : List Value). Leads f tape first c.loop-k.steps (At (Call vs) (position 0 k jumps m))) (unrolled c.args.args.now k c.in-Some.arg.now found.3.0 found.1)
    (c.loop-k.invariant f tape first jumps m ps turn leads) in
    argument_goes f tape first c.loop-k.steps c.push.new.self k jumps m parameter c.in-Some.arg.now (drop (k + 1) c.args.args.now) c.in_ok-argument_step.field-0
    there (sym c.is_broken.ensures ∙ c.if-is_broken.false) before (c.in_ok-argument_step.ensures tape m (drop (k + 1) c.args.args.now) turn) c.in_ok-push.ensures.ok

pub returns : goal.returns
returns c = λ f tape first jumps m ps turn leads.
    let rest = drop c.loop-k.k c.args.args.now in
    arguments_end f tape first c.loop-k.steps rest c.loop-k.k jumps m
    (begins_past f rest c.loop-k.k jumps m (ap (λ (ys : List Parameter). slice_get ys c.loop-k.k) ps ∙ slice_get_past c.args.parameters.now c.loop-k.k c.loop-k-test.false))
    (c.loop-k.invariant f tape first jumps m ps turn leads)
