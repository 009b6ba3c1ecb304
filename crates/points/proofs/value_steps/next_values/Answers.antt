use Rattle.points.proofs.Common.{◌-◌, refl, arith, slice_get_read}
use Rattle.points.proofs.Args.{ArgsFit-length, none_past}
use Rattle.points.proofs.Values.{values_last_more, value_fits_at, next_values_is, last_values_are}
use Rattle.points.proofs.value_steps.next_values.Goals as goal

pub loop-i-init : goal.loop-i-init
loop-i-init c = record {
  same_length = ArgsFit-length c.args.layout.now c.args.parameters.now c.args.args.now c.requires;
  unchanged = refl;
  last = λ k t v from e e'. absurd (none_past c.args.parameters.now k t from e);
}

pub next_value-requires : goal.next_value-requires
next_value-requires c =
    let found = slice_get_read c.args.parameters.now _ (c.loop-i.i - 1) c.index-parameters-i.result refl (omega arith) c.index-parameters-i.is in
    let here = rw c.index-parameters-i.is at found in
    let fits = rw (← c.loop-i.invariant.unchanged) at c.requires in
    value_fits_at c.args.layout.now c.args.parameters.now c.loop-i.args (c.loop-i.i - 1) _ c.get.result.now fits here c.get.ensures

pub returns-in-Some-clause-next : goal.returns-in-Some-clause-next
returns-in-Some-clause-next c = λ _.
    let found = slice_get_read c.args.parameters.now _ (c.loop-i.i - 1) c.index-parameters-i.result refl (omega arith) c.index-parameters-i.is in
    let here = rw c.index-parameters-i.is at found in
    next_values_is c.args.layout.now c.args.parameters.now c.loop-i.args c.args.args.now c.set.new.self c.least_from.new.args (c.loop-i.i - 1) _ c.get.result.now c.in-Some.value
    (omega arith) c.loop-i.invariant.unchanged c.requires (omega arith) here c.get.ensures c.in-Some.ensures
    (λ k t v from e e'. c.loop-i.invariant.last k t v (omega (arith, from)) e e') c.set.ensures c.least_from.ensures

pub loop-i-preserved : goal.loop-i-preserved
loop-i-preserved c =
    let found = slice_get_read c.args.parameters.now _ (c.loop-i.i - 1) c.index-parameters-i.result refl (omega arith) c.index-parameters-i.is in
    let here = rw c.index-parameters-i.is at found in
    record {
      same_length = c.loop-i.invariant.same_length;
      unchanged = c.loop-i.invariant.unchanged;
      last = values_last_more c.args.layout.now c.args.parameters.now c.loop-i.args c.loop-i.i _ c.get.result.now (omega arith) c.loop-i.invariant.last here c.get.ensures c.in_default.ensures;
    }

pub returns-clause-last : goal.returns-clause-last
returns-clause-last c = λ _. (last_values_are c.args.layout.now c.args.parameters.now c.loop-i.args c.args.args.now c.loop-i.i (omega arith) c.loop-i.invariant.unchanged c.requires c.loop-i.invariant.last (omega arith), c.loop-i.invariant.unchanged)
