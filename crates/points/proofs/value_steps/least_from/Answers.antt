use Rattle.points.proofs.Common.{refl, sym, ◌∙◌, arith, length-set, slice_get_read}
use Rattle.points.proofs.Values.{least_from-set, least_from-past}
use Rattle.points.proofs.value_steps.least_from.Goals as goal

pub loop-i-preserved : goal.loop-i-preserved
loop-i-preserved c =
    let found = slice_get_read c.args.parameters.now _ c.loop-i.i c.index-parameters-i.result refl (omega arith) c.index-parameters-i.is in
    let here = rw c.index-parameters-i.is at found in
    record {
      same_length = rw (c.set.ensures, length-set) c.loop-i.invariant.same_length;
      done = rw (c.set.ensures, c.least_value.ensures) (least_from-set c.args.parameters.now c.loop-i.args c.loop-i.i _ here ∙ c.loop-i.invariant.done);
    }

pub returns : goal.returns
returns c = sym (least_from-past c.args.parameters.now c.loop-i.args c.loop-i.i (omega arith)) ∙ c.loop-i.invariant.done
