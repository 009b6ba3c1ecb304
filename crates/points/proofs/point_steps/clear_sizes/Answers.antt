use Rattle.points.proofs.Common.{sym, ◌∙◌, arith, length-set, zero_size}
use Rattle.points.proofs.Rows.{from_place-set, from_place-past}
use Rattle.points.proofs.point_steps.clear_sizes.Goals as goal

pub loop-i-preserved : goal.loop-i-preserved
loop-i-preserved c = record { same_length = rw length-set c.loop-i.invariant.same_length; done = from_place-set zero_size c.loop-i.blocks c.loop-i.i c.get_mut.result.now c.get_mut.ensures.value ∙ c.loop-i.invariant.done }

pub returns : goal.returns
returns c = sym (from_place-past zero_size c.loop-i.blocks c.loop-i.i (omega arith)) ∙ c.loop-i.invariant.done
