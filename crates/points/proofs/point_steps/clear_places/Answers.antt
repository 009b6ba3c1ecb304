use Rattle.points.proofs.Common.{sym, ◌∙◌, arith, length-set, zero_places}
use Rattle.points.proofs.Rows.{from_place-set, from_place-past}
use Rattle.points.proofs.point_steps.clear_places.Goals as goal

pub loop-i-preserved : goal.loop-i-preserved
loop-i-preserved c = record { same_length = rw length-set c.loop-i.invariant.same_length; done = rw c.zero_bytes.ensures (from_place-set zero_places c.loop-i.blocks c.loop-i.i c.get_mut.result.now c.get_mut.ensures.value ∙ c.loop-i.invariant.done) }

pub returns : goal.returns
returns c = sym (from_place-past zero_places c.loop-i.blocks c.loop-i.i (omega arith)) ∙ c.loop-i.invariant.done
