use Rattle.points.proofs.Common.{refl, arith}
use Rattle.points.proofs.Cursor.{byte_here, read_more}
use Rattle.points.proofs.reading.places_with.Goals as goal

pub loop-place-init : goal.loop-place-init
loop-place-init c = record { left = c.args.room; count = omega arith; enough = c.requires; read = rw c.new-places.ensures.items refl }

pub byte_at-requires : goal.byte_at-requires
byte_at-requires c = byte_here c.args.room c.loop-place._place c.loop-place.places.items c.loop-place.rest.now c.args.digits.now c.loop-place.invariant (omega arith)

pub split_at-requires : goal.split_at-requires
split_at-requires c = (byte_here c.args.room c.loop-place._place c.loop-place.places.items c.loop-place.rest.now c.args.digits.now c.loop-place.invariant (omega arith)).six

pub loop-place-preserved : goal.loop-place-preserved
loop-place-preserved c = read_more c.args.room c.loop-place._place c.loop-place.places.items c.push.new.self.items c.loop-place.rest.now c.split_at.result.1.now c.args.digits.now c.byte_at.result c.loop-place.invariant (omega arith) c.in_ok-push.ensures.items c.byte_at.ensures c.split_at.ensures.back
