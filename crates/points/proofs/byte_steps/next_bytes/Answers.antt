use Rattle.points.proofs.Common.{◌-◌, length, refl, ap, arith}
use Rattle.points.proofs.Places.{bytes_last_past, byte_fits_at, bytes_last_more, next_bytes_is, last_bytes_is}
use Rattle.points.proofs.byte_steps.next_bytes.Goals as goal

pub loop-i-init : goal.loop-i-init
loop-i-init c = record { unchanged = refl; within = omega arith; last = bytes_last_past c.args.layout.now (length c.args.places.now) c.args.size c.args.places.now }

pub get-requires : goal.get-requires
get-requires c = let long = ap length c.loop-i.invariant.unchanged in omega (arith, long)

pub set-requires : goal.set-requires
set-requires c = let long = ap length c.loop-i.invariant.unchanged in omega (arith, long)

pub next_byte-requires : goal.next_byte-requires
next_byte-requires c =
    let fits = rw (← c.loop-i.invariant.unchanged) at c.requires.fit in
    byte_fits_at c.args.layout.now _ c.args.size c.loop-i.places (c.loop-i.i - 1) c.get.result.now (let room = c.requires.room in let long = ap length c.loop-i.invariant.unchanged in omega (arith, room, long)) fits (omega arith) c.get.ensures

pub returns-in-Some-clause-next : goal.returns-in-Some-clause-next
returns-in-Some-clause-next c = λ _.
    next_bytes_is c.args.layout.now (length c.args.places.now) c.args.size c.loop-i.places c.args.places.now c.set.new.self c.zero_bytes.new.places (c.loop-i.i - 1) c.get.result.now c.in-Some.byte
    (omega arith) c.requires.room c.requires.fit c.loop-i.invariant.unchanged (omega arith) c.get.ensures c.in-Some.ensures
    (λ j k x from e e'. c.loop-i.invariant.last j k x (omega (arith, from)) e e') c.set.ensures c.zero_bytes.ensures

pub returns-clause-last : goal.returns-clause-last
returns-clause-last c = λ _. (last_bytes_is c.args.layout.now (length c.args.places.now) c.args.size c.loop-i.places c.args.places.now c.loop-i.i (omega arith) c.requires.room c.requires.fit c.loop-i.invariant.unchanged c.loop-i.invariant.last (omega arith), c.loop-i.invariant.unchanged)

pub loop-i-preserved : goal.loop-i-preserved
loop-i-preserved c = record {
  unchanged = c.loop-i.invariant.unchanged;
  within = omega arith;
  last = bytes_last_more c.args.layout.now (length c.args.places.now) c.args.size c.loop-i.places c.loop-i.i c.get.result.now c.requires.room (omega arith) c.loop-i.invariant.within c.loop-i.invariant.last c.get.ensures c.in_default.ensures;
}
