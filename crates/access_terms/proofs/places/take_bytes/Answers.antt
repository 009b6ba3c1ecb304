use Rattle.access_terms.proofs.Common.{◌+◌, ◌-◌, ◌∙◌, drop, length, nat_eq, sym, take, arith, bit_at, term_at, IsSymByte, places_at, sym_bytes-later}
use Rattle.access_terms.proofs.Putting.{each-part, never_put, taken}
use Rattle.access_terms.proofs.places.take_bytes.Goals as goal

pub returns-then-is_never-clause-made : goal.returns-then-is_never-clause-made
returns-then-is_never-clause-made c = sym_bytes-later c.args.terms.now c.is_at.new.terms c.is_at.ensures.kept c.args.bytes.now c.requires.bytes

pub returns-then-is_never-clause-stands : goal.returns-then-is_never-clause-stands
returns-then-is_never-clause-stands c = λ r.
    never_put c.args.terms.now c.is_at.new.terms c.is_at.ensures.kept c.args.bytes.now c.requires.bytes r (nat_eq (term_at r.v c.args.terms.now c.args.offset) c.args.place)
    (take (length c.args.bytes.now) (drop c.args.place (places_at r c.args.terms.now c.args.places.now))) (sym (c.in_ok-here.ensures.made.says r.v) ∙ c.is_never.ensures c.if-is_never.true r.v)

pub put_bytes-requires-clause-bytes : goal.put_bytes-requires-clause-bytes
put_bytes-requires-clause-bytes c =
    each-part (IsSymByte c.is_at.new.terms) (c.args.place + c.len.result - c.args.place) c.args.place c.args.places.now (sym_bytes-later c.args.terms.now c.is_at.new.terms c.is_at.ensures.kept c.args.places.now c.requires.places)

pub put_bytes-requires-clause-places : goal.put_bytes-requires-clause-places
put_bytes-requires-clause-places c = sym_bytes-later c.args.terms.now c.is_at.new.terms c.is_at.ensures.kept c.args.bytes.now c.requires.bytes

pub returns-clause-stands : goal.returns-clause-stands
returns-clause-stands c = λ r.
    taken c.args.terms.now c.is_at.new.terms c.put_bytes.new.terms c.is_at.ensures.kept c.args.places.now c.args.bytes.now c.put_bytes.new.places c.requires.places c.requires.bytes r c.args.place
    (c.args.place + c.len.result - c.args.place) (bit_at r.v c.is_at.new.terms c.in_ok-here.here) (nat_eq (term_at r.v c.args.terms.now c.args.offset) c.args.place) (c.in_ok-here.ensures.made.says r.v)
    (let e = c.len.ensures in omega (arith, e)) c.requires.room (c.in_ok-put_bytes.ensures.stands r)
