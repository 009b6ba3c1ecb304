use Rattle.access_terms.proofs.Common.{bit_at, term_at, ◌&&◌, ◌∙◌, nat_eq, sym, places_at, keeps_trans, sym_bytes-later, written}
use Rattle.access_terms.proofs.Putting.{chosen_put, chosen_says, never_put}
use Rattle.access_terms.proofs.places.put_bytes_at.Goals as goal

pub returns-then-is_never-clause-made : goal.returns-then-is_never-clause-made
returns-then-is_never-clause-made c =
    sym_bytes-later c.args.terms.now c.both.new.terms (keeps_trans c.args.terms.now c.is_at.new.terms c.both.new.terms c.is_at.ensures.kept c.both.ensures.kept) c.args.places.now c.requires.places

pub returns-then-is_never-clause-stands : goal.returns-then-is_never-clause-stands
returns-then-is_never-clause-stands c = λ r.
    let k = keeps_trans c.args.terms.now c.is_at.new.terms c.both.new.terms c.is_at.ensures.kept c.both.ensures.kept in
    let says = chosen_says c.args.terms.now c.is_at.new.terms c.both.new.terms c.args.c c.in_ok-here.here c.in_ok-chosen.chosen c.args.offset c.args.place c.requires.c c.is_at.ensures.kept c.in_ok-here.ensures.made c.in_ok-chosen.ensures.made r.v in
    never_put c.args.terms.now c.both.new.terms k c.args.places.now c.requires.places r (bit_at r.v c.args.terms.now c.args.c && nat_eq (term_at r.v c.args.terms.now c.args.offset) c.args.place)
    (written (places_at r c.args.terms.now c.args.bytes.now) c.args.place (places_at r c.args.terms.now c.args.places.now)) (sym says ∙ c.is_never.ensures c.if-is_never.true r.v)

pub put_bytes-requires-clause-bytes : goal.put_bytes-requires-clause-bytes
put_bytes-requires-clause-bytes c =
    sym_bytes-later c.args.terms.now c.both.new.terms (keeps_trans c.args.terms.now c.is_at.new.terms c.both.new.terms c.is_at.ensures.kept c.both.ensures.kept) c.args.bytes.now c.requires.bytes

pub put_bytes-requires-clause-places : goal.put_bytes-requires-clause-places
put_bytes-requires-clause-places c =
    sym_bytes-later c.args.terms.now c.both.new.terms (keeps_trans c.args.terms.now c.is_at.new.terms c.both.new.terms c.is_at.ensures.kept c.both.ensures.kept) c.args.places.now c.requires.places

pub returns-clause-stands : goal.returns-clause-stands
returns-clause-stands c = λ r.
    let k = keeps_trans c.args.terms.now c.is_at.new.terms c.both.new.terms c.is_at.ensures.kept c.both.ensures.kept in
    let says = chosen_says c.args.terms.now c.is_at.new.terms c.both.new.terms c.args.c c.in_ok-here.here c.in_ok-chosen.chosen c.args.offset c.args.place c.requires.c c.is_at.ensures.kept c.in_ok-here.ensures.made c.in_ok-chosen.ensures.made r.v in
    chosen_put c.args.terms.now c.both.new.terms c.put_bytes.new.terms k c.args.bytes.now c.args.places.now c.put_bytes.new.places c.requires.bytes c.requires.places r c.args.place
    (bit_at r.v c.both.new.terms c.in_ok-chosen.chosen) (bit_at r.v c.args.terms.now c.args.c && nat_eq (term_at r.v c.args.terms.now c.args.offset) c.args.place) says (c.in_ok-put_bytes.ensures.stands r)
