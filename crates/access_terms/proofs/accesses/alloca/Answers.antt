use Rattle.access_terms.proofs.Common.{◌∙◌, refl, replicate, on_ok_weaker, Bits, keeps_trans, is_term-later, bit-later, places-later, sym_bytes-later}
use Rattle.access_terms.proofs.Memories.{alloca_stands, new_block, pushed_made}
use Rattle.access_terms.proofs.accesses.alloca.Goals as goal

pub returns-clause-memory : goal.returns-clause-memory
returns-clause-memory c =
    let t0 = c.args.terms.now in
    let t1 = c.truth.new.terms in
    let t2 = c.poison_bytes.new.terms in
    let t3 = c.number.new.terms in
    let k13 = keeps_trans t1 t2 t3 c.poison_bytes.ensures.kept c.number.ensures.kept in
    on_ok_weaker c.push.result (λ is. pushed_made t0 t3 c.args.memory.now c.push.new.self _ (keeps_trans t0 t1 t3 c.truth.ensures.kept k13) c.requires.memory
    (record {
      numbered = c.requires.number;
      exists = is_term-later t1 t3 k13 1 c.in_ok-exists.exists (record { within = c.in_ok-exists.ensures.made.within; wide = c.in_ok-exists.ensures.made.wide });
      size = record { within = c.in_ok-size.ensures.made.within; wide = c.in_ok-size.ensures.made.wide };
      places = sym_bytes-later t2 t3 c.number.ensures.kept c.in_ok-places.places c.in_ok-places.ensures.made;
    }) is) c.push.ensures.ok

pub returns-clause-grown : goal.returns-clause-grown
returns-clause-grown c = on_ok_weaker c.push.result (λ is. (_, is, refl)) c.push.ensures.ok

pub returns-clause-after : goal.returns-clause-after
returns-clause-after c =
    let t0 = c.args.terms.now in
    let t1 = c.truth.new.terms in
    let t2 = c.poison_bytes.new.terms in
    let t3 = c.number.new.terms in
    let k13 = keeps_trans t1 t2 t3 c.poison_bytes.ensures.kept c.number.ensures.kept in
    on_ok_weaker c.push.result (λ is r. alloca_stands t0 t3 c.args.memory.now c.push.new.self _ r (keeps_trans t0 t1 t3 c.truth.ensures.kept k13) c.requires.memory is
    (bit-later t1 t3 k13 r.v c.in_ok-exists.exists c.in_ok-exists.ensures.made.within ∙ c.in_ok-exists.ensures.made.says r.v) _
    (new_block r t3 c.args.number c.args.align c.args.size c.in_ok-exists.exists c.in_ok-size.size c.in_ok-places.places (c.in_ok-size.ensures.made.says r.v) (replicate c.args.size (Bits 0 255))
    (places-later t2 t3 c.number.ensures.kept r c.in_ok-places.places c.in_ok-places.ensures.made ∙ c.in_ok-places.ensures.stands r))) c.push.ensures.ok
