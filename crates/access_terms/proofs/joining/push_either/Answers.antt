use Rattle.access_terms.proofs.Common.{◌∙◌, refl, on_ok_weaker, is_term-later, keeps_trans, sym_bytes-later}
use Rattle.access_terms.proofs.Joins.{either_made, either_stands}
use Rattle.access_terms.proofs.Memories.{pushed_made}
use Rattle.access_terms.proofs.joining.push_either.Goals as goal

pub pick_bytes-requires-clause-a : goal.pick_bytes-requires-clause-a
pick_bytes-requires-clause-a c =
    rw c.as_slice.ensures (sym_bytes-later c.args.terms.now c.pick-2.new.terms (keeps_trans c.args.terms.now c.pick.new.terms c.pick-2.new.terms c.pick.ensures.kept c.pick-2.ensures.kept) c.args.a.now.places c.requires.a.places)

pub pick_bytes-requires-clause-b : goal.pick_bytes-requires-clause-b
pick_bytes-requires-clause-b c =
    rw c.as_slice-2.ensures (sym_bytes-later c.args.terms.now c.pick-2.new.terms (keeps_trans c.args.terms.now c.pick.new.terms c.pick-2.new.terms c.pick.ensures.kept c.pick-2.ensures.kept) c.args.b.now.places c.requires.b.places)

pub returns-clause-made : goal.returns-clause-made
returns-clause-made c =
    let t0 = c.args.terms.now in
    let t1 = c.pick.new.terms in
    let t2 = c.pick-2.new.terms in
    let t3 = c.pick_bytes.new.terms in
    on_ok_weaker c.push.result (λ is. pushed_made t0 t3 c.args.picked.now c.push.new.self _ (keeps_trans t0 t1 t3 c.pick.ensures.kept (keeps_trans t1 t2 t3 c.pick-2.ensures.kept c.pick_bytes.ensures.kept)) c.requires.picked
    (either_made t1 t2 t3 c.args.a.now c.in_ok-exists.exists c.in_ok-size.size c.in_ok-places.places c.pick-2.ensures.kept c.pick_bytes.ensures.kept c.requires.a.numbered
    (record { within = c.in_ok-exists.ensures.made.within; wide = c.in_ok-exists.ensures.made.wide ∙ c.requires.a.exists.wide })
    (record { within = c.in_ok-size.ensures.made.within; wide = c.in_ok-size.ensures.made.wide ∙ (is_term-later t0 t1 c.pick.ensures.kept 64 c.args.a.now.size c.requires.a.size).wide })
    c.in_ok-places.ensures.made) is) c.push.ensures.ok

pub returns-clause-grown : goal.returns-clause-grown
returns-clause-grown c = on_ok_weaker c.push.result (λ is. (_, is, refl)) c.push.ensures.ok

pub returns-clause-stands : goal.returns-clause-stands
returns-clause-stands c =
    on_ok_weaker c.push.result (λ is r. either_stands c.args.terms.now c.pick.new.terms c.pick-2.new.terms c.pick_bytes.new.terms c.args.picked.now c.push.new.self c.args.a.now c.args.b.now c.args.c c.in_ok-exists.exists c.in_ok-size.size c.in_ok-places.places _ _ r
    c.pick.ensures.kept c.pick-2.ensures.kept c.pick_bytes.ensures.kept c.requires.c c.requires.a c.requires.b c.requires.alike c.requires.picked is c.in_ok-exists.ensures.made c.in_ok-size.ensures.made
    (rw (c.as_slice.ensures, c.as_slice-2.ensures) at (c.in_ok-places.ensures.stands r))) c.push.ensures.ok
