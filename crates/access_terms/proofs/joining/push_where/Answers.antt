use Rattle.access_terms.proofs.Common.{◌≡◌, ◌∙◌, refl, rules, on_ok_weaker}
use Rattle.access_terms.proofs.Joins.{copied_is, where_made, where_stands}
use Rattle.access_terms.proofs.Memories.{pushed_made}
use Rattle.access_terms.proofs.joining.push_where.Goals as goal

pub returns-clause-made : goal.returns-clause-made
returns-clause-made c =
    let same : c.from_vec.result ≡ c.args.b.now.places = c.from_vec.ensures ∙ (c.in_ok-places.ensures.items_if_clones_equal (λ y e. search rules) ∙ c.as_slice.ensures) in
    on_ok_weaker c.push.result (λ is. pushed_made c.args.terms.now c.both.new.terms c.args.picked.now c.push.new.self _ c.both.ensures.kept c.requires.picked
    (where_made c.args.terms.now c.both.new.terms c.args.b.now c.in_ok-exists.exists c.both.ensures.kept c.requires.block (record { within = c.in_ok-exists.ensures.made.within; wide = c.in_ok-exists.ensures.made.wide }))
    (copied_is c.args.picked.now c.push.new.self c.args.b.now c.in_ok-exists.exists c.from_vec.result same is)) c.push.ensures.ok

pub returns-clause-grown : goal.returns-clause-grown
returns-clause-grown c = on_ok_weaker c.push.result (λ is. (_, is, refl)) c.push.ensures.ok

pub returns-clause-stands : goal.returns-clause-stands
returns-clause-stands c =
    let same : c.from_vec.result ≡ c.args.b.now.places = c.from_vec.ensures ∙ (c.in_ok-places.ensures.items_if_clones_equal (λ y e. search rules) ∙ c.as_slice.ensures) in
    on_ok_weaker c.push.result (λ is r. where_stands c.args.terms.now c.both.new.terms c.args.picked.now c.push.new.self c.args.b.now c.args.c c.in_ok-exists.exists c.from_vec.result r
    c.both.ensures.kept c.requires.picked c.requires.block same is (c.in_ok-exists.ensures.made.says r.v)) c.push.ensures.ok
