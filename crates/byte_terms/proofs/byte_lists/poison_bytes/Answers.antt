use Rattle.byte_terms.proofs.Common.{◌≡◌, ◌∙◌, sym, subst, ap, rules, replicate, AreSymBytes, IsSymByte, byte_at, places_at}
use Rattle.byte_terms.proofs.ByteLists.{each-replicate, map-replicate}
use Rattle.byte_terms.proofs.byte_lists.poison_bytes.Goals as goal

pub returns-clause-made : goal.returns-clause-made
returns-clause-made c =
    let is : c.from_vec.result ≡ replicate c.args.count c.in_ok-byte.byte = c.from_vec.ensures ∙ c.in_ok-bytes.ensures.items_if_clones_equal (λ y e. search rules) in
    subst (AreSymBytes c.poison_byte.new.terms) (sym is) (each-replicate (IsSymByte c.poison_byte.new.terms) c.args.count c.in_ok-byte.byte c.in_ok-byte.ensures.made)

pub returns-clause-stands : goal.returns-clause-stands
returns-clause-stands c =
    let is : c.from_vec.result ≡ replicate c.args.count c.in_ok-byte.byte = c.from_vec.ensures ∙ c.in_ok-bytes.ensures.items_if_clones_equal (λ y e. search rules) in
    λ r. ap (places_at r c.poison_byte.new.terms) is ∙ (map-replicate (byte_at r c.poison_byte.new.terms) c.args.count c.in_ok-byte.byte ∙ ap (replicate c.args.count) (c.in_ok-byte.ensures.stands r))
