use Rattle.mem_terms.proofs.Later.{byte_terms_each-later, keeps_trans}
use Rattle.mem_terms.proofs.GivenTerms.{given_block-stands}
use Rattle.mem_terms.proofs.given.given_block.Goals as goal

pub given_places-requires : goal.given_places-requires
given_places-requires c =
    byte_terms_each-later c.args.terms.now c.resize.new.terms (keeps_trans c.args.terms.now c.truth.new.terms c.resize.new.terms c.truth.ensures.kept c.resize.ensures.kept) c.args.places.now c.requires.places

pub returns-clause-stands : goal.returns-clause-stands
returns-clause-stands c =
    given_block-stands c.args.terms.now c.truth.new.terms c.resize.new.terms c.given_places.new.terms c.args.number c.args.size c.in_ok-exists.exists c.in_ok-size.size c.args.places.now c.in_ok-places.places
    c.values_fit.ensures c.requires.size c.requires.places c.truth.ensures.kept c.resize.ensures.kept c.in_ok-size.ensures.made c.given_places.ensures.kept c.in_ok-places.ensures.stands
