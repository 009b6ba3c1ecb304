use Rattle.access_terms.proofs.Common.{keeps_trans}
use Rattle.access_terms.proofs.Leading.{gep_made, gep_stands, kept_by_4}
use Rattle.access_terms.proofs.offsets.gep.Goals as goal

pub returns-clause-stands : goal.returns-clause-stands
returns-clause-stands c = λ r naming.
    gep_stands c.args.terms.now c.walk_from.new.terms c.has_no_offset.new.terms c.has_no_base.new.terms c.either.new.terms c.truth.new.terms
    c.walk_from.ensures.kept c.has_no_offset.ensures.kept c.has_no_base.ensures.kept c.either.ensures.kept c.truth.ensures.kept c.args.memory.now c.args.base c.args.indices.now c.args.inbounds c.args.nuw
    c.in_ok-walk.walk.leaves c.in_ok-walk.walk.offset c.in_ok-no_offset.no_offset c.in_ok-no_base.no_base c.in_ok-poison.poison c.in_ok-is_pointer.is_pointer r c.requires.base c.requires.indices
    c.in_ok-walk.ensures.offset_made.within c.in_ok-no_offset.ensures.made.within c.in_ok-poison.ensures.made.within
    (c.in_ok-walk.ensures.leaves_stands r naming) (c.in_ok-walk.ensures.offset_stands r.v) (c.in_ok-no_offset.ensures.stands r.v)
    (c.in_ok-no_base.ensures.made.says r.v) (c.in_ok-poison.ensures.made.says r.v) (c.in_ok-is_pointer.ensures.made.says r.v)

pub returns-clause-made : goal.returns-clause-made
returns-clause-made c =
    let t1 = c.walk_from.new.terms in
    let t2 = c.has_no_offset.new.terms in
    let t3 = c.has_no_base.new.terms in
    let t4 = c.either.new.terms in
    gep_made c.args.terms.now t1 t4 c.truth.new.terms c.args.base c.in_ok-walk.walk.offset c.in_ok-poison.poison c.in_ok-is_pointer.is_pointer c.walk_from.ensures.kept
    (keeps_trans t1 t2 t4 c.has_no_offset.ensures.kept (keeps_trans t2 t3 t4 c.has_no_base.ensures.kept c.either.ensures.kept)) c.truth.ensures.kept c.requires.base c.in_ok-walk.ensures.offset_made
    (record { within = c.in_ok-poison.ensures.made.within; wide = c.in_ok-poison.ensures.made.wide })
    (record { within = c.in_ok-is_pointer.ensures.made.within; wide = c.in_ok-is_pointer.ensures.made.wide })

pub returns-in_err-is_pointer-clause-kept : goal.returns-in_err-is_pointer-clause-kept
returns-in_err-is_pointer-clause-kept c =
    keeps_trans c.args.terms.now c.either.new.terms c.truth.new.terms
    (kept_by_4 c.args.terms.now c.walk_from.new.terms c.has_no_offset.new.terms c.has_no_base.new.terms c.either.new.terms c.walk_from.ensures.kept c.has_no_offset.ensures.kept c.has_no_base.ensures.kept c.either.ensures.kept) c.truth.ensures.kept

pub returns-clause-kept : goal.returns-clause-kept
returns-clause-kept c =
    keeps_trans c.args.terms.now c.either.new.terms c.truth.new.terms
    (kept_by_4 c.args.terms.now c.walk_from.new.terms c.has_no_offset.new.terms c.has_no_base.new.terms c.either.new.terms c.walk_from.ensures.kept c.has_no_offset.ensures.kept c.has_no_base.ensures.kept c.either.ensures.kept) c.truth.ensures.kept
