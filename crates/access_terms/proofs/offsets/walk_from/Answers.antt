use Rattle.access_terms.proofs.Common.{memory_at, keeps_trans}
use Rattle.access_terms.proofs.Leading.{kept_by_4, only_if, sym_indices-later, walk_leaves, walk_offset}
use Rattle.access_terms.proofs.offsets.walk_from.Goals as goal

pub returns-clause-offset_stands : goal.returns-clause-offset_stands
returns-clause-offset_stands c = λ v numbers.
    walk_offset c.args.terms.now c.size_named.new.terms c.walk_indices.new.terms c.any_passes.new.terms c.both.new.terms c.size_named.ensures.kept c.walk_indices.ensures.kept c.any_passes.ensures.kept c.both.ensures.kept
    c.args.base c.args.indices.now c.requires.base c.requires.indices c.in_ok-walk.walk.offset c.in_ok-walk.ensures.offset_made.within v (c.in_ok-walk.ensures.offset_stands v) numbers

pub returns-clause-leaves_stands : goal.returns-clause-leaves_stands
returns-clause-leaves_stands c = λ r naming numbers.
    only_if c.args.inbounds _ _ c.if-not-inbounds.false
    (walk_leaves c.args.terms.now c.size_named.new.terms c.walk_indices.new.terms c.any_passes.new.terms c.both.new.terms c.size_named.ensures.kept c.walk_indices.ensures.kept c.any_passes.ensures.kept c.both.ensures.kept
    c.args.base c.args.indices.now c.requires.base c.requires.indices c.in_ok-size.size c.in_ok-walk.walk.leaves c.in_ok-is_moved.is_moved c.in_ok-leaves-2.leaves (memory_at r c.args.terms.now c.args.memory.now) r c.in_ok-walk.ensures.leaves_made.within
    (c.in_ok-size.ensures.stands r naming) (c.in_ok-walk.ensures.leaves_stands r.v) (c.in_ok-is_moved.ensures.stands r.v) (c.in_ok-leaves-2.ensures.made.says r.v) numbers)

pub any_passes-requires : goal.any_passes-requires
any_passes-requires c =
    let t1 = c.size_named.new.terms in
    let t2 = c.walk_indices.new.terms in
    sym_indices-later c.args.terms.now t2 (keeps_trans c.args.terms.now t1 t2 c.size_named.ensures.kept c.walk_indices.ensures.kept) c.args.indices.now c.requires.indices

pub returns-in_err-leaves-2-clause-kept : goal.returns-in_err-leaves-2-clause-kept
returns-in_err-leaves-2-clause-kept c = kept_by_4 c.args.terms.now c.size_named.new.terms c.walk_indices.new.terms c.any_passes.new.terms c.both.new.terms c.size_named.ensures.kept c.walk_indices.ensures.kept c.any_passes.ensures.kept c.both.ensures.kept

pub returns-clause-kept : goal.returns-clause-kept
returns-clause-kept c = kept_by_4 c.args.terms.now c.size_named.new.terms c.walk_indices.new.terms c.any_passes.new.terms c.both.new.terms c.size_named.ensures.kept c.walk_indices.ensures.kept c.any_passes.ensures.kept c.both.ensures.kept
