use Rattle.access_terms.proofs.Common.{IfOk-weaker, keeps_trans}
use Rattle.access_terms.proofs.Leading.{no_offset_is, sym_indices-later}
use Rattle.access_terms.proofs.offsets.has_no_offset.Goals as goal

pub has_poison-requires : goal.has_poison-requires
has_poison-requires c =
    sym_indices-later c.args.terms.now c.either.new.terms (keeps_trans c.args.terms.now c.breaks_nuw.new.terms c.either.new.terms c.breaks_nuw.ensures.kept c.either.ensures.kept) c.args.indices.now c.requires.indices

pub returns-clause-stands : goal.returns-clause-stands
returns-clause-stands c = IfOk-weaker c.either-2.result _ _ (λ id m v. no_offset_is c.args.terms.now c.breaks_nuw.new.terms c.either.new.terms c.has_poison.new.terms c.either-2.new.terms c.args.indices.now c.args.leaves c.in_ok-is_broken.is_broken c.in_ok-breaks.breaks c.in_ok-no_index.no_index id c.args.nuw v
    c.breaks_nuw.ensures.kept c.either.ensures.kept c.has_poison.ensures.kept c.requires.indices c.requires.leaves.within c.in_ok-breaks.ensures.made.within
    (c.in_ok-is_broken.ensures.stands v) (c.in_ok-breaks.ensures.made.says v) (c.in_ok-no_index.ensures.made.says v) (m.says v)) c.either-2.ensures.made
