use Rattle.refine_terms.proofs.Common.{arith, keeps_trans}
use Rattle.refine_terms.proofs.PointChains.{are_narrow, are_blocks, code_decides}
use Rattle.refine_terms.proofs.point.code.Goals as goal

pub args_code-requires : goal.args_code-requires
args_code-requires c = rw (c.as_slice.ensures, c.as_slice-2.ensures) c.requires.input.args

pub all_at_most-requires : goal.all_at_most-requires
all_at_most-requires c = rw c.as_slice-3.ensures (are_narrow c.args.terms.now c.args_code.new.terms 6 c.args.input.now.sizes (omega arith) c.args_code.ensures.kept c.requires.input.sizes)

pub blocks_code-requires-clause-sizes : goal.blocks_code-requires-clause-sizes
blocks_code-requires-clause-sizes c =
    let kept = keeps_trans c.args.terms.now c.args_code.new.terms c.all_at_most.new.terms c.args_code.ensures.kept c.all_at_most.ensures.kept in
    rw c.as_slice-5.ensures (are_narrow c.args.terms.now c.all_at_most.new.terms 6 c.args.input.now.sizes (omega arith) kept c.requires.input.sizes)

pub blocks_code-requires-clause-places : goal.blocks_code-requires-clause-places
blocks_code-requires-clause-places c =
    let kept = keeps_trans c.args.terms.now c.args_code.new.terms c.all_at_most.new.terms c.args_code.ensures.kept c.all_at_most.ensures.kept in
    rw c.as_slice-4.ensures (are_blocks c.args.terms.now c.all_at_most.new.terms c.args.shape.now.layout c.args.input.now.places kept c.requires.input.places)

pub all_at_most-requires-2 : goal.all_at_most-requires-2
all_at_most-requires-2 c =
    let kept = keeps_trans c.args.terms.now c.args_code.new.terms c.all_at_most.new.terms c.args_code.ensures.kept c.all_at_most.ensures.kept in
    rw c.as_slice-6.ensures
    (are_narrow c.args.terms.now c.blocks_code.new.terms 64 c.args.tape.now.words (omega arith) (keeps_trans c.args.terms.now c.all_at_most.new.terms c.blocks_code.new.terms kept c.blocks_code.ensures.kept) c.requires.tape.words)

pub returns-clause-made : goal.returns-clause-made
returns-clause-made c =
    code_decides c.args.shape.now c.args.input.now c.args.tape.now c.args.terms.now c.args_code.new.terms c.all_at_most.new.terms c.blocks_code.new.terms c.all_at_most-2.new.terms c.both.new.terms c.both-2.new.terms c.both-3.new.terms
    c.in_ok-args.args c.in_ok-sizes.sizes c.in_ok-places.places c.in_ok-words.words c.in_ok-behind.behind c.in_ok-rest.rest c.in_ok-id.id c.requires.input c.requires.tape
    c.args_code.ensures.kept c.all_at_most.ensures.kept c.blocks_code.ensures.kept c.all_at_most-2.ensures.kept c.both.ensures.kept c.both-2.ensures.kept
    (rw (c.as_slice.ensures, c.as_slice-2.ensures) at c.in_ok-args.ensures.made) (rw c.as_slice-3.ensures at c.in_ok-sizes.ensures.made) (rw (c.as_slice-4.ensures, c.as_slice-5.ensures) at c.in_ok-places.ensures.made)
    (rw (c.as_slice-6.ensures, c.mask.ensures) at c.in_ok-words.ensures.made) c.in_ok-behind.ensures.made c.in_ok-rest.ensures.made c.in_ok-id.ensures.made
