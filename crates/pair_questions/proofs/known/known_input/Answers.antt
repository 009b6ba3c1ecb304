use Rattle.pair_questions.proofs.Common.{◌≤◌, arith, MemoryBlock, BytesFit, nameable}
use Rattle.pair_questions.proofs.Knowing.{args_fit_more, bytes_fit_more, each_given, input_stands, known_is}
use Rattle.pair_questions.proofs.known.known_input.Goals as goal

pub known_args-requires : goal.known_args-requires
known_args-requires c =
    let s = c.args.shape.now in
    rw (c.as_slice-parameters.ensures, c.as_slice.ensures) (args_fit_more s.parameters c.args.point.now.input.args s.layout nameable c.requires.blocks c.requires.point.args)

pub known_sizes-requires : goal.known_sizes-requires
known_sizes-requires c =
    let s = c.args.shape.now in
    let bytes = c.requires.bytes in
    rw c.as_slice-2.ensures (each_given (λ (b : MemoryBlock). b.size ≤ 63) s.layout 1 c.args.point.now.input.blocks (λ b h. let small = h.0 in omega (arith, bytes, small)) c.requires.point.given)

pub known_blocks-requires : goal.known_blocks-requires
known_blocks-requires c =
    let s = c.args.shape.now in
    let blocks = c.requires.blocks in
    rw c.as_slice-3.ensures (each_given (λ (b : MemoryBlock). BytesFit nameable b.places) s.layout 1 c.args.point.now.input.blocks (λ b h. bytes_fit_more b.places s.layout nameable blocks h.1.1) c.requires.point.given)

pub returns-clause-is : goal.returns-clause-is
returns-clause-is c =
    let s = c.args.shape.now in
    let bs = c.args.point.now.input.blocks in
    let one = c.known_args.new.terms in
    let two = c.known_sizes.new.terms in
    let three = c.known_blocks.new.terms in
    known_is one two three s bs c.in_ok-args.args c.in_ok-sizes.sizes c.in_ok-places.places c.known_sizes.ensures.kept c.known_blocks.ensures.kept c.requires.point.given
    (rw c.as_slice-parameters.ensures at c.in_ok-args.ensures.are) (rw c.as_slice-2.ensures at c.in_ok-sizes.ensures.count) c.in_ok-sizes.ensures.are
    (rw c.as_slice-3.ensures at c.in_ok-places.ensures.count) (rw c.as_slice-3.ensures at c.in_ok-places.ensures.are)

pub returns-clause-stands : goal.returns-clause-stands
returns-clause-stands c v =
    let s = c.args.shape.now in
    let p = c.args.point.now in
    let one = c.known_args.new.terms in
    let two = c.known_sizes.new.terms in
    let three = c.known_blocks.new.terms in
    input_stands one two three v s p c.in_ok-args.args c.in_ok-sizes.sizes c.in_ok-places.places c.known_sizes.ensures.kept c.known_blocks.ensures.kept c.requires.point
    (rw c.as_slice-parameters.ensures at c.in_ok-args.ensures.are) c.in_ok-sizes.ensures.are
    ((rw (c.as_slice-parameters.ensures, c.as_slice.ensures) at (c.in_ok-args.ensures.stands s.layout v)) c.requires.point.args)
    (rw c.as_slice-2.ensures at (c.in_ok-sizes.ensures.stands v)) (rw c.as_slice-3.ensures at (c.in_ok-places.ensures.stands s.layout v))
