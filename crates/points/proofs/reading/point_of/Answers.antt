use Rattle.points.proofs.Common.{◌≡◌, ap, sym, ◌∙◌, arith, rules, args_from}
use Rattle.points.proofs.Cursor.{args_count, have_blocks}
use Rattle.points.proofs.Decoded.{read_point}
use Rattle.points.proofs.reading.point_of.Goals as goal

pub args_with-requires : goal.args_with-requires
args_with-requires c = let long = args_count _ _ _ c.parts_of-parts.ensures.args in rw c.as_slice.ensures (omega (arith, long))

pub blocks_with-requires : goal.blocks_with-requires
blocks_with-requires c = have_blocks c.args.shape.now.layout c.args.shape.now.layout.blocks _ _ c.parts_of-parts.ensures.sizes c.parts_of-parts.ensures.places

pub returns : goal.returns
returns c =
    let parts = c.parts_of-parts.ensures in
    let reads = read_point c.args.shape.now _ _ _ _ parts.args parts.sizes parts.places parts.tape in
    let args = c.in_ok-args.ensures ∙ ap (λ ps. args_from ps c.parts_of-parts.result.args.now) c.as_slice.ensures in
    let tape : c.from_vec-tape.result ≡ c.parts_of-parts.result.tape.now = search rules in
    record {
      of_shape = rw (args, c.in_ok-blocks.ensures, tape) reads.fits;
      code = rw (args, c.in_ok-blocks.ensures, tape) reads.code ∙ sym parts.whole;
    }
